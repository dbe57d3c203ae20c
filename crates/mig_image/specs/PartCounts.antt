-- What is counted of the parts that were read.
use Rattle.std.specs.Prelude.{◌≡◌, length}
use Rattle.std.specs.FinMap as maps
use Rattle.mig_image.specs.Common.{PartMap, parts_of}
use Rattle.mig_image.specs.declared.read_part.Entries.{Entries}

-- the entries of each policy among these parts
pub record Counts (entries : Entries) (parts : PartMap) : Type 0 where
  pub leaves : entries.leaves ≡ length (parts_of 17 (maps.entries parts))
  pub msrs : entries.msrs ≡ length (parts_of 18 (maps.entries parts))
