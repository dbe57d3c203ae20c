-- The records of a libxl stream, and what they say (libxl migration stream, "Records").
use Rattle.std.specs.Prelude.{ℕ, List}
use Rattle.mig_libxl_form.specs.Common.{Pair, PartKey, ImageOf}

-- what a record says: nothing; the image that follows LIBXC_CONTEXT; pairs for an emulator's store, by the key of the part
-- that they are added to; or an emulator's context, by the key of the part that it is
pub data LibxlContent : Type 0 where
  Nothing : LibxlContent
  Image : ImageOf → LibxlContent
  Pairs : PartKey → List Pair → LibxlContent
  Context : PartKey → List ℕ → LibxlContent

pub record LibxlRecord : Type 0 where
  pub type : ℕ
  pub content : LibxlContent
