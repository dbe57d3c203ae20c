-- A stream whose records are shown: what was taken, and what was written of it.
use Rattle.std.specs.Prelude.{◌≡◌, ℕ, List, Option, Some, None, ⊤}
use Rattle.mig_tool_guest.specs.Common.{Appends, AppendsPart, Cause, Place, Effects, OutputRises, Status}
use Rattle.serde_json.specs.Data.{Data}
use Rattle.mig_show.specs.Shows.{Shows, tree_line}
use Rattle.mig_tool_report.specs.declared.status.Status.TheVariants as statuses
use Rattle.mig_tool_guest.specs.Relays.{PassableFront}

-- a front of the input may pass, rest follows it, and the text of its records was written
pub record FrontShown (input : List ℕ) (left old new : Option (List ℕ)) : Type 0 where
  pub rest : List ℕ
  pub front : PassableFront input rest
  pub left_is : left ≡ Some rest
  pub tree : Data
  pub shows : Shows (Some input) left None tree
  pub wrote : Appends old new (tree_line tree)

-- the text of what was taken, or of what stands in front of the part that is refused; a part of it was written
pub record PartShown (told left old new : Option (List ℕ)) : Type 0 where
  pub refused : Option (Place × Cause)
  pub tree : Data
  pub shows : Shows told left refused tree
  pub wrote : AppendsPart old new (tree_line tree)

-- What was written: the whole text of a front that may pass, with status 0; that of what stands in front of the refused part,
-- with status 1; and a part of one of these, but not all, with status 4.
abbrev pub SaysShown : Status → Option (List ℕ) → Option (List ℕ) → Option (List ℕ) → Option (List ℕ) → Type 0
SaysShown statuses.Done told left old new = (tree : Data) × Shows told left None tree × Appends old new (tree_line tree)
SaysShown statuses.Refused told left old new = (place : Place) × (cause : Cause) × (tree : Data) × Shows told left (Some (place, cause)) tree × Appends old new (tree_line tree)
SaysShown statuses.WriteFault told left old new = PartShown told left old new
SaysShown _ told left old new = ⊤

-- the same, and the count of the output's failed writes rose exactly with status 4
pub record IsShown (status : Status) (e : Effects) : Type 0 where
  pub says : SaysShown status e.input.told e.input.left e.out.old e.out.new
  pub write : OutputRises status e.out.failed e.out.failed_now
