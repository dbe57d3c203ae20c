-- What is shown of an input.
use Rattle.std.specs.Prelude.{◌≡◌, ◌≤◌, ℕ, List, ◌++◌, codes, Option, Some, None, Result, Ok, Err}
use Rattle.mig_show.specs.Common.{Consumes, Data, compact_text, Rose, Cause, Place}
use Rattle.mig_bytes.specs.Judged.Judged.{Passes}
use Rattle.mig_libxl_form.specs.Stream.{StreamOf}
use Rattle.mig_relay.specs.Streams.{open_stream_at, IsOpenRefused}
use Rattle.mig_relay.specs.Spots.{begins_with_ident}
use Rattle.mig_show.specs.Fronts.{ShownFront, StandsBefore}
use Rattle.mig_show.specs.Tree.{shown_tree}
use Rattle.mig_show.specs.declared.viewer.ShowAnswer.{ShowAnswer}
use Rattle.mig_show.specs.declared.viewer.ShowAnswer.TheVariants.{ReadFault, Memory}

-- the tree of a front, and of why the stream is refused behind it
abbrev pub front_tree : ShownFront → Option (Place × Cause) → Data
front_tree front refused = shown_tree front.wrapper front.version front.kind front.records refused

-- its text, in a line
abbrev pub tree_line : Data → List ℕ
tree_line tree = compact_text tree ++ codes "\n"

-- a front of the input was taken, which may pass, whatever follows it: it is shown whole
pub record ShowsWhole (told left : Option (List ℕ)) (tree : Data) : Type 0 where
  pub bytes : List ℕ
  pub s : StreamOf
  pub passes : (more : List ℕ) → open_stream_at (bytes ++ more) ≡ Passes s more
  pub taken : Consumes told left bytes
  pub front : ShownFront
  pub stands : StandsBefore bytes front None
  pub form : front.wrapper ≡ begins_with_ident bytes
  pub tree_is : tree ≡ front_tree front None

-- the input is refused: what is in front of that place is shown, and nothing of the faulty part
pub record ShowsRefused (input : List ℕ) (left : Option (List ℕ)) (place : Place) (cause : Cause) (tree : Data) : Type 0 where
  pub rest : List ℕ
  pub refused : IsOpenRefused input place cause rest
  pub left_is : left ≡ Some rest
  pub bytes : List ℕ
  pub more : List ℕ
  pub split : input ≡ bytes ++ more
  pub front : ShownFront
  pub stands : StandsBefore bytes front (Some place)
  pub form : front.wrapper ≡ begins_with_ident input
  pub tree_is : tree ≡ front_tree front (Some (place, cause))

-- what is shown, where the input tells its bytes; and in any case a tree of some front
abbrev pub Shows : Option (List ℕ) → Option (List ℕ) → Option (Place × Cause) → Data → Type 0
Shows told left None tree = ShowsWhole told left tree
Shows None left (Some refused) tree = (front : ShownFront) × (tree ≡ front_tree front (Some refused))
Shows (Some input) left (Some refused) tree = ShowsRefused input left refused.0 refused.1 tree

-- a read fault is answered only where the count of the source rose, and every other answer only where it is as it was
abbrev pub RisesOnShow : {X : Type 0} → ℕ → ℕ → Result X ShowAnswer → Type 0
RisesOnShow reads read (Ok x) = read ≡ reads
RisesOnShow reads read (Err ReadFault) = (reads ≤ read) × Rose reads read
RisesOnShow reads read (Err Memory) = read ≡ reads
