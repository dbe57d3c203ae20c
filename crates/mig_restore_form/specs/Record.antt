-- The records of an image, and what they say (libxc migration stream, "Records").
use Rattle.std.specs.Prelude.{ℕ, List, [], ◌∷◌, map, Option, Bool, ◌==◌, if◌then◌else◌}
use Rattle.mig_restore_form.specs.Common.{list_any, End, Verify, type_number, some_earlier, PageType, PartCode, Part}

-- an entry of a PAGE_DATA record: a frame number and a type, and the page where the type has data
pub record FrameEntry : Type 0 where
  pub pfn : ℕ
  pub type : PageType
  pub page : Option (List ℕ)

-- what a record says: nothing; frames; parts of one code, of each key the last; the P2M frames of all frame numbers up to
-- one; or frames that are compared with those that were sent
pub data Content : Type 0 where
  Nothing : Content
  Frames : List FrameEntry → Content
  Sets : PartCode → List Part → Content
  Lists : ℕ → List ℕ → Content
  Checks : List FrameEntry → Content

pub record StreamRecord : Type 0 where
  pub type : ℕ
  pub content : Content

abbrev pub types_of : List StreamRecord → List ℕ
types_of records = map (λ r. r.type) records

-- whether a VERIFY is among records of these types
abbrev pub is_verified : List ℕ → Bool
is_verified types = some_earlier types (Verify ∷ [])

-- what a body says where its record stands: behind a VERIFY frames are compared, and no more are set
abbrev pub placed_content : Bool → Content → Content
placed_content verified (Frames es) = if verified then Checks es else Frames es
placed_content verified said = said

-- whether some record ends the image
abbrev pub is_ended : List StreamRecord → Bool
is_ended records = list_any (λ t. t == type_number End) (types_of records)
