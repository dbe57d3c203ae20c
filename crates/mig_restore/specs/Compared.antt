-- What is said of the entries behind a VERIFY: how many differ from the frames that were sent.
use Rattle.std.specs.Prelude.{◌≡◌, ◌≤◌, ℕ, ◌+◌, ◌*◌, ◌^◌, ⊤, Bool, true, List, Option, Some, None, ◌==◌, if◌then◌else◌}
use Rattle.std.specs.FinMap as maps
use Rattle.mig_restore.specs.Common.{Kind, FrameMap, StreamRecord, ImageOf, checked_in, differing, differs_of}

-- where values of the type compare: one that has noted frames, of which these are kept, says this of the frames that it noted
abbrev pub IsCompared : {K : Type 0} → Bool → (K → List ℕ → Option (List ℕ) → FrameMap → Type 0) → (FrameMap → FrameMap) → K → Option (List ℕ) → FrameMap → (FrameMap → Type 0) → Type 0
IsCompared compares notes kept keeper left there Says = compares ≡ true → (all : List ℕ) (frames : FrameMap) → notes keeper all left frames → there ≡ kept frames → Says frames

-- and of a whole image, where no frames were noted before it: the number is that of the entries that differ
abbrev pub IsImageCompared : {K : Type 0} → Bool → (K → List ℕ → Option (List ℕ) → FrameMap → Type 0) → K → Option (List ℕ) → Option ℕ → ImageOf → Type 0
IsImageCompared compares notes keeper left differs image = compares ≡ true → (all : List ℕ) → notes keeper all left maps.empty → differs ≡ differs_of image.opening.kind image.records

-- VERIFY begins the number, and behind it the entries of a record that differ are added
abbrev pub differs_with : Option ℕ → ℕ → ℕ → Option ℕ
differs_with None type more = if type == 0xD then Some 0 else None
differs_with (Some n) type more = Some (n + more)

abbrev pub differs_behind : Kind → FrameMap → Option ℕ → StreamRecord → Option ℕ
differs_behind kind frames differs r = differs_with differs r.type (differing kind frames (checked_in r.content))

-- no more entries differ than so many records may have
abbrev pub IsWithinRecords : ℕ → Option ℕ → Type 0
IsWithinRecords records None = ⊤
IsWithinRecords records (Some n) = n ≤ 2 ^ 24 * records
