-- Refusals of a guest image: what the conditions of its form say, the order of its causes, and the place of a refusal, told by
-- the faultless front before it.
use Rattle.std.specs.Prelude.{ℕ, ◌<◌, true, List, ◌≡◌, ◌↔◌, Some, length, ◌⊎◌, ◌≤◌, false, IsSome, slice_index}
use Rattle.std.specs.FinMap as maps
use Rattle.mig_refusals.specs.Common.{le64, is_ascending, number_of_image_cause, AreCanonicalPairs, are_canonical_pairs, Kind, Hvm, is_type_of, HostOf, HostFrame, IsAbove, PartCode, PartKey, PartMap, GuestImageVersion, is_all_zero, head_version, head_type_number, head_type, opened, has_frame_from, has_part_from, code_fits, code_allows, host_head_causes, frame_causes, page_causes, part_causes, content_causes, padding_causes, host_head_form, host_frame_form, count_form, host_part_form, frames_form, host_parts_form, guest_image_form, ImageCause}
use Rattle.mig_bytes_form.specs.Form.{FormOf, ◌>>>◌, placed_form, paired, BeginsAs, RefusedAs}
use Rattle.mig_headers.specs.declared.image_fault.ImagePlace.{ImagePlace}
use Rattle.mig_headers.specs.declared.image_fault.ImagePlace.TheVariants as places
use Rattle.mig_guest.specs.PartCodes.{code_number, code_of_number, row_of}
use Rattle.mig_host.specs.HostView.{has_machine}

-- ---- what truth values in conditions say

-- the numbers of types that no frame of a guest of this kind has
abbrev pub IsNoType : Kind → ℕ → Type 0
IsNoType kind n = ((5 ≤ n) × (n ≤ 8)) ⊎ ((15 ≤ n) ⊎ ((kind ≡ Hvm) × (n ≡ 0 → ⊥) × (n ≡ 13 → ⊥) × (n ≡ 14 → ⊥)))

-- a code has this number, and of its row this is so
abbrev pub IsCodeOf : ℕ → (PartCode → Type 0) → Type 0
IsCodeOf n Allows = (code : PartCode) × (n ≡ code_number code) × Allows code

pub record ImageTestsSay : Type 0 where
  pub other_type : (version : GuestImageVersion) (kind : Kind) (head : List ℕ) → (is_type_of kind (head_type version head) ≡ false) ↔ IsNoType kind (head_type_number version head)
  pub frame_from : (h : HostOf) (pfn : ℕ) → (has_frame_from h pfn ≡ true) ↔ ((q : ℕ) × IsSome (maps.get h.frames q) × (pfn ≤ q))
  pub machine : (h : HostOf) (machine : ℕ) → (has_machine h machine ≡ true) ↔ ((q : ℕ) × (frame : HostFrame) × (maps.get h.frames q ≡ Some frame) × (frame.machine ≡ machine))
  pub part_from : (parts : PartMap) (key : PartKey) → (has_part_from parts key ≡ true) ↔ ((q : PartKey) × IsSome (maps.get parts q) × ((q ≡ key) ⊎ IsAbove (Some key) q))
  pub all_zero : (bytes : List ℕ) → (is_all_zero bytes ≡ true) ↔ ((place : ℕ) → place < length bytes → slice_index bytes place ≡ 0)
  pub pairs : (bytes : List ℕ) → (are_canonical_pairs bytes ≡ true) ↔ AreCanonicalPairs bytes
  pub fits : (n : ℕ) (kind : Kind) (key : PartKey) → (code_fits (code_of_number n) kind key ≡ true) ↔ IsCodeOf n (λ code. ((row_of code).of_kind kind ≡ true) × ((row_of code).keys key.key1 key.key2 ≡ true))
  pub allowed : (n width len : ℕ) → (code_allows (code_of_number n) width len ≡ true) ↔ IsCodeOf n (λ code. (row_of code).allows width len ≡ true)

-- every table is in the order of the causes' numbers
pub record ImageCausesAscend : Type 0 where
  pub in_head : (widest : ℕ) (head : List ℕ) → is_ascending number_of_image_cause (host_head_causes widest head) ≡ true
  pub in_frame : (version : GuestImageVersion) (h : HostOf) (head : List ℕ) → is_ascending number_of_image_cause (frame_causes version h head) ≡ true
  pub in_page : (version : GuestImageVersion) (pfn : ℕ) (page : List ℕ) → is_ascending number_of_image_cause (page_causes version pfn page) ≡ true
  pub in_part : (h : HostOf) (head : List ℕ) → is_ascending number_of_image_cause (part_causes h head) ≡ true
  pub in_content : (code : ℕ) (bytes : List ℕ) → is_ascending number_of_image_cause (content_causes code bytes) ≡ true
  pub in_padding : (padding : List ℕ) → is_ascending number_of_image_cause (padding_causes padding) ≡ true

-- ---- refusals

-- the input is refused as a guest image of a host up to this width, at this place, for this cause, and rest follows the faulty
-- part
abbrev pub RefusedGuestImage : ℕ → List ℕ → ImagePlace → ImageCause → List ℕ → Type 0
RefusedGuestImage widest input place cause rest = RefusedAs (guest_image_form widest) input (place, cause) rest

-- ---- the place of a refusal

-- a head and all its frames; and the number of parts behind them
abbrev pub all_frames : ℕ → FormOf (ImagePlace × ImageCause) HostOf
all_frames widest = placed_form places.Head (host_head_form widest) >>> λ head. frames_form (head_version head) (opened head) (le64 head 24)

abbrev pub up_to_count : ℕ → FormOf (ImagePlace × ImageCause) (HostOf × ℕ)
up_to_count widest = paired (all_frames widest) (λ _. placed_form places.Parts count_form)

-- a head and the first n of its frames; and all frames, the number of parts, and the first n parts
abbrev pub head_and_frames : ℕ → ℕ → FormOf (ImagePlace × ImageCause) (List ℕ × HostOf)
head_and_frames widest n = paired (placed_form places.Head (host_head_form widest)) (λ head. frames_form (head_version head) (opened head) n)

abbrev pub count_and_parts : ℕ → ℕ → FormOf (ImagePlace × ImageCause) ((HostOf × ℕ) × HostOf)
count_and_parts widest n = paired (up_to_count widest) (λ counted. host_parts_form counted.0 n)

-- what is refused, and behind which faultless front
pub data RefusedInPart (widest : ℕ) (input : List ℕ) (cause : ImageCause) (rest : List ℕ) : ImagePlace → Type 0 where
  in_head : RefusedAs (host_head_form widest) input cause rest → RefusedInPart widest input cause rest places.Head
  in_frame : (head left : List ℕ) (n : ℕ) (h : HostOf) → BeginsAs (head_and_frames widest n) input (head, h) left → n < le64 head 24 → RefusedAs (host_frame_form (head_version head) h) left cause rest → RefusedInPart widest input cause rest (places.Frame n)
  in_count : (left : List ℕ) (framed : HostOf) → BeginsAs (all_frames widest) input framed left → RefusedAs count_form left cause rest → RefusedInPart widest input cause rest places.Parts
  in_part : (left : List ℕ) (count n : ℕ) (framed h : HostOf) → BeginsAs (count_and_parts widest n) input ((framed, count), h) left → n < count → RefusedAs (host_part_form h) left cause rest → RefusedInPart widest input cause rest (places.Part n)

-- the place is that of the part that is refused
pub record PlaceIsOfPart : Type 0 where
  pub agree : (widest : ℕ) (input : List ℕ) (place : ImagePlace) (cause : ImageCause) (rest : List ℕ) → RefusedGuestImage widest input place cause rest ↔ RefusedInPart widest input cause rest place
