-- The causes of a guest image in the words of its format, a line for each: where one stands in a part.
use Rattle.std.specs.Prelude.{◌≡◌, ◌≢◌, ◌↔◌, ◌⊎◌, ℕ, ◌/◌, ◌%◌, ◌^◌, ◌<◌, ◌≤◌, true, List, length, Some, IsSome, slice_index}
use Rattle.std.specs.FinMap as maps
use Rattle.mig_refusals.specs.Common.{be64, le32, le64, AreCanonicalPairs, HostOf, HostFrame, IsAbove, PartKey, GuestImageVersion, head_type_number, content_causes, frame_causes, host_head_causes, padding_causes, page_causes, part_causes, HasIn, row_of, ImageCause}
use Rattle.mig_guest.specs.Parts.{parts_of}
use Rattle.mig_headers.specs.declared.image_fault.ImageCause.TheVariants as causes
use Rattle.mig_image.specs.declared.version.GuestImageVersion.TheVariants.{One, Two}
use Rattle.mig_image.specs.GuestImageParts.{head_key, head_pfn, head_version}
use Rattle.mig_refusals.specs.ImageFile.{IsCodeOf, IsNoType}

-- how many frame numbers an image of a version may have
abbrev pub most_numbers : GuestImageVersion → ℕ
most_numbers One = 2 ^ 28
most_numbers Two = 2 ^ 52

-- the file's head; hosts up to this width are taken
pub data ImageHeadHas (widest : ℕ) (head : List ℕ) : ImageCause → Type 0 where
  other_name : be64 head 0 ≢ 0x5847494D41474531 → be64 head 0 ≢ 0x5847494D41474532 → ImageHeadHas widest head causes.NotImage
  other_kind : le32 head 8 ≢ 1 → le32 head 8 ≢ 2 → ImageHeadHas widest head (causes.BadKind (le32 head 8))
  not_zero : le32 head 12 ≢ 0 → ImageHeadHas widest head causes.Reserved
  too_wide : widest < le64 head 16 → ImageHeadHas widest head (causes.Width (le64 head 16))
  wide_for_version : most_numbers (head_version head) < le64 head 16 → ImageHeadHas widest head (causes.Width (le64 head 16))
  pv_without_width : le32 head 8 ≡ 1 → le64 head 16 ≡ 0 → ImageHeadHas widest head (causes.Width (le64 head 16))
  wide_for_pv : le32 head 8 ≡ 1 → 2 ^ 32 < le64 head 16 → ImageHeadHas widest head (causes.Width (le64 head 16))
  many_frames : 2 ^ 24 < le64 head 24 → ImageHeadHas widest head (causes.FrameCount (le64 head 24))
  more_than_wide : le64 head 16 < le64 head 24 → ImageHeadHas widest head (causes.FrameCount (le64 head 24))

-- a frame's head, behind the frames of this host
pub data ImageFrameHas (version : GuestImageVersion) (h : HostOf) (head : List ℕ) : ImageCause → Type 0 where
  high_bits_1 : version ≡ One → le64 head 0 / 2 ^ 32 ≢ 0 → ImageFrameHas version h head causes.Reserved
  high_bits_2 : version ≡ Two → le64 head 0 / 2 ^ 53 % 2 ^ 7 ≢ 0 → ImageFrameHas version h head causes.Reserved
  idle_flag_2 : version ≡ Two → le64 head 0 / 2 ^ 52 % 2 ≡ 1 → 13 ≤ head_type_number version head → ImageFrameHas version h head causes.Reserved
  other_type : IsNoType h.kind (head_type_number version head) → ImageFrameHas version h head (causes.BadPageType (head_type_number version head))
  not_above : (q : ℕ) → IsSome (maps.get h.frames q) → head_pfn version head ≤ q → ImageFrameHas version h head (causes.FrameOrder (head_pfn version head))
  outside : h.width ≤ head_pfn version head → ImageFrameHas version h head (causes.FrameOutside (head_pfn version head))
  no_machine : le64 head 8 ≡ 0 → ImageFrameHas version h head (causes.MachineFrame (le64 head 8))
  large_machine : 2 ^ 40 ≤ le64 head 8 → ImageFrameHas version h head (causes.MachineFrame (le64 head 8))
  taken : (q : ℕ) (frame : HostFrame) → maps.get h.frames q ≡ Some frame → frame.machine ≡ le64 head 8 → ImageFrameHas version h head (causes.MachineTwice (le64 head 8))

-- a page that is sent
pub data ImagePageHas (version : GuestImageVersion) (pfn : ℕ) (page : List ℕ) : ImageCause → Type 0 where
  all_zeros : version ≡ Two → ((place : ℕ) → place < length page → slice_index page place ≡ 0) → ImagePageHas version pfn page (causes.ZeroPage pfn)

-- the head of a part, behind the parts of this host: its code, keys and length
pub data ImagePartHas (h : HostOf) (head : List ℕ) : ImageCause → Type 0 where
  no_row : (IsCodeOf (le32 head 0) (λ code. ((row_of code).of_kind h.kind ≡ true) × ((row_of code).keys (le32 head 4) (le32 head 8) ≡ true)) → ⊥) → ImagePartHas h head (causes.PartKey (le32 head 0))
  not_above : (q : PartKey) → IsSome (maps.get h.parts q) → (q ≡ head_key head) ⊎ IsAbove (Some (head_key head)) q → ImagePartHas h head (causes.PartOrder (le32 head 0))
  many_leaves : le32 head 0 ≡ 17 → 65536 ≤ length (parts_of (le32 head 0) (maps.entries h.parts)) → ImagePartHas h head (causes.PartMany (le32 head 0))
  many_msrs : le32 head 0 ≡ 18 → 65536 ≤ length (parts_of (le32 head 0) (maps.entries h.parts)) → ImagePartHas h head (causes.PartMany (le32 head 0))
  other_length : (IsCodeOf (le32 head 0) (λ code. (row_of code).allows h.width (le32 head 12) ≡ true) → ⊥) → ImagePartHas h head (causes.PartLength (le32 head 12))

-- the bytes of a part of this code, and the zeros behind them
pub data ImageContentHas (code : ℕ) (bytes : List ℕ) : ImageCause → Type 0 where
  other_pairs : code ≡ 258 → (AreCanonicalPairs bytes → ⊥) → ImageContentHas code bytes causes.PartBytes

pub data ImagePaddingHas (padding : List ℕ) : ImageCause → Type 0 where
  not_zeros : (((place : ℕ) → place < length padding → slice_index padding place ≡ 0) → ⊥) → ImagePaddingHas padding causes.PartPadding

-- of each table: some condition that holds has a cause exactly where the cause stands in words
pub record ImageTablesSay : Type 0 where
  pub in_head : (widest : ℕ) (head : List ℕ) (cause : ImageCause) → HasIn (host_head_causes widest head) cause ↔ ImageHeadHas widest head cause
  pub in_frame : (version : GuestImageVersion) (h : HostOf) (head : List ℕ) (cause : ImageCause) → HasIn (frame_causes version h head) cause ↔ ImageFrameHas version h head cause
  pub in_page : (version : GuestImageVersion) (pfn : ℕ) (page : List ℕ) (cause : ImageCause) → HasIn (page_causes version pfn page) cause ↔ ImagePageHas version pfn page cause
  pub in_part : (h : HostOf) (head : List ℕ) (cause : ImageCause) → HasIn (part_causes h head) cause ↔ ImagePartHas h head cause
  pub in_content : (code : ℕ) (bytes : List ℕ) (cause : ImageCause) → HasIn (content_causes code bytes) cause ↔ ImageContentHas code bytes cause
  pub in_padding : (padding : List ℕ) (cause : ImageCause) → HasIn (padding_causes padding) cause ↔ ImagePaddingHas padding cause
