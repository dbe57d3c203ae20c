-- The form of a guest image: its parts in byte order, and in each the causes that may stand in it, in the order of their
-- numbers. Judging is one reading of it; its refusals in words are the other.
use Rattle.std.specs.Prelude.{ℕ, ◌/◌, ◌%◌, ◌^◌, List, [], ◌∷◌, length, Option, Some, if◌then◌else◌}
use Rattle.std.specs.FinMap as maps
use Rattle.mig_image.specs.Common.{padding_len, le32, le64, be64, Judged, Test, ImageCause, ImagePlace, most_policy_entries, most_frames, top_limit, machine_limit, is_type_of, HostOf, code_of_number, PartMap, parts_of, has_machine, put_frame, put_part_in}
use Rattle.mig_bytes_form.specs.Form.{FormOf, ◌>>>◌, bytes_form, said_form, steps_form, placed_form, judged_as}
use Rattle.mig_bytes_form.specs.Form.FormOf.{Gives}
use Rattle.mig_bytes_form.specs.Tests.Test.{Less, AtMost, Equal, Is, Not, Both, Either}
use Rattle.mig_headers.specs.Pairs.{are_canonical_pairs}
use Rattle.mig_headers.specs.declared.image_fault.ImageCause.TheVariants.{Truncated, NotImage, BadKind, Reserved, Width, FrameCount, BadPageType, FrameOrder, FrameOutside, MachineFrame, MachineTwice, PartOrder, PartMany, PartLength, PartBytes, PartPadding, ZeroPage}
use Rattle.mig_headers.specs.declared.image_fault.ImageCause.TheVariants as causes
use Rattle.mig_headers.specs.declared.image_fault.ImagePlace.TheVariants as places
use Rattle.mig_image.specs.declared.version.GuestImageVersion.{GuestImageVersion}
use Rattle.mig_image.specs.declared.version.GuestImageVersion.TheVariants.{One, Two}
use Rattle.mig_image.specs.GuestImage.{most_width_of, is_all_zero, leaves_out}
use Rattle.mig_image.specs.GuestImageParts.{name_number, head_version, head_pfn, head_type_number, head_type, head_key, is_sent, page_unsent, frame_said, opened, has_frame_from, has_part_from, code_fits, code_allows}

-- ---- conditions and their causes

-- the file's head: its name, the kind, 0, the width and the number of frames; hosts up to this width are taken
abbrev pub host_head_causes : ℕ → List ℕ → List (Test × ImageCause)
host_head_causes widest head =
    (Both (Not (Equal (be64 head 0) (name_number One))) (Not (Equal (be64 head 0) (name_number Two))), NotImage)
    ∷ (Both (Not (Equal (le32 head 8) 1)) (Not (Equal (le32 head 8) 2)), BadKind (le32 head 8))
    ∷ (Not (Equal (le32 head 12) 0), Reserved)
    ∷ (Either (Less widest (le64 head 16)) (Either (Less (most_width_of (head_version head)) (le64 head 16)) (Both (Equal (le32 head 8) 1) (Either (Equal (le64 head 16) 0) (Less top_limit (le64 head 16))))), Width (le64 head 16))
    ∷ (Either (Less most_frames (le64 head 24)) (Less (le64 head 16) (le64 head 24)), FrameCount (le64 head 24))
    ∷ []

-- a bit of a frame's word is set beside those of the type, the PFN and the zero flag, bit 52 of version 2, or this flag where
-- the type has no data
abbrev pub reserved_bits : GuestImageVersion → List ℕ → Test
reserved_bits One head = Not (Equal (le64 head 0 / 2 ^ 32) 0)
reserved_bits Two head = Either (Not (Equal (le64 head 0 / 2 ^ 53 % 2 ^ 7) 0)) (Both (Equal (le64 head 0 / 2 ^ 52 % 2) 1) (AtMost 13 (head_type_number Two head)))

-- a frame's head, behind the frames of this host: a word with type and frame number, and the machine frame
abbrev pub frame_causes : GuestImageVersion → HostOf → List ℕ → List (Test × ImageCause)
frame_causes version h head =
    (reserved_bits version head, Reserved)
    ∷ (Not (Is (is_type_of h.kind (head_type version head))), BadPageType (head_type_number version head))
    ∷ (Is (has_frame_from h (head_pfn version head)), FrameOrder (head_pfn version head))
    ∷ (AtMost h.width (head_pfn version head), FrameOutside (head_pfn version head))
    ∷ (Either (Equal (le64 head 8) 0) (AtMost machine_limit (le64 head 8)), MachineFrame (le64 head 8))
    ∷ (Is (has_machine h (le64 head 8)), MachineTwice (le64 head 8))
    ∷ []

-- the page with this number that is sent behind a frame's head: in a version that leaves out pages of zeros some byte isn't zero
abbrev pub page_causes : GuestImageVersion → ℕ → List ℕ → List (Test × ImageCause)
page_causes version pfn page = (Both (Is (leaves_out version)) (Is (is_all_zero page)), ZeroPage pfn) ∷ []

-- the code is that of a policy's entries, of which these parts have as many as there may be
abbrev pub full_policy : PartMap → ℕ → Test
full_policy parts code = Both (Either (Equal code 17) (Equal code 18)) (AtMost most_policy_entries (length (parts_of code (maps.entries parts))))

-- the head of a host's part, behind the parts of this host: code, keys and length
abbrev pub part_causes : HostOf → List ℕ → List (Test × ImageCause)
part_causes h head =
    (Not (Is (code_fits (code_of_number (le32 head 0)) h.kind (head_key head))), causes.PartKey (le32 head 0))
    ∷ (Is (has_part_from h.parts (head_key head)), PartOrder (le32 head 0))
    ∷ (full_policy h.parts (le32 head 0), PartMany (le32 head 0))
    ∷ (Not (Is (code_allows (code_of_number (le32 head 0)) h.width (le32 head 12))), PartLength (le32 head 12))
    ∷ []

-- the bytes of a host's part of this code, and the padding behind them
abbrev pub content_causes : ℕ → List ℕ → List (Test × ImageCause)
content_causes code bytes = (Both (Equal code 258) (Not (Is (are_canonical_pairs bytes))), PartBytes) ∷ []

abbrev pub padding_causes : List ℕ → List (Test × ImageCause)
padding_causes padding = (Not (Is (is_all_zero padding)), PartPadding) ∷ []

-- ---- the form

-- the head of a file, of a host up to this width
abbrev pub host_head_form : ℕ → FormOf ImageCause (List ℕ)
host_head_form widest = bytes_form Truncated 32 (host_head_causes widest)

-- a frame behind those of a host: its head, and the page where one is sent
abbrev pub frame_head_form : GuestImageVersion → HostOf → FormOf ImageCause (List ℕ)
frame_head_form version h = bytes_form Truncated 16 (frame_causes version h)

abbrev pub sent_page_form : GuestImageVersion → ℕ → FormOf ImageCause (List ℕ)
sent_page_form version pfn = bytes_form Truncated 4096 (page_causes version pfn)

abbrev pub page_form : GuestImageVersion → List ℕ → FormOf ImageCause (Option (List ℕ))
page_form version head = if is_sent version head then (sent_page_form version (head_pfn version head) >>> λ page. Gives (Some page)) else Gives (page_unsent version head)

abbrev pub host_frame_form : GuestImageVersion → HostOf → FormOf ImageCause HostOf
host_frame_form version h = frame_head_form version h >>> λ head. page_form version head >>> λ page. Gives (put_frame h (head_pfn version head) (frame_said version head page))

abbrev pub count_form : FormOf ImageCause ℕ
count_form = said_form Truncated 8 (λ _. []) (λ count. le64 count 0)

-- a part behind those of a host: its head, so many bytes, and padding
abbrev pub part_head_form : HostOf → FormOf ImageCause (List ℕ)
part_head_form h = bytes_form Truncated 16 (part_causes h)

abbrev pub part_bytes_form : ℕ → ℕ → FormOf ImageCause (List ℕ)
part_bytes_form code len = bytes_form Truncated len (content_causes code)

abbrev pub padding_form : ℕ → FormOf ImageCause (List ℕ)
padding_form len = bytes_form Truncated (padding_len len) padding_causes

abbrev pub host_part_form : HostOf → FormOf ImageCause HostOf
host_part_form h = part_head_form h >>> λ head. part_bytes_form (le32 head 0) (le32 head 12) >>> λ bytes. padding_form (le32 head 12) >>> λ _. Gives (put_part_in h (head_key head) bytes)

-- n frames behind those of a host, and n parts, numbered from 0
abbrev pub frames_form : GuestImageVersion → HostOf → ℕ → FormOf (ImagePlace × ImageCause) HostOf
frames_form version h n = steps_form (λ i h. placed_form (places.Frame i) (host_frame_form version h)) n 0 h

abbrev pub host_parts_form : HostOf → ℕ → FormOf (ImagePlace × ImageCause) HostOf
host_parts_form h n = steps_form (λ i h. placed_form (places.Part i) (host_part_form h)) n 0 h

-- behind all frames the number of parts, and the parts; and behind a head the frames, and these
abbrev pub behind_frames : HostOf → FormOf (ImagePlace × ImageCause) HostOf
behind_frames h = placed_form places.Parts count_form >>> host_parts_form h

abbrev pub behind_head : List ℕ → FormOf (ImagePlace × ImageCause) HostOf
behind_head head = frames_form (head_version head) (opened head) (le64 head 24) >>> behind_frames

-- the guest image of a host up to this width
unfoldable pub guest_image_form : ℕ → FormOf (ImagePlace × ImageCause) HostOf
guest_image_form widest = placed_form places.Head (host_head_form widest) >>> behind_head

-- ---- judging

-- the host of an image of either version, and what follows it; wider ones are refused
abbrev pub host_at : ℕ → List ℕ → Judged (ImagePlace × ImageCause) HostOf
host_at widest input = judged_as (guest_image_form widest) input
