-- Judging the parts of an image takes a front.
use Rattle.mig_restore.proofs.Common.{ℕ, ◌*◌, List, Bool, true, false, cond, Option, Some, None, le32, Judged, ◌>>=◌, part, tried, Passes, Cause, Truncated, ImageHeader, DomainHeader, Kind, RecordType, PartCode, word_has_data, Nothing, Frames, Sets, Before, opening_of, code_of_type, with_places, entry_at, list_at, pages_at, typed_at, body_at, head_at, lists_of, marker_at, version_at, kind_at, fault_of_head, fault_of_list, fault_of_page, fault_of_body, fault_of_count, fault_of_p2m, parts_of_body, each, placed, plain_at, PageData, X86PvInfo, X86PvP2mFrames, fault_of_pv_info}
use Rattle.mig_bytes.proofs.Fronts.{TakesFronts, front_each, front_part, front_pass, front_placed, front_said, front_then}
use Rattle.mig_bytes.specs.Fields.{be32}
use Rattle.mig_headers.specs.Headers.{fault_of_marker, fault_of_image, fault_of_domain, kind_of_number}
use Rattle.mig_headers.specs.RecordTypes.{is_optional, type_of_number}
use Rattle.mig_records.specs.Words.{words}
use Rattle.mig_restore_form.specs.Judging.{coded_at, page_at, words_at}
use Rattle.mig_restore_form.specs.Stream.{opening_at, opening_behind}

front_checked : {C X : Type 0} (o : Option C) (f : List ℕ → Judged C X) → TakesFronts f → TakesFronts (λ i. tried o i >>= λ _. f i)
front_checked None f first i x rest h = first i x rest h
front_checked (Some c) f first i x rest h = absurd (cc)

pub front_plain : {C X : Type 0} (truncated : C) (says : List ℕ → X) (n : ℕ) → TakesFronts (plain_at truncated says n)
front_plain truncated says n = front_then (part truncated n) (λ bytes. Passes (says bytes.0) bytes.1) (front_part truncated n) (λ bytes. front_pass (says bytes))

front_if : {C X : Type 0} (b : Bool) (f g : List ℕ → Judged C X) → TakesFronts f → TakesFronts g → TakesFronts (λ i. cond b (f i) (g i))
front_if true f g first other = first
front_if false f g first other = other

-- ---- parts of a record

pub front_head : (b : Before) → TakesFronts (head_at b)
front_head b = front_said Truncated (fault_of_head b) (λ head. head) 8

module _ (kind : Kind) (top len : ℕ) where
  abbrev judged_list : List ℕ × List ℕ → Judged Cause (List ℕ)
  judged_list ws = tried (fault_of_list kind top len ws.0) ws.1 >>= λ _. Passes ws.0 ws.1

  pub front_list : TakesFronts (list_at kind top len)
  front_list =
      front_then (part Truncated 8) (λ front. tried (fault_of_count len (le32 front.0 0)) front.1 >>= λ _. words_at (le32 front.0 0) front.1 >>= judged_list) (front_part Truncated 8)
      (λ front. front_checked (fault_of_count len (le32 front 0)) (λ i. words_at (le32 front 0) i >>= judged_list)
      (front_then (words_at (le32 front 0)) judged_list (front_plain Truncated (words (le32 front 0)) (8 * le32 front 0)) (λ ws. front_checked (fault_of_list kind top len ws) (λ i. Passes ws i) (front_pass ws))))

  front_page : (at : ℕ × ℕ) → TakesFronts (page_at kind top at)
  front_page at = front_if (word_has_data at.1) _ _ (front_said Truncated (fault_of_page kind top at) (λ page. Some page) 4096) (front_pass None)

  pub front_entry : (at : ℕ × ℕ) → TakesFronts (entry_at kind top at)
  front_entry at = front_then (page_at kind top at) _ (front_page at) (λ page. front_pass _)

  pub front_pages : TakesFronts (pages_at kind top len)
  front_pages =
      front_then _ (λ entries. Passes (Frames entries.0) entries.1) (front_then (list_at kind top len) (λ ws. each (entry_at kind top) (with_places 0 ws.0) ws.1) front_list (λ ws. front_each (entry_at kind top) front_entry (with_places 0 ws)))
      (λ entries. front_pass (Frames entries))

  front_coded : (o : Option PartCode) → TakesFronts (coded_at o len)
  front_coded None = front_pass Nothing
  front_coded (Some code) = front_said Truncated (fault_of_body code) (λ body. Sets code (parts_of_body code body)) len

  pub front_typed : (o : Option RecordType) → TakesFronts (typed_at kind top o len)
  front_typed None = front_pass Nothing
  front_typed (Some PageData) = front_pages
  front_typed (Some X86PvInfo) = front_said Truncated fault_of_pv_info (λ _. Nothing) len
  front_typed (Some X86PvP2mFrames) = front_said Truncated fault_of_p2m lists_of len
  front_typed (Some this) = front_coded (code_of_type this)

  pub front_body : (type : ℕ) → TakesFronts (body_at kind top type len)
  front_body type = front_if (is_optional type) _ _ (front_plain Truncated (λ _. Nothing) len) (front_typed (type_of_number type))

-- ---- the headers

pub front_opening_behind : TakesFronts opening_behind
front_opening_behind =
    front_then (λ i. placed ImageHeader (version_at i)) (λ version. placed DomainHeader (kind_at version.1) >>= λ kind. Passes (opening_of version.0 kind.0) kind.1) (front_placed ImageHeader version_at (front_said Truncated fault_of_image (λ header. be32 header 4) 16))
    (λ version. front_then (λ i. placed DomainHeader (kind_at i)) (λ kind. Passes (opening_of version kind.0) kind.1) (front_placed DomainHeader kind_at (front_said Truncated fault_of_domain (λ header. kind_of_number (le32 header 0)) 16))
    (λ kind. front_pass (opening_of version kind)))

pub front_opening : TakesFronts opening_at
unfolding opening_at
front_opening = front_then (λ i. placed ImageHeader (marker_at i)) (λ marker. opening_behind marker.1) (front_placed ImageHeader marker_at (front_said Truncated fault_of_marker (λ marker. marker) 8)) (λ _. front_opening_behind)
