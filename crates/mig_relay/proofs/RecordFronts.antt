-- Judging a record of an image takes a front, and looks at nothing behind it.
use Rattle.mig_relay.proofs.Common.{ℕ, ◌*◌, List, Bool, true, false, cond, Option, Some, None, padding_len, le32, ◌>>=◌, part, tried, plain_at, Passes, TakesFronts, front_pass, front_part, front_said, front_then, is_optional, type_of_number, Kind, RecordType, PageData, X86PvInfo, X86PvP2mFrames, Truncated, PartCode, word_pfn, word_has_data, fault_of_pv_info, fault_of_p2m, fault_of_body, parts_of_body, fault_of_count, words, is_verified, placed_content, Nothing, Frames, Sets, Before, fault_of_head, head_at, fault_of_page, page_at, entry_at, entries_at, words_at, with_places, lists_of, code_of_type, coded_at, typed_at, body_at, type_in_word, fault_of_list, list_at, front_each}
use Rattle.mig_restore_form.specs.Judging.{record_at}
use Rattle.mig_restore_form.proofs.Parts.{behind_body, behind_head}
use Rattle.mig_relay.proofs.Fronts.{front_checked, front_plain}

-- ---- bodies, in a stream of this kind with frame numbers up to top

module _ (kind : Kind) (top : ℕ) where
  -- a page, where the word has data
  page_front : (at : ℕ × ℕ) (b : Bool) → TakesFronts (λ i. cond b (part Truncated 4096 i >>= λ page. tried (fault_of_page kind top at page.0) page.1 >>= λ _. Passes (Some page.0) page.1) (Passes None i))
  page_front at true = front_then (part Truncated 4096) (λ page. tried (fault_of_page kind top at page.0) page.1 >>= λ _. Passes (Some page.0) page.1) (front_part Truncated 4096)
      (λ page. front_checked (fault_of_page kind top at page) (Passes (Some page)) (front_pass (Some page)))
  page_front at false = front_pass None

  -- an entry of a PAGE_DATA, and all that stand behind its count
  front_entry : (at : ℕ × ℕ) → TakesFronts (entry_at kind top at)
  front_entry at = front_then (page_at kind top at) (λ page. Passes (record { pfn = word_pfn at.1; type = type_in_word at.1; page = page.0 }) page.1) (page_front at (word_has_data at.1)) (λ page. front_pass _)

  front_entries : (len : ℕ) → TakesFronts (entries_at kind top len)
  front_entries len =
      front_then (list_at kind top len) _
      (front_then (part Truncated 8) _ (front_part Truncated 8)
      (λ front. front_checked (fault_of_count len (le32 front 0)) _ (front_then (words_at (le32 front 0)) _ (front_plain Truncated (words (le32 front 0)) (8 * le32 front 0))
      (λ ws. front_checked (fault_of_list kind top len ws) _ (front_pass ws)))))
      (λ ws. front_each (entry_at kind top) front_entry (with_places 0 ws))

  -- a body that sets parts, one of any type, and one of any number
  front_coded : (code : Option PartCode) (len : ℕ) → TakesFronts (coded_at code len)
  front_coded None len = front_pass Nothing
  front_coded (Some code) len = front_said Truncated (fault_of_body code) (λ body. Sets code (parts_of_body code body)) len

  front_typed : (this : Option RecordType) (len : ℕ) → TakesFronts (typed_at kind top this len)
  front_typed None len = front_pass Nothing
  front_typed (Some PageData) len = front_then (entries_at kind top len) (λ es. Passes (Frames es.0) es.1) (front_entries len) (λ es. front_pass (Frames es))
  front_typed (Some X86PvInfo) len = front_said Truncated fault_of_pv_info (λ _. Nothing) len
  front_typed (Some X86PvP2mFrames) len = front_said Truncated fault_of_p2m lists_of len
  front_typed (Some this) len = front_coded (code_of_type this) len

  front_body_by : (b : Bool) (this : Option RecordType) (len : ℕ) → TakesFronts (λ i. cond b (plain_at Truncated (λ _. Nothing) len i) (typed_at kind top this len i))
  front_body_by true this len = front_plain Truncated (λ _. Nothing) len
  front_body_by false this len = front_typed this len

  pub front_body : (type len : ℕ) → TakesFronts (body_at kind top type len)
  front_body type len = front_body_by (is_optional type) (type_of_number type) len

-- ---- a record behind its head, and whole

pub front_behind : (b : Before) (head : List ℕ) → TakesFronts (λ i. behind_head b (head, i))
unfolding behind_head behind_body
front_behind b head =
    front_then (body_at b.opening.kind b.top (le32 head 0) (le32 head 4)) (behind_body b head) (front_body b.opening.kind b.top (le32 head 0) (le32 head 4))
    (λ body. front_then (part Truncated (padding_len (le32 head 4))) (λ padding. Passes (record { type = le32 head 0; content = placed_content (is_verified b.types) body }) padding.1) (front_part Truncated (padding_len (le32 head 4))) (λ padding. front_pass _))

pub front_record : (b : Before) → TakesFronts (record_at b)
unfolding record_at behind_head behind_body
front_record b = front_then (head_at b) (behind_head b) (front_said Truncated (fault_of_head b) (λ head. head) 8) (λ head. front_behind b head)
