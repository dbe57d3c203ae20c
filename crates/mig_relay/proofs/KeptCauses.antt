-- No judging of a part tells a cause that is left out.
use Rattle.mig_relay.proofs.Common.{◌≡◌, ℕ, zero, suc, ◌+◌, ◌*◌, Bool, true, false, cond, List, [], length, drop, Option, Some, None, Result, Ok, Err, refl, option_or, padding_len, le32, be32, ◌>>=◌, part, tried, plain_at, placed, Passes, onward, marker_rows, fault_of_marker, fault_of_image, fault_of_domain, kind_of_number, is_optional, type_of_number, Cause, Truncated, BadLength, Place, ImageHeader, DomainHeader, Record, Kind, RecordType, PageData, X86PvInfo, X86PvP2mFrames, word_pfn, word_has_data, PartCode, count_rows, fault_of_length, fault_of_count, words, fault_of_pv_info, fault_of_p2m, fault_of_body, parts_of_body, Before, opening_of, before, fault_of_head, head_at, fault_of_level, fault_of_page, fault_of_data, page_at, entry_at, entries_at, words_at, with_places, lists_of, type_in_word, code_of_type, coded_at, typed_at, body_at, is_ended, is_verified, placed_content, Nothing, Frames, Sets, image_of, marker_at, version_at, kind_at, opening_behind, is_unasked, open_next, fault_of_list, list_at, image_rows, domain_rows, Pv32, BadPvInfo, P2mStart, VcpuId, GdtEnts, ParamIndex, TooManyRecords, long_rows, length_rows, word_rows, fault_of_long, shape_of, fault_of_content, fault_of_scan, fault_by_shape}
use Rattle.mig_headers.specs.Contexts.{scan}
use Rattle.mig_headers.specs.declared.fault.ContextFault.{ContextFault}
use Rattle.mig_guest.specs.Formed.{gdt_ents}
use Rattle.mig_guest.specs.Longs.{long_at}
use Rattle.mig_guest.specs.Tables.{named_frame}
use Rattle.mig_guest.specs.declared.part_code.PartCode.TheVariants.{VcpuBasic, VcpuExtended, VcpuXsave, HvmParam, VcpuMsrs}
use Rattle.mig_order.specs.Order.{Earlier, earlier_in, causes, fault_of_mandatory, fault_of_type}
use Rattle.mig_records.specs.Layouts.{fault_of_key, fault_of_entry, fault_of_entries, entry_width, entry_count, front_width}
use Rattle.mig_records.specs.declared.shape.Shape.{Shape}
use Rattle.mig_records.specs.declared.shape.Shape.TheVariants.{Table, Single, Named, Chain, Other}
use Rattle.mig_pvtables.specs.Tables.{first_superpage, first_outside}
use Rattle.mig_restore_form.specs.Judging.{fault_of_number, fault_of_fields, record_at}
use Rattle.mig_restore_form.specs.Stream.{opening_at}
use Rattle.mig_restore_form.proofs.Parts.{behind_body, behind_head}
use Rattle.mig_relay.specs.Images.{open_records, open_image_at}
use Rattle.mig_relay.proofs.Tells.{Names, Tells, names_rows, names_one, names_two, names_or, names_map, tells_then, tells_checked, tells_part, tells_said, tells_plain, tells_each, tells_onward, tells_placed}
use Rattle.mig_headers.specs.declared.fault.Cause.TheVariants as told

-- a cause that isn't left out, and one at any place
abbrev pub IsKept : Cause → Type 0
IsKept c = is_unasked c ≡ false

abbrev pub IsKeptAt : Place × Cause → Type 0
IsKeptAt at = is_unasked at.1 ≡ false

-- ---- heads: the length, the type and its order, the number of records

head_kept : (b : Before) (head : List ℕ) → Names IsKept (fault_of_head b head)
unfolding fault_of_fields
head_kept b head =
    let type = le32 head 0 in
    let len = le32 head 4 in
    let order = fault_of_type b.opening.version b.opening.kind b.types type in
    names_or IsKept (fault_of_long len) (option_or order (option_or (fault_of_length type len) (fault_of_number b.types))) (names_rows IsKept (long_rows len) (refl, tt))
    (names_or IsKept order (option_or (fault_of_length type len) (fault_of_number b.types)) (order_kept type)
    (names_or IsKept (fault_of_length type len) (fault_of_number b.types) (names_rows IsKept (length_rows type len) (refl, tt)) (names_one IsKept _ TooManyRecords refl)))
  where
    mandatory : (earlier : Earlier) (number : ℕ) (this : Option RecordType) → Names IsKept (fault_of_mandatory b.opening.version b.opening.kind earlier number this)
    mandatory earlier number None = refl
    mandatory earlier number (Some this) = names_rows IsKept (causes b.opening.version b.opening.kind earlier this) (refl, (refl, (refl, (refl, (refl, (refl, (refl, (refl, (refl, (refl, tt))))))))))

    by : (earlier : Earlier) (number : ℕ) (optional : Bool) → Names IsKept (cond optional None (fault_of_mandatory b.opening.version b.opening.kind earlier number (type_of_number number)))
    by earlier number true = tt
    by earlier number false = mandatory earlier number (type_of_number number)

    order_kept : (number : ℕ) → Names IsKept (fault_of_type b.opening.version b.opening.kind b.types number)
    order_kept number = by (earlier_in b.types) number (is_optional number)

-- ---- bodies that set parts

-- the key of a part, and its bytes
key_kept : (code : PartCode) (key1 key2 : ℕ) → Names IsKept (fault_of_key code key1 key2)
key_kept VcpuBasic key1 key2 = names_one IsKept _ (VcpuId key1) refl
key_kept VcpuExtended key1 key2 = names_one IsKept _ (VcpuId key1) refl
key_kept VcpuXsave key1 key2 = names_one IsKept _ (VcpuId key1) refl
key_kept VcpuMsrs key1 key2 = names_one IsKept _ (VcpuId key1) refl
key_kept HvmParam key1 key2 = names_one IsKept _ (ParamIndex key1) refl
key_kept _ key1 key2 = tt

content_kept : (code : PartCode) (bytes : List ℕ) → Names IsKept (fault_of_content code bytes)
content_kept VcpuBasic bytes = names_one IsKept _ (GdtEnts (gdt_ents bytes)) refl
content_kept _ bytes = tt

-- the chain of a context
scan_kept : (scanned : Result ℕ ContextFault) → Names IsKept (fault_of_scan scanned)
scan_kept (Ok end) = tt
scan_kept (Err fault) = refl

-- a body of any shape
shape_kept : (shape : Shape) (code : PartCode) (body : List ℕ) → Names IsKept (fault_by_shape shape code body)
shape_kept (Table l) code body = names_or IsKept _ _ (names_one IsKept _ (BadLength (length body)) refl) (entries (entry_count l body) (drop (front_width l) body))
  where
    entries : (n : ℕ) (bytes : List ℕ) → Names IsKept (fault_of_entries code l n bytes)
    entries zero bytes = tt
    entries (suc n) bytes = names_or IsKept (fault_of_entry code l bytes) (fault_of_entries code l n (drop (entry_width l) bytes)) (key_kept code _ _) (entries n (drop (entry_width l) bytes))
shape_kept (Single len ignored) code body = names_one IsKept _ (BadLength (length body)) refl
shape_kept (Named second ignored skips) code body = names_or IsKept _ _ (names_one IsKept _ (BadLength (length body)) refl) (names_or IsKept _ _ (key_kept code _ _) (content_kept code (drop (4 + second + ignored) body)))
shape_kept Chain code body = scan_kept (scan body)
shape_kept Other code body = tt

-- ---- the body of a PAGE_DATA record

-- a page, where it is a table of a level
level_kept : (top place : ℕ) (level : Option ℕ) (page : List ℕ) → Names IsKept (fault_of_level top place level page)
level_kept top place None page = tt
level_kept top place (Some level) page =
    names_or IsKept _ _ (names_map IsKept (λ slot. told.Superpage place slot) (first_superpage level page) (λ slot. refl))
    (names_map IsKept (λ slot. told.EntryOutside place slot (named_frame (long_at page slot))) (first_outside top level page) (λ slot. refl))

module _ (kind : Kind) (top : ℕ) where
  page_kept : (at : ℕ × ℕ) (i : List ℕ) → Tells IsKept (page_at kind top at i)
  page_kept at i = by (word_has_data at.1)
    where
      by : (has : Bool) → Tells IsKept (cond has (part Truncated 4096 i >>= λ page. tried (fault_of_page kind top at page.0) page.1 >>= λ _. Passes (Some page.0) page.1) (Passes None i))
      by true = tells_then IsKept (part Truncated 4096 i) (λ page. tried (fault_of_page kind top at page.0) page.1 >>= λ _. Passes (Some page.0) page.1) (tells_part IsKept Truncated refl 4096 i)
          (λ page rest. tells_checked IsKept (fault_of_page kind top at page) rest (Passes (Some page) rest) (level_kept top at.0 _ page) tt)
      by false = tt

  entry_kept : (at : ℕ × ℕ) (i : List ℕ) → Tells IsKept (entry_at kind top at i)
  entry_kept at i = tells_then IsKept (page_at kind top at i) (λ page. Passes (record { pfn = word_pfn at.1; type = type_in_word at.1; page = page.0 }) page.1) (page_kept at i) (λ page rest. tt)

  entries_kept : (len : ℕ) (i : List ℕ) → Tells IsKept (entries_at kind top len i)
  entries_kept len i =
      tells_then IsKept (list_at kind top len i) _
      (tells_then IsKept (part Truncated 8 i) _ (tells_part IsKept Truncated refl 8 i)
      (λ front rest. tells_checked IsKept (fault_of_count len (le32 front 0)) rest _ (names_rows IsKept (count_rows len (le32 front 0)) (refl, (refl, tt)))
      (tells_then IsKept (words_at (le32 front 0) rest) _ (tells_plain IsKept Truncated refl (words (le32 front 0)) (8 * le32 front 0) rest)
      (λ ws after. tells_checked IsKept (fault_of_list kind top len ws) after _ (names_or IsKept _ (fault_of_data len ws) (names_rows IsKept (word_rows kind top ws) (refl, (refl, tt))) (names_one IsKept _ (BadLength len) refl)) tt))))
      (λ ws after. tells_each IsKept (entry_at kind top) entry_kept (with_places 0 ws) after)

  -- ---- the body of a record of any type

  coded_kept : (code : Option PartCode) (len : ℕ) (i : List ℕ) → Tells IsKept (coded_at code len i)
  coded_kept None len i = tt
  coded_kept (Some code) len i = tells_said IsKept Truncated refl (fault_of_body code) (λ body. Sets code (parts_of_body code body)) len i (λ body. shape_kept (shape_of code) code body)

  typed_kept : (this : Option RecordType) (len : ℕ) (i : List ℕ) → Tells IsKept (typed_at kind top this len i)
  typed_kept None len i = tt
  typed_kept (Some PageData) len i = tells_then IsKept (entries_at kind top len i) (λ es. Passes (Frames es.0) es.1) (entries_kept len i) (λ es rest. tt)
  typed_kept (Some X86PvInfo) len i = tells_said IsKept Truncated refl fault_of_pv_info (λ _. Nothing) len i (λ body. names_two IsKept _ Pv32 _ BadPvInfo refl refl)
  typed_kept (Some X86PvP2mFrames) len i = tells_said IsKept Truncated refl fault_of_p2m lists_of len i (λ body. names_two IsKept _ (BadLength (length body)) _ (P2mStart (le32 body 0)) refl refl)
  typed_kept (Some this) len i = coded_kept (code_of_type this) len i

  body_kept : (type len : ℕ) (i : List ℕ) → Tells IsKept (body_at kind top type len i)
  body_kept type len i = by (is_optional type)
    where
      by : (optional : Bool) → Tells IsKept (cond optional (plain_at Truncated (λ _. Nothing) len i) (typed_at kind top (type_of_number type) len i))
      by true = tells_plain IsKept Truncated refl (λ _. Nothing) len i
      by false = typed_kept (type_of_number type) len i

-- ---- a record, and an image

record_kept : (b : Before) (i : List ℕ) → Tells IsKept (record_at b i)
unfolding record_at behind_head behind_body
record_kept b i =
    tells_then IsKept (head_at b i) (behind_head b) (tells_said IsKept Truncated refl (fault_of_head b) (λ head. head) 8 i (head_kept b))
    (λ head rest. tells_then IsKept (body_at b.opening.kind b.top (le32 head 0) (le32 head 4) rest) (behind_body b head) (body_kept b.opening.kind b.top (le32 head 0) (le32 head 4) rest)
    (λ body after. tells_then IsKept (part Truncated (padding_len (le32 head 4)) after) (λ padding. Passes (record { type = le32 head 0; content = placed_content (is_verified b.types) body }) padding.1) (tells_part IsKept Truncated refl (padding_len (le32 head 4)) after) (λ padding end. tt)))

opening_kept : (i : List ℕ) → Tells IsKeptAt (opening_at i)
unfolding opening_at
opening_kept i =
    tells_then IsKeptAt (placed ImageHeader (marker_at i)) (λ m. opening_behind m.1) (tells_placed IsKept ImageHeader (marker_at i) (tells_said IsKept Truncated refl fault_of_marker (λ m. m) 8 i (λ m. names_rows IsKept (marker_rows m) (refl, tt))))
    (λ m rest. tells_then IsKeptAt (placed ImageHeader (version_at rest)) (λ v. placed DomainHeader (kind_at v.1) >>= λ k. Passes (opening_of v.0 k.0) k.1) (tells_placed IsKept ImageHeader (version_at rest) (tells_said IsKept Truncated refl fault_of_image (λ header. be32 header 4) 16 rest (λ header. names_rows IsKept (image_rows header) (refl, (refl, (refl, tt))))))
    (λ v after. tells_then IsKeptAt (placed DomainHeader (kind_at after)) (λ k. Passes (opening_of v k.0) k.1) (tells_placed IsKept DomainHeader (kind_at after) (tells_said IsKept Truncated refl fault_of_domain (λ header. kind_of_number (le32 header 0)) 16 after (λ header. names_rows IsKept (domain_rows header) (refl, (refl, tt)))))
    (λ k end. tt)))

pub image_kept : (i : List ℕ) → Tells IsKeptAt (open_image_at i)
unfolding open_image_at open_records
image_kept i =
    tells_then IsKeptAt (opening_at i) (λ opening. open_records opening.0 [] opening.1) (opening_kept i)
    (λ o rest. tells_then IsKeptAt (onward is_ended (open_next o) [] rest) (λ all. Passes (image_of o all.0) all.1)
    (tells_onward IsKeptAt is_ended (open_next o) (λ records here. tells_placed IsKept (Record (length records)) (record_at (before o records) here) (record_kept (before o records) here)) [] rest)
    (λ all after. tt))
