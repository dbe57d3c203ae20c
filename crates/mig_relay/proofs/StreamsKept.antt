-- A refusal of a stream never tells a cause that is left out.
use Rattle.mig_relay.proofs.Common.{◌≡◌, ℕ, Bool, true, false, cond, nat_eq, nat_le, List, [], length, drop, Option, Some, None, refl, subst, ◌&&◌, padding_len, le32, be64, part, placed, Passes, onward, LibxlRecord, Image, Pairs, Context, libxl_ident, fault_of_libxl, Cause, Truncated, BadEmulator, EmulatorIndex, Place, LibxlHeader, is_libxl_ended, emulator_key, fault_of_libxl_head, libxl_head_at, context_at, skipped_at, header_at, Bare, Wrapped, pairs_in, is_unasked, open_image_at, fault_of_pair_body, open_pairs_at, open_body, open_inner, open_content, open_bare, IsOpenRefused, libxl_rows}
use Rattle.mig_libxl_form.specs.Content.LibxlContent.{Nothing}
use Rattle.mig_headers.specs.Pairs.{texts_in}
use Rattle.mig_headers.specs.declared.fault.Place.TheVariants.{LibxlRecord as AtRecord}
use Rattle.mig_libxl_form.specs.Judging.{field_rows, order_rows, fault_of_libxl_fields, fault_of_order, fault_of_context}
use Rattle.mig_policy.specs.PairFaults.{torn_at, bad_key_at, first_of, pairs_fault}
use Rattle.mig_relay.specs.Streams.{open_libxl_record, open_libxl_records, open_wrapped, open_stream_at}
use Rattle.mig_relay.proofs.KeptCauses.{IsKept, IsKeptAt, image_kept}
use Rattle.mig_relay.proofs.Records.{behind_content, behind_head}
use Rattle.mig_relay.proofs.Tells.{Names, Tells, names_rows, names_two, names_or, tells_then, tells_part, tells_said, tells_plain, tells_onward, tells_placed}

-- ---- a record

head_kept : (records : List LibxlRecord) (type len : ℕ) → Names IsKept (fault_of_libxl_head records type len)
unfolding fault_of_libxl_fields fault_of_order
head_kept records type len = names_or IsKept (fault_of_libxl_fields type len) (fault_of_order records type) (names_rows IsKept (field_rows type len) (refl, (refl, (refl, (refl, tt))))) (names_rows IsKept (order_rows records type) (refl, (refl, (refl, tt))))

context_kept : (body : List ℕ) → Names IsKept (fault_of_context body)
unfolding fault_of_context
context_kept body = names_two IsKept _ (BadEmulator (le32 body 0)) _ (EmulatorIndex (le32 body 4)) refl refl

pairs_kept : (bytes : List ℕ) → Names IsKept (pairs_fault bytes)
unfolding pairs_fault
pairs_kept bytes = by (torn_at false 0 (texts_in bytes)) (bad_key_at 0 (texts_in bytes))
  where
    by : (torn key : Option ℕ) → Names IsKept (first_of torn key)
    by (Some place) key = refl
    by None (Some place) = refl
    by None None = tt

body_kept : (type len : ℕ) (i : List ℕ) → Tells IsKept (open_body type len i)
body_kept type len i = by (nat_eq type 2) (nat_eq type 3)
  where
    by : (two three : Bool) → Tells IsKept (cond two (open_pairs_at len i) (cond three (context_at len i) (skipped_at len i)))
    by true three = tells_said IsKept Truncated refl fault_of_pair_body (λ body. Pairs (emulator_key 258 body) (pairs_in (drop 8 body))) len i (λ body. names_or IsKept (pairs_fault (drop 8 body)) (fault_of_context body) (pairs_kept (drop 8 body)) (context_kept body))
    by false true = tells_said IsKept Truncated refl fault_of_context (λ body. Context (emulator_key 259 body) (drop 8 body)) len i context_kept
    by false false = tells_plain IsKept Truncated refl (λ _. Nothing) len i

content_kept : (records : List LibxlRecord) (type len : ℕ) (i : List ℕ) → Tells IsKeptAt (open_content records type len i)
content_kept records type len i = by (nat_eq type 1)
  where
    by : (one : Bool) → Tells IsKeptAt (cond one (open_inner i) (placed (AtRecord (length records)) (open_body type len i)))
    by true = tells_then IsKeptAt (open_image_at i) (λ image. Passes (Image image.0) image.1) (image_kept i) (λ image rest. tt)
    by false = tells_placed IsKept (AtRecord (length records)) (open_body type len i) (body_kept type len i)

record_kept : (records : List LibxlRecord) (i : List ℕ) → Tells IsKeptAt (open_libxl_record records i)
unfolding open_libxl_record
record_kept records i =
    tells_then IsKeptAt (placed (AtRecord (length records)) (libxl_head_at records i)) (behind_head records)
    (tells_placed IsKept (AtRecord (length records)) (libxl_head_at records i) (tells_said IsKept Truncated refl (λ head. fault_of_libxl_head records (le32 head 0) (le32 head 4)) (λ head. head) 8 i (λ head. head_kept records (le32 head 0) (le32 head 4))))
    (λ head rest. tells_then IsKeptAt (open_content records (le32 head 0) (le32 head 4) rest) (behind_content records head) (content_kept records (le32 head 0) (le32 head 4) rest)
    (λ content after. tells_then IsKeptAt (placed (AtRecord (length records)) (part Truncated (padding_len (le32 head 4)) after)) (λ padding. Passes (record { type = le32 head 0; content = content }) padding.1) (tells_placed IsKept (AtRecord (length records)) (part Truncated (padding_len (le32 head 4)) after) (tells_part IsKept Truncated refl (padding_len (le32 head 4)) after)) (λ padding end. tt)))

-- ---- a stream

wrapped_kept : (i : List ℕ) → Tells IsKeptAt (open_wrapped i)
unfolding open_wrapped open_libxl_records
wrapped_kept i =
    tells_then IsKeptAt (placed LibxlHeader (header_at i)) (λ header. open_libxl_records [] header.1) (tells_placed IsKept LibxlHeader (header_at i) (tells_said IsKept Truncated refl fault_of_libxl (λ header. header) 8 i (λ header. names_rows IsKept (libxl_rows header) (refl, (refl, tt)))))
    (λ header rest. tells_then IsKeptAt (onward is_libxl_ended open_libxl_record [] rest) (λ all. Passes (Wrapped all.0) all.1) (tells_onward IsKeptAt is_libxl_ended open_libxl_record record_kept [] rest) (λ all after. tt))

stream_kept : (i : List ℕ) → Tells IsKeptAt (open_stream_at i)
unfolding open_stream_at
stream_kept i = by (nat_le 8 (length i) && nat_eq (be64 i 0) libxl_ident)
  where
    by : (wrapped : Bool) → Tells IsKeptAt (cond wrapped (open_wrapped (drop 8 i)) (open_bare i))
    by true = wrapped_kept (drop 8 i)
    by false = tells_then IsKeptAt (open_image_at i) (λ image. Passes (Bare image.0) image.1) (image_kept i) (λ image rest. tt)

pub left_out_is_not_told : (i : List ℕ) (place : Place) (cause : Cause) (rest : List ℕ) → IsOpenRefused i place cause rest → is_unasked cause ≡ false
left_out_is_not_told i place cause rest is = subst (Tells IsKeptAt) is (stream_kept i)
