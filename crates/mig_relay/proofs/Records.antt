-- A record of a libxl stream takes at least its head, and a front; and it is judged so with the causes left out.
use Rattle.mig_relay.proofs.Common.{ℕ, Bool, true, false, cond, nat_eq, nat_le, nat_lt, List, [], ◌∷◌, length, drop, Option, Some, None, refl, ap, arith, length-append, option_or, padding_len, le32, Judged, ◌>>=◌, part, tried, placed, Passes, TakesFronts, front_pass, front_part, front_said, front_then, front_placed, both_pass, placed_passes, said_passes, LibxlRecord, LibxlContent, Image, Pairs, Context, first_fault, Cause, Truncated, BadEmulator, EmulatorIndex, Place, is_libxl_ended, emulator_key, fault_of_libxl_head, libxl_head_at, context_at, skipped_at, pairs_in, image_at, open_image_at, fault_of_pair_body, open_pairs_at, open_body, open_inner, open_content, TooManyPairs}
use Rattle.mig_libxl_form.specs.Content.LibxlContent.{Nothing}
use Rattle.mig_libxl_form.specs.Emulators.{EmulatorsOf, emulators_of, spelled_with}
use Rattle.mig_headers.specs.declared.fault.Place.TheVariants.{LibxlRecord as AtRecord}
use Rattle.mig_libxl_form.specs.Judging.{fault_of_context, fault_of_pairs, pairs_at, inner_at, body_of_type, libxl_content_at, libxl_record_at}
use Rattle.mig_policy.specs.PairFaults.{pairs_fault}
use Rattle.mig_relay.specs.Streams.{open_libxl_record}
use Rattle.mig_relay.proofs.Asked.{IsLeft, IsLeftCause, image_opens}
use Rattle.mig_relay.proofs.Fronts.{Shrinks, front_plain}
use Rattle.mig_relay.proofs.Images.{front_image}
use Rattle.mig_relay.proofs.Opens.{Opens, same, leaves, opens_then, opens_placed, opens_said}
use Rattle.mig_guest.specs.Limits.{most_pairs}

-- ---- a record takes a front

front_open_body : (type len : ℕ) → TakesFronts (open_body type len)
front_open_body type len = by (nat_eq type 2) (nat_eq type 3)
  where
    by : (two three : Bool) → TakesFronts (λ i. cond two (open_pairs_at len i) (cond three (context_at len i) (skipped_at len i)))
    by true three = front_said Truncated fault_of_pair_body (λ body. Pairs (emulator_key 258 body) (pairs_in (drop 8 body))) len
    by false true = front_said Truncated fault_of_context (λ body. Context (emulator_key 259 body) (drop 8 body)) len
    by false false = front_plain Truncated (λ _. Nothing) len

pub front_content : (records : List LibxlRecord) (type len : ℕ) → TakesFronts (open_content records type len)
front_content records type len = by (nat_eq type 1)
  where
    by : (one : Bool) → TakesFronts (λ i. cond one (open_inner i) (placed (AtRecord (length records)) (open_body type len i)))
    by true = front_then open_image_at (λ image. Passes (Image image.0) image.1) front_image (λ image. front_pass (Image image))
    by false = front_placed (AtRecord (length records)) (open_body type len) (front_open_body type len)

-- a record behind its content, and behind its head
abbrev pub behind_content : List LibxlRecord → List ℕ → LibxlContent × List ℕ → Judged (Place × Cause) LibxlRecord
behind_content records head content = placed (AtRecord (length records)) (part Truncated (padding_len (le32 head 4)) content.1) >>= λ padding. Passes (record { type = le32 head 0; content = content.0 }) padding.1

abbrev pub behind_head : List LibxlRecord → List ℕ × List ℕ → Judged (Place × Cause) LibxlRecord
behind_head records head = open_content records (le32 head.0 0) (le32 head.0 4) head.1 >>= behind_content records head.0

abbrev fault_in_head : List LibxlRecord → List ℕ → Option Cause
fault_in_head records head = fault_of_libxl_head records (le32 head 0) (le32 head 4)

front_behind : (records : List LibxlRecord) (head : List ℕ) → TakesFronts (λ i. behind_head records (head, i))
front_behind records head =
    front_then (open_content records (le32 head 0) (le32 head 4)) (behind_content records head) (front_content records (le32 head 0) (le32 head 4))
    (λ content. front_then (λ i. placed (AtRecord (length records)) (part Truncated (padding_len (le32 head 4)) i)) (λ padding. Passes (record { type = le32 head 0; content = content }) padding.1) (front_placed (AtRecord (length records)) (part Truncated (padding_len (le32 head 4))) (front_part Truncated (padding_len (le32 head 4))))
    (λ padding. front_pass (record { type = le32 head 0; content = content })))

pub front_libxl_record : (records : List LibxlRecord) → TakesFronts (open_libxl_record records)
unfolding open_libxl_record
front_libxl_record records =
    front_then (λ i. placed (AtRecord (length records)) (libxl_head_at records i)) (behind_head records) (front_placed (AtRecord (length records)) (libxl_head_at records) (front_said Truncated (fault_in_head records) (λ head. head) 8)) (front_behind records)

-- ---- a record takes at least its head

pub libxl_shrinks : Shrinks is_libxl_ended open_libxl_record
unfolding open_libxl_record
libxl_shrinks records i r rest going h =
    let a = both_pass (placed (AtRecord (length records)) (libxl_head_at records i)) (behind_head records) r rest h in
    let s = said_passes Truncated (fault_in_head records) (λ head. head) 8 i a.x a.mid (placed_passes (AtRecord (length records)) (libxl_head_at records i) a.x a.mid a.first) in
    let f = front_behind records a.x a.mid r rest a.second in
    omega (arith, ap length s.whole, length-append s.bytes a.mid, s.size, ap length f.whole, length-append f.front rest)

-- ---- a record is judged so with the causes left out

-- how many bytes an emulator's pairs spell isn't asked
pairs_open : (e : EmulatorsOf) (body rest : List ℕ) → Opens IsLeftCause (tried (fault_of_pairs e body) rest) (tried (fault_of_pair_body body) rest)
unfolding fault_of_pairs fault_of_context
pairs_open e body rest = by (pairs_fault (drop 8 body)) (nat_le 3 (le32 body 0)) (nat_lt most_pairs (spelled_with e (emulator_key 258 body) (pairs_in (drop 8 body)))) (first_fault ((nat_le 256 (le32 body 4), EmulatorIndex (le32 body 4)) ∷ []))
  where
    by : (bad : Option Cause) (unknown many : Bool) (index : Option Cause)
        → Opens IsLeftCause (tried (option_or bad (cond unknown (Some (BadEmulator (le32 body 0))) (cond many (Some TooManyPairs) index))) rest) (tried (option_or bad (cond unknown (Some (BadEmulator (le32 body 0))) index)) rest)
    by (Some c) unknown many index = same (tried (Some c) rest)
    by None true many index = same (tried (Some (BadEmulator (le32 body 0))) rest)
    by None false true index = leaves TooManyPairs rest (tried index rest) refl
    by None false false index = same (tried index rest)

body_opens : (e : EmulatorsOf) (type len : ℕ) (i : List ℕ) → Opens IsLeftCause (body_of_type e type len i) (open_body type len i)
body_opens e type len i = by (nat_eq type 2)
  where
    by : (two : Bool) → Opens IsLeftCause (cond two (pairs_at e len i) (cond (nat_eq type 3) (context_at len i) (skipped_at len i))) (cond two (open_pairs_at len i) (cond (nat_eq type 3) (context_at len i) (skipped_at len i)))
    by true = opens_said IsLeftCause Truncated (fault_of_pairs e) fault_of_pair_body (λ body. Pairs (emulator_key 258 body) (pairs_in (drop 8 body))) len i (pairs_open e)
    by false = same (cond (nat_eq type 3) (context_at len i) (skipped_at len i))

inner_opens : (i : List ℕ) → Opens IsLeft (inner_at i) (open_inner i)
inner_opens i = opens_then IsLeft (image_at i) (open_image_at i) (λ image. Passes (Image image.0) image.1) (λ image. Passes (Image image.0) image.1) (image_opens i) (λ image rest is. same (Passes (Image image) rest))

content_opens : (records : List LibxlRecord) (type len : ℕ) (i : List ℕ) → Opens IsLeft (libxl_content_at records type len i) (open_content records type len i)
content_opens records type len i = by (nat_eq type 1)
  where
    by : (one : Bool) → Opens IsLeft (cond one (inner_at i) (placed (AtRecord (length records)) (body_of_type (emulators_of records) type len i))) (cond one (open_inner i) (placed (AtRecord (length records)) (open_body type len i)))
    by true = inner_opens i
    by false = opens_placed IsLeftCause (AtRecord (length records)) (body_of_type (emulators_of records) type len i) (open_body type len i) (body_opens (emulators_of records) type len i)

pub record_opens : (records : List LibxlRecord) (i : List ℕ) → Opens IsLeft (libxl_record_at records i) (open_libxl_record records i)
unfolding libxl_record_at open_libxl_record
record_opens records i =
    let head = placed (AtRecord (length records)) (libxl_head_at records i) in
    opens_then IsLeft head head (λ h. libxl_content_at records (le32 h.0 0) (le32 h.0 4) h.1 >>= behind_content records h.0) (behind_head records) (same head)
    (λ h rest is. opens_then IsLeft (libxl_content_at records (le32 h 0) (le32 h 4) rest) (open_content records (le32 h 0) (le32 h 4) rest) (behind_content records h) (behind_content records h) (content_opens records (le32 h 0) (le32 h 4) rest)
    (λ content after fine. same (behind_content records h (content, after))))
