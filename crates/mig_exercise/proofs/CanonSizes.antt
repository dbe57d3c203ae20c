-- How many bytes the canonical stream has of a PV guest that has no parts but a list of P2M frames, the context of one vCPU
-- and the shared page, and of which each frame has a page.
use Rattle.mig_exercise.proofs.Common.{◌≡◌, ◌≢◌, ℕ, zero, suc, ◌+◌, ◌*◌, List, [], ◌∷◌, ◌++◌, length, take, drop, map, Some, None, true, false, cond, refl, sym, ap, ◌∙◌, arith, All, little_bytes, Pv, FrameMap, part_cmp, p2m_key, vcpu_key, shared_key, PartMap, VcpuBasic, PartKey, part_exact, Frame, batches, find, flat_map, list_any, eq_by_cmp, if◌then◌else◌, is_emulator_code, code_number, Part, parts_of, PartCode, tied, page_in, pages_of, body_of, batch, frame_bodies, records_in_order, static_codes, pv_last_codes, static_bodies, p2m_body, p2m_record, p2m_records, part_record, key_of, vcpu_codes, records_of_vcpu, vcpus_below, all_vcpus, last_records, info_records, headers, canon}
use Rattle.std.proofs.Common.{replicate, append-nil, length-append}
use Rattle.std.proofs.lemmas.List.Elements.{All-head, All-tail, All-take, All-drop}
use Rattle.std.proofs.lemmas.List.FromFn.{map-range_with_len_more}
use Rattle.mig_headers.specs.Headers.{image_header_of, domain_header_of}
use Rattle.mig_guest.specs.Guests.{GuestOf}
use Rattle.mig_records.specs.Shapes.{canonical_bodies}
use Rattle.mig_records.specs.Records.{head_of, spelled, Record, text_of}
use Rattle.mig_records_pages.proofs.PageTexts.{words_len}
use Rattle.mig_canon.proofs.PvRecords.{vcpus_end}
use Rattle.mig_records.proofs.RecordTexts.{spelled_flat, text_one, text_join}
use Rattle.mig_canon.proofs.Spelling.{canon_is}
use Rattle.mig_canon.proofs.CanonFrames.{body_len, take_more, all_taken}
use Rattle.mig_canon.proofs.PvMaps.{vcpus_more}
use Rattle.mig_canon.specs.CanonStream.{is_of_converter, opening_text, text_of_emulators, emulators_in_order, wrapper_opening, wrapper_closing, canon_any}
use Rattle.std.specs.FinMap as maps

-- ---- headers and records

headers_size : length (headers Pv) ≡ 40
unfolding image_header_of domain_header_of
headers_size = refl

-- a record whose body needs no padding
record_size : (type k : ℕ) (body : List ℕ) → length body ≡ 8 * k → length (spelled type body) ≡ 8 + 8 * k
unfolding head_of
record_size type k body size =
    ap length (spelled_flat type (8 * k) body size (omega arith)) ∙ length-append (head_of type (8 * k)) body ∙ omega (arith, size)

one_size : (type k : ℕ) (body : List ℕ) → length body ≡ 8 * k → length (text_of ((type, body) ∷ [])) ≡ 8 + 8 * k
one_size type k body size = ap length (text_one type body) ∙ record_size type k body size

both_size : (a b : List Record) → length (text_of (a ++ b)) ≡ length (text_of a) + length (text_of b)
both_size a b = ap length (text_join a b) ∙ length-append (text_of a) (text_of b)

-- ---- frames

-- a frame that has a page
abbrev pub IsPaged : Frame → Type 0
IsPaged f = length (page_in f) ≡ 4096

pages_size : (fs : List Frame) → All IsPaged fs → length (pages_of fs) ≡ 4096 * length fs
pages_size [] all = refl
pages_size (f ∷ fs) all =
    length-append (page_in f) (pages_of fs) ∙ (let here : length (page_in f) ≡ 4096 = All-head IsPaged f fs all in omega (arith, here, pages_size fs (All-tail IsPaged f fs all)))

batch_size : (fs : List Frame) → All IsPaged fs → length (spelled 1 (body_of fs)) ≡ 16 + 4104 * length fs
batch_size fs all =
    record_size 1 (1 + 513 * length fs) (body_of fs) (body_len fs ∙ omega (arith, words_len fs, pages_size fs all)) ∙ omega arith

bodies_more : (fs : List Frame) (n : ℕ) → frame_bodies fs (suc n) ≡ frame_bodies fs n ++ (1, body_of (batch fs n)) ∷ []
bodies_more fs n = ap (frame_bodies fs) (let e : suc n ≡ n + 1 = omega arith in e) ∙ map-range_with_len_more (λ k. (1, body_of (batch fs k))) 0 n n (omega arith)

-- the records of the first n batches
bodies_size : (fs : List Frame) → All IsPaged fs → (n : ℕ) → length (text_of (frame_bodies fs n)) ≡ 16 * n + 4104 * length (take (1024 * n) fs)
bodies_size fs all zero = refl
bodies_size fs all (suc n) =
    let paged : All IsPaged (batch fs n) = All-take IsPaged 1024 (drop (1024 * n) fs) (All-drop IsPaged (1024 * n) fs all) in
    let last : length (text_of ((1, body_of (batch fs n)) ∷ [])) ≡ 16 + 4104 * length (batch fs n) = ap length (text_one 1 (body_of (batch fs n))) ∙ batch_size (batch fs n) paged in
    let taken : length (take (1024 * n) fs) + length (batch fs n) ≡ length (take (1024 * suc n) fs) = sym (length-append (take (1024 * n) fs) (batch fs n)) ∙ ap length (take_more fs n) in
    ap (λ l. length (text_of l)) (bodies_more fs n) ∙ both_size (frame_bodies fs n) ((1, body_of (batch fs n)) ∷ []) ∙ omega (arith, bodies_size fs all n, last, taken)

frames_size : (fs : List Frame) → All IsPaged fs → length (text_of (frame_bodies fs (batches fs))) ≡ 16 * batches fs + 4104 * length fs
frames_size fs all = bodies_size fs all (batches fs) ∙ ap (λ l. 16 * batches fs + 4104 * length l) (all_taken fs)

-- ---- parts

-- three parts in the order of their keys
abbrev pub three_parts : List ℕ → List ℕ → List ℕ → List Part
three_parts list context shared = (p2m_key, list) ∷ (vcpu_key 0, context) ∷ (shared_key, shared) ∷ []

-- a key that isn't that of the first entry
passed : (q k : PartKey) (bytes : List ℕ) (es : List Part) → q ≢ k → find part_cmp q ((k, bytes) ∷ es) ≡ find part_cmp q es
passed q k bytes es other = elim (eq_by_cmp part_cmp q k) as (λ b. eq_by_cmp part_cmp q k ≡ b → cond b (Some bytes) (find part_cmp q es) ≡ find part_cmp q es) [
  | true ↦ λ t. absurd (other (part_exact q k (tied _ t)))
  | false ↦ λ t. refl
] refl

module _ (top : ℕ) (frames : FrameMap) (parts : PartMap) (list context shared : List ℕ) (are : maps.entries parts ≡ three_parts list context shared) where
  abbrev guest : GuestOf
  guest = record { kind = Pv; top = top; frames = frames; parts = parts }

  found : (q : PartKey) → maps.get parts q ≡ find part_cmp q (three_parts list context shared)
  found q = maps.get-entries parts q ∙ ap (find part_cmp q) are

  -- the records of codes, of the parts that these entries are
  abbrev records_from : List PartCode → List Part → List Record
  records_from codes es = flat_map (λ code. map (λ body. (code_number code, body)) (canonical_bodies code (parts_of (code_number code) es))) codes

  -- there are no policies
  static_size : length (text_of (static_bodies guest)) ≡ 8
  static_size = ap (λ es. length (text_of (records_from static_codes es ++ (0x10, []) ∷ []))) are ∙ one_size 0x10 0 [] refl

  -- there is no TSC
  shared_size : length shared ≡ 4096 → length (text_of (records_in_order pv_last_codes guest)) ≡ 4104
  shared_size size = ap (λ es. length (text_of (records_from pv_last_codes es))) are ∙ one_size 7 512 (shared ++ []) (ap length (append-nil shared) ∙ size)

  list_size : (k : ℕ) → length list ≡ 8 * k → length (text_of (p2m_records Pv guest)) ≡ 16 + 8 * k
  list_size k size =
      ap (λ o. length (text_of (p2m_record top o))) (found p2m_key)
      ∙ one_size 3 (1 + k) (p2m_body top list) (length-append (replicate 4 0) (little_bytes 4 top ++ list) ∙ omega (arith, length-append (little_bytes 4 top) list, size)) ∙ omega arith

  -- ---- vCPUs

  abbrev records_found : ℕ → List Part → List Record
  records_found id es = flat_map (λ code. part_record code (key_of code id) (find part_cmp (key_of code id) es)) vcpu_codes

  vcpu_found : (id : ℕ) → records_of_vcpu guest id ≡ records_found id (three_parts list context shared)
  vcpu_found id = λ i. flat_map (λ code. part_record code (key_of code id) (found (key_of code id) i)) vcpu_codes

  -- the first has its context alone, and all others nothing
  first_size : length context ≡ 5168 → length (text_of (records_of_vcpu guest 0)) ≡ 5184
  first_size size =
      ap (λ l. length (text_of l)) (vcpu_found 0)
      ∙ one_size 4 647 (little_bytes 4 0 ++ ([] ++ (replicate 4 0 ++ context))) (length-append (little_bytes 4 0) (replicate 4 0 ++ context) ∙ omega (arith, length-append (replicate 4 0) context, size))

  no_basic : (id : ℕ) → find part_cmp (key_of VcpuBasic (suc id)) (three_parts list context shared) ≡ None
  no_basic id =
      let q = key_of VcpuBasic (suc id) in
      passed q p2m_key list ((vcpu_key 0, context) ∷ (shared_key, shared) ∷ []) (λ e. let no : 4 ≡ 3 = ap (λ (k : PartKey). k.code) e in omega arith)
      ∙ passed q (vcpu_key 0) context ((shared_key, shared) ∷ []) (λ e. let no : suc id ≡ 0 = ap (λ (k : PartKey). k.key1) e in omega arith)
      ∙ passed q shared_key shared [] (λ e. let no : 4 ≡ 7 = ap (λ (k : PartKey). k.code) e in omega arith)

  others_none : (id : ℕ) → records_of_vcpu guest (suc id) ≡ []
  others_none id = vcpu_found (suc id) ∙ ap (λ o. part_record VcpuBasic (key_of VcpuBasic (suc id)) o ++ []) (no_basic id)

  vcpus_size : length context ≡ 5168 → (m : ℕ) → length (text_of (vcpus_below guest (suc m))) ≡ 5184
  vcpus_size size zero = ap (λ l. length (text_of l)) (vcpus_more guest 0) ∙ first_size size
  vcpus_size size (suc m) =
      ap (λ l. length (text_of l)) (vcpus_more guest (suc m) ∙ ap (λ l. vcpus_below guest (suc m) ++ l) (others_none m) ∙ append-nil (vcpus_below guest (suc m))) ∙ vcpus_size size m

  all_size : length context ≡ 5168 → (m n : ℕ) → n ≡ 4096 → n ≡ suc m → length (text_of (all_vcpus guest)) ≡ 5184
  all_size size m n all is = ap length (vcpus_end guest n all) ∙ ap (λ k. length (text_of (vcpus_below guest k))) is ∙ vcpus_size size m

  -- ---- the whole stream

  -- no part is an emulator's
  unwrapped : canon_any guest ≡ canon guest
  unfolding canon_any wrapper_opening wrapper_closing
  unwrapped =
      ap (λ b. (if b then opening_text (is_of_converter parts) else []) ++ (canon guest ++ (if b then text_of_emulators (emulators_in_order parts) ++ spelled 0 [] else [])))
      (ap (λ es. list_any (λ (e : Part). is_emulator_code e.0.code) es) are)
      ∙ append-nil (canon guest)

  last_size : length context ≡ 5168 → length shared ≡ 4096 → length (text_of (last_records Pv guest)) ≡ 9288
  last_size one two = both_size (records_in_order pv_last_codes guest) (all_vcpus guest) ∙ omega (arith, all_size one 4095 4096 refl refl, shared_size two)

  -- so many bytes, where the list of P2M frames has k entries
  pub canon_size : (k : ℕ) → length list ≡ 8 * k → length context ≡ 5168 → length shared ≡ 4096 → All IsPaged (maps.entries frames)
      → length (canon_any guest) ≡ 9376 + 8 * k + 16 * batches (maps.entries frames) + 4104 * length (maps.entries frames)
  canon_size k listed one two all =
      let fs = maps.entries frames in
      ap length (unwrapped ∙ canon_is guest)
      ∙ joined (headers Pv) (text_of (info_records Pv)) (text_of (static_bodies guest)) (text_of (p2m_records Pv guest)) (text_of (frame_bodies fs (batches fs))) (text_of (last_records Pv guest)) (spelled 0 [])
      ∙ summed (length (headers Pv)) (length (text_of (info_records Pv))) (length (text_of (static_bodies guest))) (length (text_of (p2m_records Pv guest)))
      (length (text_of (frame_bodies fs (batches fs)))) (length (text_of (last_records Pv guest))) (length (spelled 0 [])) k (batches fs) (length fs)
      headers_size (one_size 2 1 (8 ∷ 4 ∷ replicate 6 0) refl) static_size (list_size k listed) (frames_size fs all) (last_size one two) (record_size 0 0 [] refl)
    where
      joined : (a b c d e f g : List ℕ) → length (a ++ (b ++ (c ++ (d ++ (e ++ (f ++ g)))))) ≡ length a + (length b + (length c + (length d + (length e + (length f + length g)))))
      joined a b c d e f g =
          omega (arith, length-append a (b ++ (c ++ (d ++ (e ++ (f ++ g))))), length-append b (c ++ (d ++ (e ++ (f ++ g)))), length-append c (d ++ (e ++ (f ++ g))), length-append d (e ++ (f ++ g)), length-append e (f ++ g), length-append f g)

      summed : (a b c d e f g k m n : ℕ) → a ≡ 40 → b ≡ 16 → c ≡ 8 → d ≡ 16 + 8 * k → e ≡ 16 * m + 4104 * n → f ≡ 9288 → g ≡ 8 → a + (b + (c + (d + (e + (f + g))))) ≡ 9376 + 8 * k + 16 * m + 4104 * n
      summed a b c d e f g k m n p q r s t u v = omega arith
