-- How records, tables and the whole stream are spelled, piece by piece.
use Rattle.mig_canon.proofs.Common.{◌≡◌, ℕ, suc, ◌+◌, ◌-◌, ◌<◌, List, [], ◌∷◌, ◌++◌, length, replicate, map, Bool, true, false, refl, sym, ap, subst, ◌∙◌, arith, length-append, append_assoc, length-replicate, flat_map, padding_len, Part, code_number, shape_of, parts_at, part_body, bodies_by_shape, head_of, Record, records_of, records_in_order, frames_in, batches, frame_bodies, static_bodies, info_records, p2m_records, pv_last_codes, last_records, text_of, headers, piece, little_bytes, Pv, GuestOf, PartCode, Layout, Shape, Table, Single, Named, Chain, Other, table_text, record_text, text_one, text_join, replicate-append-replicate, length-bytes_low_first, front_text, entries_text}
use Rattle.mig_canon.specs.Canon.{all_vcpus, canon}
use Rattle.mig_records.specs.Records.{spelled}

-- ---- the records of a code

abbrev pub is_table : Shape → Bool
is_table (Table l) = true
is_table shape = false

pub no_table_is : (s : Shape) → ((l : Layout) → s ≡ Table l → ⊥) → is_table s ≡ false
no_table_is (Table l) other = absurd (other l refl)
no_table_is _ other = refl

module _ (type : ℕ) where
  abbrev records : List (List ℕ) → List Record
  records bodies = map (λ body. (type, body)) bodies

  alone : (body : Part → List ℕ) (ps : List Part) → text_of (records (map body ps)) ≡ flat_map (λ p. spelled type (body p)) ps
  alone body [] = refl
  alone body (p ∷ ps) = ap (λ l. spelled type (body p) ++ l) (alone body ps)

  nothing : (ps : List Part) → [] ≡ flat_map (piece Other type) ps
  nothing [] = refl
  nothing (p ∷ ps) = nothing ps

  -- where each part has its record
  pub each_text : (shape : Shape) (ps : List Part) → is_table shape ≡ false → text_of (records (bodies_by_shape shape ps)) ≡ flat_map (piece shape type) ps
  each_text (Table l) ps other = absurd (cc)
  each_text (Single len ignored) ps other = alone (part_body (Single len ignored)) ps
  each_text (Named second ignored skips) ps other = alone (part_body (Named second ignored skips)) ps
  each_text Chain ps other = alone (part_body Chain) ps
  each_text Other ps other = nothing ps

  pub table_record : (l : Layout) (ps : List Part) (n len : ℕ) → n ≡ length ps → (n ≡ 0 → ⊥) → len ≡ length (table_text l ps)
      → text_of (records (bodies_by_shape (Table l) ps)) ≡ head_of type len ++ (front_text l.counted n ++ (flat_map (piece (Table l) type) ps ++ replicate (padding_len len) 0))
  unfolding spelled
  table_record l [] n len count some size = absurd (some count)
  table_record l (p ∷ ps) n len count some size =
      text_one type (table_text l (p ∷ ps))
      ∙ ap (λ m. head_of type m ++ (table_text l (p ∷ ps) ++ replicate (padding_len m) 0)) (sym size)
      ∙ ap (λ t. head_of type len ++ t) (append_assoc (front_text l.counted (length (p ∷ ps))) (entries_text l (p ∷ ps)) (replicate (padding_len len) 0))
      ∙ ap (λ m. head_of type len ++ (front_text l.counted m ++ (entries_text l (p ∷ ps) ++ replicate (padding_len len) 0))) (sym count)

-- the record of a table that has entries
pub code_table : (code : PartCode) (l : Layout) (g : GuestOf) (n len : ℕ) → shape_of code ≡ Table l → n ≡ length (parts_at code g) → (n ≡ 0 → ⊥) → len ≡ length (table_text l (parts_at code g))
    → text_of (records_of code g) ≡ head_of (code_number code) len ++ (front_text l.counted n ++ (flat_map (piece (shape_of code) (code_number code)) (parts_at code g) ++ replicate (padding_len len) 0))
code_table code l g n len is count some size =
    let ps = parts_at code g in let type = code_number code in
    subst (λ s. text_of (records type (bodies_by_shape s ps)) ≡ head_of type len ++ (front_text l.counted n ++ (flat_map (piece s type) ps ++ replicate (padding_len len) 0))) (sym is) (table_record type l ps n len count some size)

-- the records of a code whose parts have one each
pub code_each : (code : PartCode) (shape : Shape) (g : GuestOf) → shape_of code ≡ shape → is_table shape ≡ false → text_of (records_of code g) ≡ flat_map (piece (shape_of code) (code_number code)) (parts_at code g)
code_each code shape g is other = each_text (code_number code) (shape_of code) (parts_at code g) (ap is_table is ∙ other)

-- ---- bodies in pieces

pub zeros_split : (i n : ℕ) → i < n → replicate {A = ℕ} n 0 ≡ replicate i 0 ++ ((0 ∷ []) ++ replicate (n - i - 1) 0)
zeros_split i n less = ap (λ m. replicate {A = ℕ} m 0) (let e : n ≡ i + suc (n - i - 1) = omega arith in e) ∙ sym (replicate-append-replicate {A = ℕ} i (suc (n - i - 1)) 0)

pub single_text : (type len ignored : ℕ) (value : List ℕ) → len ≡ length value + ignored → spelled type (value ++ replicate ignored 0) ≡ head_of type len ++ (value ++ (replicate ignored 0 ++ replicate (padding_len len) 0))
single_text type len ignored value is =
    let zeros : List ℕ = replicate ignored 0 in
    record_text type len (value ++ zeros) (omega (arith, is, length-append value zeros, length-replicate {A = ℕ} ignored 0)) ∙ ap (λ l. head_of type len ++ l) (append_assoc value zeros (replicate (padding_len len) 0))

pub named_len : (key1 key2 second ignored : ℕ) (value : List ℕ) → length (little_bytes 4 key1 ++ (little_bytes second key2 ++ (replicate ignored 0 ++ value))) ≡ 4 + second + ignored + length value
named_len key1 key2 second ignored value =
    let two = little_bytes second key2 in let zeros : List ℕ = replicate ignored 0 in
    omega (arith, length-append (little_bytes 4 key1) (two ++ (zeros ++ value)), length-append two (zeros ++ value), length-append zeros value, length-bytes_low_first 0 second key2, length-replicate {A = ℕ} ignored 0)

-- the numbers of a key, zeros and a value
pub keyed_text : (first second ignored key1 key2 : ℕ) (value : List ℕ) → little_bytes first key1 ++ (little_bytes second key2 ++ (replicate ignored 0 ++ value)) ≡ (little_bytes first key1 ++ little_bytes second key2) ++ (replicate ignored 0 ++ value)
keyed_text first second ignored key1 key2 value = sym (append_assoc (little_bytes first key1) (little_bytes second key2) (replicate ignored 0 ++ value))

-- ---- the stream

pub texts_of : {X : Type 0} (R : X → List Record) (xs : List X) → text_of (flat_map R xs) ≡ flat_map (λ x. text_of (R x)) xs
texts_of R [] = refl
texts_of R (x ∷ xs) = text_join (R x) (flat_map R xs) ∙ ap (λ l. text_of (R x) ++ l) (texts_of R xs)

-- the records of codes one after another
pub codes_alone : (codes : List PartCode) (g : GuestOf) → text_of (records_in_order codes g) ≡ flat_map (λ code. text_of (records_of code g)) codes
codes_alone codes g = texts_of (λ code. records_of code g) codes

-- and a last one
pub codes_text : (codes : List PartCode) (g : GuestOf) (type : ℕ) → text_of (records_in_order codes g ++ (type, []) ∷ []) ≡ flat_map (λ code. text_of (records_of code g)) codes ++ spelled type []
codes_text codes g type =
    text_join (records_in_order codes g) ((type, []) ∷ []) ∙ ap (λ l. l ++ text_of ((type, []) ∷ [])) (codes_alone codes g)
    ∙ ap (λ l. flat_map (λ code. text_of (records_of code g)) codes ++ l) (text_one type [])

-- and the records of the vCPUs
pub pv_last_text : (g : GuestOf) → text_of (last_records Pv g) ≡ flat_map (λ code. text_of (records_of code g)) pv_last_codes ++ text_of (all_vcpus g)
pv_last_text g = text_join (records_in_order pv_last_codes g) (all_vcpus g) ∙ ap (λ l. l ++ text_of (all_vcpus g)) (codes_alone pv_last_codes g)

pub canon_is : (g : GuestOf) → canon g ≡ headers g.kind ++ (text_of (info_records g.kind) ++ (text_of (static_bodies g) ++ (text_of (p2m_records g.kind g)
    ++ (text_of (frame_bodies (frames_in g) (batches (frames_in g))) ++ (text_of (last_records g.kind g) ++ spelled 0 [])))))
unfolding canon
canon_is g =
    let kind = g.kind in let pages = frame_bodies (frames_in g) (batches (frames_in g)) in
    let last = last_records kind g ++ (0, []) ∷ [] in let behind_p2m = pages ++ last in let behind_static = p2m_records kind g ++ behind_p2m in
    ap (λ l. headers kind ++ l) (text_join (info_records kind) (static_bodies g ++ behind_static) ∙ ap (λ l. text_of (info_records kind) ++ l) (text_join (static_bodies g) behind_static
    ∙ ap (λ l. text_of (static_bodies g) ++ l) (text_join (p2m_records kind g) behind_p2m ∙ ap (λ l. text_of (p2m_records kind g) ++ l) (text_join pages last
    ∙ ap (λ l. text_of pages ++ l) (text_join (last_records kind g) ((0, []) ∷ []) ∙ ap (λ l. text_of (last_records kind g) ++ l) (text_one 0 []))))))
