-- How the records of a PV guest alone are spelled.
use Rattle.mig_canon.proofs.Common.{◌≡◌, ℕ, ◌+◌, ◌<◌, ◌≤◌, ◌^◌, List, [], ◌∷◌, ◌++◌, length, take, drop, replicate, Bool, true, false, cond, Option, Some, None, refl, sym, ap, subst, ◌∙◌, arith, append_assoc, append-nil, take-append-drop, flat_map-append, flat_map, All, Appends, AppendsPart, puts_then, puts_stop, puts_same, padding_len, head_of, Part, parts_of, code_number, shape_of, parts_at, part_body, Record, text_of, key_of, part_record, vcpu_record, records_of_vcpu, vcpus_below, p2m_body, piece, IsShortPart, ◌==◌, range_with_len, eq_by_cmp, find, find-where_key, Appends-trans, eqb-true, eq-eqb, map-id, All-head, All-tail, map-range_with_len_more, little_bytes, Pv, top_limit, GuestOf, IsFormed, IsTop, width_of, part_cmp, row_of, p2m_key, PartCode, P2mFrames, VcpuBasic, VcpuExtended, VcpuXsave, VcpuMsrs, PartKey, tied, part_exact, numbered, spelled, vcpu_codes, text_one, text_join, record_text, Result, Puts, take-map-range_with_len, of_vcpu}
use Rattle.std.specs.Result.{IsErrAnd}
use Rattle.mig_bytes.specs.declared.failure.WriteFailed.{WriteFailed}
use Rattle.mig_canon.specs.Canon.{all_vcpus}
use Rattle.mig_canon.proofs.Spelling.{texts_of}
use Rattle.mig_canon.proofs.Wholes.{short_parts}
use Rattle.std.specs.FinMap as maps

-- ---- the P2M frames

pub p2m_text : (top n : ℕ) (frames : List ℕ) → n ≡ 8 + length frames → spelled 3 (p2m_body top frames) ≡ head_of 3 n ++ ((little_bytes 4 0 ++ little_bytes 4 top) ++ (frames ++ replicate (padding_len n) 0))
p2m_text top n frames is = record_text 3 n (p2m_body top frames) (omega (arith, is))

-- ---- the parts of a vCPU

pub part_text : (code : PartCode) (key : PartKey) (bytes : List ℕ) → shape_of code ≡ of_vcpu → text_of (part_record code key (Some bytes)) ≡ piece (shape_of code) (code_number code) (key, bytes)
part_text code key bytes is =
    text_one (code_number code) (part_body (shape_of code) (key, bytes))
    ∙ subst (λ s. spelled (code_number code) (part_body s (key, bytes)) ≡ piece s (code_number code) (key, bytes)) (sym is) refl

pub vcpu_text : (g : GuestOf) (id : ℕ) → text_of (records_of_vcpu g id)
    ≡ text_of (vcpu_record g id VcpuBasic) ++ (text_of (vcpu_record g id VcpuExtended) ++ (text_of (vcpu_record g id VcpuXsave) ++ text_of (vcpu_record g id VcpuMsrs)))
vcpu_text g id =
    texts_of (vcpu_record g id) vcpu_codes
    ∙ ap (λ l. text_of (vcpu_record g id VcpuBasic) ++ (text_of (vcpu_record g id VcpuExtended) ++ (text_of (vcpu_record g id VcpuXsave) ++ l))) (append-nil (text_of (vcpu_record g id VcpuMsrs)))

-- ---- all vCPUs

range_front : (i n : ℕ) → i ≤ n → take i (range_with_len 0 n) ≡ range_with_len 0 i
range_front i n le = ap (take i) (sym (map-id (range_with_len 0 n))) ∙ take-map-range_with_len (λ k. k) 0 n i le ∙ map-id (range_with_len 0 i)

range_more : (i : ℕ) → range_with_len 0 (i + 1) ≡ range_with_len 0 i ++ i ∷ []
range_more i = sym (map-id (range_with_len 0 (i + 1))) ∙ map-range_with_len_more (λ k. k) 0 i i (omega arith) ∙ ap (λ l. l ++ i ∷ []) (map-id (range_with_len 0 i))

module _ (g : GuestOf) (i : ℕ) where
  below_more : vcpus_below g (i + 1) ≡ vcpus_below g i ++ records_of_vcpu g i
  below_more = ap (flat_map (records_of_vcpu g)) (range_more i) ∙ flat_map-append (records_of_vcpu g) (range_with_len 0 i) (i ∷ []) ∙ ap (λ l. vcpus_below g i ++ l) (append-nil (records_of_vcpu g i))

  text_next : text_of (vcpus_below g (i + 1)) ≡ text_of (vcpus_below g i) ++ text_of (records_of_vcpu g i)
  text_next = ap text_of below_more ∙ text_join (vcpus_below g i) (records_of_vcpu g i)

  abbrev behind : ℕ → List Record
  behind n = flat_map (records_of_vcpu g) (drop (i + 1) (range_with_len 0 n))

  text_all : (n : ℕ) → i < n → text_of (vcpus_below g n) ≡ text_of (vcpus_below g i) ++ (text_of (records_of_vcpu g i) ++ text_of (behind n))
  text_all n less =
      ap (λ l. text_of (flat_map (records_of_vcpu g) l)) (sym (take-append-drop (i + 1) (range_with_len 0 n)) ∙ ap (λ l. l ++ drop (i + 1) (range_with_len 0 n)) (range_front (i + 1) n (omega (arith, less))))
      ∙ ap text_of (flat_map-append (records_of_vcpu g) (range_with_len 0 (i + 1)) (drop (i + 1) (range_with_len 0 n))) ∙ text_join (vcpus_below g (i + 1)) (behind n)
      ∙ ap (λ l. l ++ text_of (behind n)) text_next ∙ append_assoc (text_of (vcpus_below g i)) (text_of (records_of_vcpu g i)) (text_of (behind n))

  -- one vCPU more
  pub vcpu_next : (a b c : Option (List ℕ)) → Appends a b (text_of (vcpus_below g i)) → Appends b c (text_of (records_of_vcpu g i)) → Appends a c (text_of (vcpus_below g (i + 1)))
  vcpu_next a b c before more = subst (Appends a c) (sym text_next) (Appends-trans a b c (text_of (vcpus_below g i)) (text_of (records_of_vcpu g i)) before more)

  -- a write that failed
  pub vcpu_stop : {X : Type 0} (n : ℕ) (a b c : Option (List ℕ)) (d : WriteFailed) (r : Result X WriteFailed) → n ≡ 4096 → i < n → Appends a b (text_of (vcpus_below g i)) → IsErrAnd r (λ y. y ≡ d)
      → AppendsPart b c (text_of (records_of_vcpu g i)) → Puts (text_of (all_vcpus g)) a c r
  unfolding all_vcpus
  vcpu_stop n a b c d r all less before failed part =
      puts_same _ _ a c r (ap (λ m. text_of (vcpus_below g m)) (sym all) ∙ text_all n less) (puts_then _ _ a b c r before (puts_stop _ _ b c d d r failed part))

  pub vcpus_end : i ≡ 4096 → text_of (all_vcpus g) ≡ text_of (vcpus_below g i)
  unfolding all_vcpus
  vcpus_end all = ap (λ m. text_of (vcpus_below g m)) (sym all)

-- ---- parts that are found

found_holds : (P : Part → Type 0) (q : PartKey) (bytes : List ℕ) (es : List Part) → All P es → find part_cmp q es ≡ Some bytes → P (q, bytes)
found_holds P q bytes [] all is = absurd (cc)
found_holds P q bytes (e ∷ es) all is = elim (eq_by_cmp part_cmp q e.0) as (λ b. eq_by_cmp part_cmp q e.0 ≡ b → cond b (Some e.1) (find part_cmp q es) ≡ Some bytes → P (q, bytes)) [
  | true ↦ λ t at. let content : e.1 ≡ bytes = cc in subst (λ k. P (k, bytes)) (sym (part_exact q e.0 (tied _ t))) (subst (λ b. P (e.0, b)) content (All-head P e es all))
  | false ↦ λ t at. found_holds P q bytes es (All-tail P e es all) at
] refl is

module _ (g : GuestOf) (formed : IsFormed g) where
  -- a part that is there is among those of its code
  among_code : (q : PartKey) (bytes : List ℕ) (n : ℕ) → q.code ≡ n → maps.get g.parts q ≡ Some bytes → find part_cmp q (parts_of n (maps.entries g.parts)) ≡ Some bytes
  among_code q bytes n is there =
      let test : PartKey → Bool = λ (k : PartKey). k.code == n in
      find-where_key part_cmp test q (λ x e. ap test (sym (part_exact q x e))) (maps.entries g.parts)
      ∙ ap (λ b. cond b (find part_cmp q (maps.entries g.parts)) None) (eq-eqb q.code n is) ∙ sym (maps.get-entries g.parts q) ∙ there

  pub short_part : (code : PartCode) (id : ℕ) (bytes : List ℕ) → maps.get g.parts (key_of code id) ≡ Some bytes → IsShortPart (shape_of code) (key_of code id, bytes)
  short_part code id bytes there = found_holds (IsShortPart (shape_of code)) (key_of code id) bytes (parts_at code g) (short_parts code g formed) (among_code (key_of code id) bytes (code_number code) refl there)

  -- ---- the P2M frames of a PV guest

  module _ (pv : g.kind ≡ Pv) where
    pub top_small : g.top < top_limit
    top_small = subst (λ kind. IsTop kind g.top) pv formed.top

    pub p2m_short : (bytes : List ℕ) → maps.get g.parts p2m_key ≡ Some bytes → length bytes ≤ 2 ^ 26
    p2m_short bytes there =
        let part = formed.parts p2m_key bytes there in
        let named : Some P2mFrames ≡ Some part.code = numbered 3 part.code part.number in let code : P2mFrames ≡ part.code = cc in
        let len = eqb-true (length bytes) _ (subst (λ c. (row_of c).allows (width_of g) (length bytes) ≡ true) (sym code) part.len) in
        omega (arith, len, top_small)
