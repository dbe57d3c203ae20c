-- What the bodies of the records of a PV guest say: X86_PV_INFO, the P2M frames, and the parts of each vCPU.
use Rattle.mig_canon.proofs.Common.{◌≡◌, ℕ, ◌*◌, ◌<◌, ◌≤◌, ◌^◌, Bool, true, false, cond, List, [], ◌∷◌, ◌++◌, length, map, replicate, Some, None, refl, sym, ap, subst, ◌∙◌, arith, All, AllByRecursion, find, little_bytes, Pv, PartCode, PartKey, Part, GuestOf, IsFormed, IsTop, width_of, part_cmp, code_number, parts_of, put_part, p2m_key, p2m_body, key_of, vcpu_codes, IsRecordBody, SayAll, bodies_by_shape, contents_by_shape, part_body, parts_at, shape_of, ◌==◌, eqb-true, eq-eqb, All-nil, All-cons, VcpuBasic, VcpuExtended, VcpuXsave, VcpuMsrs, part_exact, of_part, canonical_bodies_say, top_limit, find-where_key, P2mFrames, set_p2m, Shape, Table, Single, Named, Chain, Other, le-leb, IsPvInfo, IsP2m, p2m_count, greater, listed_over}
use Rattle.mig_canon.proofs.CanonParts.{le32_first, le32_second}
use Rattle.mig_canon.proofs.CanonMaps.{found_holds}
use Rattle.std.specs.FinMap as maps

-- ---- X86_PV_INFO

-- the body that is written
abbrev pub info_body : List ℕ
info_body = 8 ∷ 4 ∷ replicate 6 0

pub info_says : IsPvInfo info_body × (length info_body ≡ 8)
info_says = (record { ignored = replicate 6 0; whole = refl }, refl)

-- ---- X86_PV_P2M_FRAMES

module _ (g : GuestOf) (formed : IsFormed g) (pv : g.kind ≡ Pv) where
  top_is_small : g.top < top_limit
  top_is_small = subst (λ kind. IsTop kind g.top) pv formed.top

  -- the list of P2M frames lists them all
  p2m_listed : (frames : List ℕ) → maps.get g.parts p2m_key ≡ Some frames → length frames ≡ 8 * p2m_count 0 g.top
  p2m_listed frames there =
      let one = of_part P2mFrames g.kind (width_of g) (p2m_key, frames) (formed.parts p2m_key frames there) refl in
      eqb-true _ _ one.len ∙ omega arith

  pub p2m_says : (frames : List ℕ) → maps.get g.parts p2m_key ≡ Some frames → IsP2m g.top frames (p2m_body g.top frames)
  p2m_says frames there = record {
    front = replicate 4 0 ++ little_bytes 4 g.top;
    whole = refl;
    front_len = refl;
    first_is = le32_first 0 (little_bytes 4 g.top) (omega arith);
    last_is = le32_second 0 g.top (omega (arith, top_is_small));
    listed = p2m_listed frames there;
  }

  pub p2m_body_len : (frames : List ℕ) → maps.get g.parts p2m_key ≡ Some frames → (8 ≤ length (p2m_body g.top frames)) × (length (p2m_body g.top frames) ≤ 2 ^ 27)
  p2m_body_len frames there = let len = p2m_listed frames there in (omega arith, omega (arith, len, top_is_small))

-- P2M frames that are listed where there are none yet
pub p2m_set : (last : ℕ) (frames : List ℕ) (h : GuestOf) → h.top ≡ 0 → maps.get h.parts p2m_key ≡ None → set_p2m last frames h ≡ record h { top = last; parts = put_part h.parts (p2m_key, frames) }
p2m_set last frames h none_yet no_part =
    ap (λ t. record h { top = t; parts = maps.insert h.parts p2m_key (listed_over frames (maps.get h.parts p2m_key)) }) (ap (λ t. greater t last) none_yet ∙ ap (λ b. cond b last 0) (le-leb 0 last (omega arith)))
    ∙ ap (λ o. record h { top = last; parts = maps.insert h.parts p2m_key (listed_over frames o) }) no_part

-- ---- a part that has a record of its own

-- whether each part of this shape has a record of its own
abbrev is_alone : Shape → Bool
is_alone (Table l) = false
is_alone Other = false
is_alone shape = true

each_says : (code : PartCode) (body : Part → List ℕ) (ps : List Part) → SayAll code (map body ps) (map (λ p. p ∷ []) ps) → All (λ p. IsRecordBody code (body p) (p ∷ [])) ps
each_says code body [] say = All-nil (λ p. IsRecordBody code (body p) (p ∷ []))
each_says code body (p ∷ ps) say = All-cons (λ p. IsRecordBody code (body p) (p ∷ [])) p ps say.0 (each_says code body ps say.1)

says_by_shape : (code : PartCode) (shape : Shape) → is_alone shape ≡ true → (ps : List Part) → SayAll code (bodies_by_shape shape ps) (contents_by_shape shape ps) → All (λ p. IsRecordBody code (part_body shape p) (p ∷ [])) ps
says_by_shape code (Table l) alone ps say = absurd (cc)
says_by_shape code (Single len ignored) alone ps say = each_says code (part_body (Single len ignored)) ps say
says_by_shape code (Named second ignored skips) alone ps say = each_says code (part_body (Named second ignored skips)) ps say
says_by_shape code Chain alone ps say = each_says code (part_body Chain) ps say
says_by_shape code Other alone ps say = absurd (cc)

-- a part that is there is among those of its code
found_at_code : (g : GuestOf) (q : PartKey) (bytes : List ℕ) → maps.get g.parts q ≡ Some bytes → find part_cmp q (parts_of q.code (maps.entries g.parts)) ≡ Some bytes
found_at_code g q bytes there =
    let test : PartKey → Bool = λ (k : PartKey). k.code == q.code in
    find-where_key part_cmp test q (λ x e. ap test (sym (part_exact q x e))) (maps.entries g.parts)
    ∙ ap (λ b. cond b (find part_cmp q (maps.entries g.parts)) None) (eq-eqb q.code q.code refl) ∙ sym (maps.get-entries g.parts q) ∙ there

-- the record of a part says this part
part_says : (g : GuestOf) → IsFormed g → (code : PartCode) → is_alone (shape_of code) ≡ true → (key : PartKey) (bytes : List ℕ) → key.code ≡ code_number code → maps.get g.parts key ≡ Some bytes
    → IsRecordBody code (part_body (shape_of code) (key, bytes)) ((key, bytes) ∷ [])
part_says g formed code alone key bytes number there =
    found_holds (λ p. IsRecordBody code (part_body (shape_of code) p) (p ∷ [])) key bytes (parts_at code g)
    (says_by_shape code (shape_of code) alone (parts_at code g) (canonical_bodies_say code g formed))
    (subst (λ n. find part_cmp key (parts_of n (maps.entries g.parts)) ≡ Some bytes) number (found_at_code g key bytes there))

-- of a vCPU
pub vcpu_part_says : (g : GuestOf) → IsFormed g → AllByRecursion (λ code. (id : ℕ) (bytes : List ℕ) → maps.get g.parts (key_of code id) ≡ Some bytes → IsRecordBody code (part_body (shape_of code) (key_of code id, bytes)) ((key_of code id, bytes) ∷ [])) vcpu_codes
vcpu_part_says g formed = (says VcpuBasic refl, (says VcpuExtended refl, (says VcpuXsave refl, (says VcpuMsrs refl, tt))))
  where
    says : (code : PartCode) → is_alone (shape_of code) ≡ true → (id : ℕ) (bytes : List ℕ) → maps.get g.parts (key_of code id) ≡ Some bytes → IsRecordBody code (part_body (shape_of code) (key_of code id, bytes)) ((key_of code id, bytes) ∷ [])
    says code alone id bytes there = part_says g formed code alone (key_of code id) bytes refl there
