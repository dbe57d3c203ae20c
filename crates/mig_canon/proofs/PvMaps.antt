-- The parts of a PV guest, set again record by record, give its parts.
use Rattle.mig_canon.proofs.Common.{◌≡◌, ℕ, zero, suc, ◌+◌, Bool, true, false, cond, not, nat_eq, nat_lt, List, [], ◌∷◌, ◌++◌, Option, Some, None, refl, sym, ap, subst, ◌∙◌, arith, ◌||◌, ◌&&◌, if◌then◌else◌, list_all, list_any, eq_by_cmp, Kind, Pv, PartCode, PartKey, Part, PartMap, GuestOf, IsFormed, is_policy, width_of, part_cmp, row_of, code_number, put_part, put_parts, replace_code, p2m_key, set_parts, key_of, static_codes, pv_last_codes, vcpu_codes, records_of_vcpu, vcpus_below, ◌==◌, option_or, nat_cmp, and_parts, eqb-true, common_steps, VcpuBasic, VcpuExtended, VcpuXsave, Tsc, VcpuMsrs, tied, part_total, part_exact, of_part, FrameMap, append-nil, flat_map, range_with_len, flat_map-append, map-range_with_len_more, not-true, P2mFrames, set_p2m, map-id, le-ltb, and_right, tied_then, unsigned_tied, is_eq, ordering_then, SharedInfo, CpuidLeaf, Msr, no_keys}
use Rattle.std.proofs.Math.Bool.{and-or_distrib_right}
use Rattle.mig_canon.proofs.PvSays.{p2m_set}
use Rattle.mig_canon.proofs.CanonMaps.{Holds, mixed, codes_with, with_parts, holds_codes, holds_none, nothing, all_again}
use Rattle.std.specs.FinMap as maps

-- ---- keys

same_key : (q k : PartKey) → eq_by_cmp part_cmp q k ≡ ((q.code == k.code) && ((q.key1 == k.key1) && (q.key2 == k.key2)))
same_key q k =
    sym (tied_then (nat_cmp q.code k.code) (ordering_then (nat_cmp q.key1 k.key1) (nat_cmp q.key2 k.key2)))
    ∙ ap (λ b. is_eq (nat_cmp q.code k.code) && b) (sym (tied_then (nat_cmp q.key1 k.key1) (nat_cmp q.key2 k.key2)))
    ∙ (λ i. unsigned_tied q.code k.code i && (unsigned_tied q.key1 k.key1 i && unsigned_tied q.key2 k.key2 i))

-- the code of a vCPU's part
abbrev is_vcpu_code : ℕ → Bool
is_vcpu_code number = list_any (λ code. number == code_number code) vcpu_codes

-- the key of a part of one of the first n vCPUs
abbrev is_vcpu_key : ℕ → PartKey → Bool
is_vcpu_key n q = is_vcpu_code q.code && (nat_lt q.key1 n && (q.key2 == 0))

-- ---- one part set, where it is there

abbrev pub put_found : PartKey → Option (List ℕ) → PartMap → PartMap
put_found key None m = m
put_found key (Some bytes) m = put_part m (key, bytes)

-- as a record of this code sets it
abbrev pub set_found : PartCode → PartKey → Option (List ℕ) → PartMap → PartMap
set_found code key None m = m
set_found code key (Some bytes) m = set_parts code m ((key, bytes) ∷ [])

-- one part set by a code that is no policy
set_one : (code : PartCode) → not (is_policy (code_number code)) ≡ true → (m : PartMap) (p : Part) → set_parts code m (p ∷ []) ≡ put_part m p
set_one code plain m p = ap (λ b. if b then replace_code (code_number code) m (p ∷ []) else put_parts m (p ∷ [])) (not-true _ plain)

set_is_put : (code : PartCode) → not (is_policy (code_number code)) ≡ true → (key : PartKey) (o : Option (List ℕ)) (m : PartMap) → set_found code key o m ≡ put_found key o m
set_is_put code plain key None m = refl
set_is_put code plain key (Some bytes) m = set_one code plain m (key, bytes)

module _ (of : PartMap) (m : PartMap) (q : PartKey) where
  -- of these keys the map has what the other one has there, if anything, and else what it had
  abbrev with_picked : Bool → Option (List ℕ)
  with_picked b = option_or (cond b (maps.get of q) None) (maps.get m q)

  put_found_is : (key : PartKey) → maps.get (put_found key (maps.get of key) m) q ≡ with_picked (eq_by_cmp part_cmp q key)
  put_found_is key = by (maps.get of key) refl
    where
      at : eq_by_cmp part_cmp q key ≡ true → maps.get of q ≡ maps.get of key
      at t = ap (maps.get of) (part_exact q key (tied _ t))

      none : (b : Bool) → (b ≡ true → maps.get of q ≡ None) → maps.get m q ≡ with_picked b
      none true lacks = ap (λ o. option_or o (maps.get m q)) (sym (lacks refl))
      none false lacks = refl

      some : (bytes : List ℕ) (b : Bool) → (b ≡ true → maps.get of q ≡ Some bytes) → cond b (Some bytes) (maps.get m q) ≡ with_picked b
      some bytes true there = ap (λ o. option_or o (maps.get m q)) (sym (there refl))
      some bytes false there = refl

      by : (o : Option (List ℕ)) → maps.get of key ≡ o → maps.get (put_found key o m) q ≡ with_picked (eq_by_cmp part_cmp q key)
      by None is = none (eq_by_cmp part_cmp q key) (λ t. at t ∙ is)
      by (Some bytes) is = maps.get-insert part_total m key bytes q ∙ some bytes (eq_by_cmp part_cmp q key) (λ t. at t ∙ is)

-- ---- the parts of vCPUs

-- the parts of these codes that a vCPU has, set one after another
abbrev pub vcpu_set : GuestOf → ℕ → List PartCode → PartMap → PartMap
vcpu_set g id [] m = m
vcpu_set g id (code ∷ codes) m = vcpu_set g id codes (set_found code (key_of code id) (maps.get g.parts (key_of code id)) m)

-- the parts of the first n vCPUs
abbrev pub vcpu_parts : GuestOf → ℕ → PartMap → PartMap
vcpu_parts g zero m = m
vcpu_parts g (suc n) m = vcpu_set g n vcpu_codes (vcpu_parts g n m)

either : (a b : Bool) (o x : Option (List ℕ)) → option_or (cond b o None) (option_or (cond a o None) x) ≡ option_or (cond (a || b) o None) x
either a b o x = grind (arith, common_steps)

both_ids : (c a b z : Bool) → ((c && (a && z)) || (c && (b && z))) ≡ (c && ((a || b) && z))
both_ids true a b z = sym (and-or_distrib_right a b z)
both_ids false a b z = refl

one_more : (k n : ℕ) → (nat_lt k n || (k == n)) ≡ nat_lt k (suc n)
one_more k n = grind (arith, common_steps)

module _ (g : GuestOf) (q : PartKey) where
  -- whether it is a part of this vCPU
  of_vcpu : (id : ℕ) (codes : List PartCode) → list_any (λ code. eq_by_cmp part_cmp q (key_of code id)) codes ≡ (list_any (λ code. q.code == code_number code) codes && ((q.key1 == id) && (q.key2 == 0)))
  of_vcpu id [] = refl
  of_vcpu id (code ∷ codes) =
      ap (λ b. b || list_any (λ c. eq_by_cmp part_cmp q (key_of c id)) codes) (same_key q (key_of code id))
      ∙ ap (λ b. ((q.code == code_number code) && ((q.key1 == id) && (q.key2 == 0))) || b) (of_vcpu id codes)
      ∙ sym (and-or_distrib_right (q.code == code_number code) (list_any (λ c. q.code == code_number c) codes) ((q.key1 == id) && (q.key2 == 0)))

  vcpu_set_is : (id : ℕ) (codes : List PartCode) → list_all (λ code. not (is_policy (code_number code))) codes ≡ true → (m : PartMap)
      → maps.get (vcpu_set g id codes m) q ≡ with_picked g.parts m q (list_any (λ code. eq_by_cmp part_cmp q (key_of code id)) codes)
  vcpu_set_is id [] plain m = refl
  vcpu_set_is id (code ∷ codes) plain m =
      let (first, others) = and_parts _ _ plain in
      let key = key_of code id in let there = maps.get g.parts key in
      vcpu_set_is id codes others (set_found code key there m)
      ∙ ap (λ n. with_picked g.parts n q (list_any (λ c. eq_by_cmp part_cmp q (key_of c id)) codes)) (set_is_put code first key there m)
      ∙ ap (option_or (cond (list_any (λ c. eq_by_cmp part_cmp q (key_of c id)) codes) (maps.get g.parts q) None)) (put_found_is g.parts m q key)
      ∙ either (eq_by_cmp part_cmp q key) (list_any (λ c. eq_by_cmp part_cmp q (key_of c id)) codes) (maps.get g.parts q) (maps.get m q)

  -- the map has the guest's part at each key of the first n vCPUs, where the guest has one there, and else what it had
  vcpu_parts_are : (n : ℕ) (m : PartMap) → maps.get (vcpu_parts g n m) q ≡ option_or (cond (is_vcpu_key n q) (maps.get g.parts q) None) (maps.get m q)
  vcpu_parts_are zero m = ap (with_picked g.parts m q) (sym (and_right (is_vcpu_code q.code) _ (ap (λ b. b && (q.key2 == 0)) (le-ltb q.key1 0 (omega arith)))))
  vcpu_parts_are (suc n) m =
      let here = (q.key1 == n) && (q.key2 == 0) in
      vcpu_set_is n vcpu_codes refl (vcpu_parts g n m) ∙ ap (with_picked g.parts (vcpu_parts g n m) q) (of_vcpu n vcpu_codes)
      ∙ ap (option_or (cond (is_vcpu_code q.code && here) (maps.get g.parts q) None)) (vcpu_parts_are n m)
      ∙ either (is_vcpu_key n q) (is_vcpu_code q.code && here) (maps.get g.parts q) (maps.get m q)
      ∙ ap (with_picked g.parts m q) (both_ids (is_vcpu_code q.code) (nat_lt q.key1 n) (q.key1 == n) (q.key2 == 0) ∙ ap (λ b. is_vcpu_code q.code && (b && (q.key2 == 0))) (one_more q.key1 n))

range_more : (i : ℕ) → range_with_len 0 (i + 1) ≡ range_with_len 0 i ++ i ∷ []
range_more i = sym (map-id (range_with_len 0 (i + 1))) ∙ map-range_with_len_more (λ k. k) 0 i i (omega arith) ∙ ap (λ l. l ++ i ∷ []) (map-id (range_with_len 0 i))

-- what the numbers below one number more give
pub counted_more : {X : Type 0} (F : ℕ → List X) (i : ℕ) → flat_map F (range_with_len 0 (i + 1)) ≡ flat_map F (range_with_len 0 i) ++ F i
counted_more F i = ap (flat_map F) (range_more i) ∙ flat_map-append F (range_with_len 0 i) (i ∷ []) ∙ ap (λ l. flat_map F (range_with_len 0 i) ++ l) (append-nil (F i))

-- the records of one vCPU more
pub vcpus_more : (g : GuestOf) (n : ℕ) → vcpus_below g (suc n) ≡ vcpus_below g n ++ records_of_vcpu g n
vcpus_more g n = ap (vcpus_below g) (let e : suc n ≡ n + 1 = omega arith in e) ∙ counted_more (records_of_vcpu g) n

-- ---- the P2M frames

module _ (g : GuestOf) (formed : IsFormed g) where
  -- the list of P2M frames is the one part of its code
  only_list : (q : PartKey) (bytes : List ℕ) → maps.get g.parts q ≡ Some bytes → eq_by_cmp part_cmp q p2m_key ≡ nat_eq q.code 3
  only_list q bytes there = same_key q p2m_key ∙ by (nat_eq q.code 3) refl
    where
      by : (b : Bool) → nat_eq q.code 3 ≡ b → (b && no_keys q.key1 q.key2) ≡ b
      by true is = (of_part P2mFrames g.kind (width_of g) (q, bytes) (formed.parts q bytes there) (eqb-true q.code 3 is)).keys
      by false is = refl

  list_picked : (q : PartKey) → cond (eq_by_cmp part_cmp q p2m_key) (maps.get g.parts q) None ≡ cond (nat_eq q.code 3) (maps.get g.parts q) None
  list_picked q = by (maps.get g.parts q) refl
    where
      by : (o : Option (List ℕ)) → maps.get g.parts q ≡ o → cond (eq_by_cmp part_cmp q p2m_key) o None ≡ cond (nat_eq q.code 3) o None
      by None is = nothing (eq_by_cmp part_cmp q p2m_key) None refl ∙ sym (nothing (nat_eq q.code 3) None refl)
      by (Some bytes) is = ap (λ b. cond b (Some bytes) None) (only_list q bytes is)

  -- the list of P2M frames set
  p2m_holds : (codes : ℕ → Bool) (m : PartMap) → Holds g.parts codes m → Holds g.parts (λ x. nat_eq x 3 || codes x) (put_found p2m_key (maps.get g.parts p2m_key) m)
  p2m_holds codes m holds q =
      put_found_is g.parts m q p2m_key ∙ ap (λ o. option_or o (maps.get m q)) (list_picked q) ∙ ap (option_or (cond (nat_eq q.code 3) (maps.get g.parts q) None)) (holds q)
      ∙ mixed (nat_eq q.code 3) (codes q.code) (maps.get g.parts q)

-- there is no list of P2M frames behind the policies
no_list_yet : (g : GuestOf) → maps.get (with_parts static_codes g maps.empty) p2m_key ≡ None
no_list_yet g = holds_codes static_codes g (λ x. false) maps.empty (holds_none g.parts) p2m_key

-- ---- all parts

-- behind the policies, the P2M frames, and the TSC and SHARED_INFO
abbrev pub static_set : GuestOf → PartMap
static_set g = with_parts static_codes g maps.empty

abbrev pub list_set : GuestOf → PartMap
list_set g = put_found p2m_key (maps.get g.parts p2m_key) (static_set g)

abbrev pub last_set : GuestOf → PartMap
last_set g = with_parts pv_last_codes g (list_set g)

-- and behind all vCPUs
abbrev pub pv_parts : GuestOf → PartMap
pv_parts g = vcpu_parts g 4096 (last_set g)

-- the codes of the parts of a PV guest that no vCPU has
abbrev pv_codes : ℕ → Bool
pv_codes = codes_with pv_last_codes (λ x. nat_eq x 3 || codes_with static_codes (λ y. false) x)

is_picked : (code : PartCode) (key1 key2 : ℕ) → (row_of code).of_kind Pv ≡ true → (row_of code).keys key1 key2 ≡ true → (is_vcpu_key 4096 (record { code = code_number code; key1 = key1; key2 = key2 }) || pv_codes (code_number code)) ≡ true
is_picked P2mFrames key1 key2 of_pv keys = refl
is_picked SharedInfo key1 key2 of_pv keys = refl
is_picked Tsc key1 key2 of_pv keys = refl
is_picked CpuidLeaf key1 key2 of_pv keys = refl
is_picked Msr key1 key2 of_pv keys = refl
is_picked VcpuBasic key1 key2 of_pv keys = ap (λ b. b || pv_codes 4) keys
is_picked VcpuExtended key1 key2 of_pv keys = ap (λ b. b || pv_codes 5) keys
is_picked VcpuXsave key1 key2 of_pv keys = ap (λ b. b || pv_codes 6) keys
is_picked VcpuMsrs key1 key2 of_pv keys = ap (λ b. b || pv_codes 12) keys
is_picked _ key1 key2 of_pv keys = absurd (cc)

module _ (g : GuestOf) (formed : IsFormed g) (pv : g.kind ≡ Pv) where
  abbrev test : PartKey → Bool
  test q = is_vcpu_key 4096 q || pv_codes q.code

  part_is_picked : (q : PartKey) (bytes : List ℕ) → maps.get g.parts q ≡ Some bytes → test q ≡ true
  part_is_picked q bytes there =
      let part = formed.parts q bytes there in
      ap (λ n. test (record { code = n; key1 = q.key1; key2 = q.key2 })) part.number
      ∙ is_picked part.code q.key1 q.key2 (subst (λ (k : Kind). (row_of part.code).of_kind k ≡ true) pv part.of_kind) part.keys

  -- the parts set record by record are the guest's
  pub pv_parts_again : pv_parts g ≡ g.parts
  pv_parts_again = all_again g.parts (pv_parts g) test (λ q.
      vcpu_parts_are g q 4096 (last_set g) ∙ ap (option_or (cond (is_vcpu_key 4096 q) (maps.get g.parts q) None)) (last_holds q)
      ∙ mixed (is_vcpu_key 4096 q) (pv_codes q.code) (maps.get g.parts q)) part_is_picked
    where
      last_holds : Holds g.parts pv_codes (last_set g)
      last_holds = holds_codes pv_last_codes g (λ x. nat_eq x 3 || codes_with static_codes (λ y. false) x) (list_set g)
          (p2m_holds g formed (codes_with static_codes (λ y. false)) (static_set g) (holds_codes static_codes g (λ x. false) maps.empty (holds_none g.parts)))

-- the record of the P2M frames, behind the policies
pub list_is_set : (g : GuestOf) (frames : FrameMap) (listed : List ℕ) → maps.get g.parts p2m_key ≡ Some listed
    → set_p2m g.top listed (record { kind = Pv; top = 0; frames = frames; parts = static_set g }) ≡ record { kind = Pv; top = g.top; frames = frames; parts = list_set g }
list_is_set g frames listed there =
    p2m_set g.top listed (record { kind = Pv; top = 0; frames = frames; parts = static_set g }) refl (no_list_yet g)
    ∙ ap (λ (o : Option (List ℕ)). record { kind = Pv; top = g.top; frames = frames; parts = put_found p2m_key o (static_set g) }) (sym there)
