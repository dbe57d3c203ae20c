-- The parts of emulators in the order of their records: all of a guest, and none twice.
use Rattle.mig_libxl.proofs.Common.{◌≡◌, ◌≢◌, ◌↔◌, ℕ, ◌+◌, ◌<◌, ◌≤◌, Bool, true, false, cond, List, [], ◌∷◌, ◌++◌, length, Option, Some, None, inl, inr, refl, sym, ap, subst, ◌∙◌, arith, ◌==◌, nat_lt, All, option_or, eq_by_cmp, is_lt, nat_cmp, Equal, find, and_parts, eq-eqb, eqb-true, or_cases, All-nil, All-cons, All-head, All-tail, IsFormed, is_emulator_code, width_of, GuestOf, part_cmp, Part, PartMap, parts_of, EmulatorPairs, EmulatorContext, PartKey, all_of, part_exact, IsOf, of_part, common_steps, ltb-true, ne_eqb, NextPart, same_parts, all_found, emulators_after, ◌*◌, nil_from_length, ⊤, Contains, ordering_reverse, All-append, All-contains, All-contains_itself, All-weaker, parts_after, found_holds, mixed}
use Rattle.std.specs.FinMap.Entries.{by_order, put, same_entries}
use Rattle.std.proofs.lemmas.Map.Lookups.{exact_pairs, exact_unsigned}
use Rattle.mig_guest.proofs.Common.{All-filter, Greater, IsAntisymmetric, IsTotalOrder, Less, Ordering, T, below_all, filter_passes, find-where_key, is_eq, is_sorted, nat_cmp_total, on_total, ordering_then, then_total}
use Rattle.mig_guest.proofs.PartCursor.{both_of, less, true_of}
use Rattle.mig_canon.proofs.Wholes.{code_next}
use Rattle.mig_canon.specs.CanonStream.{AreEmulatorsInOrder, NextEmulator, emulator_cmp, emulators_in_order, in_emulator_order}
use Rattle.std.specs.FinMap as maps

-- ---- the order

pub emulator_total : IsTotalOrder emulator_cmp
emulator_total = then_total (on_total (λ (k : PartKey). k.key1) nat_cmp_total) (then_total (on_total (λ (k : PartKey). k.key2) nat_cmp_total) (on_total (λ (k : PartKey). k.code) nat_cmp_total))

emulator_exact : IsAntisymmetric emulator_cmp
emulator_exact x y e =
    ap (λ (k : ℕ × (ℕ × ℕ)). record { code = k.1.1; key1 = k.0; key2 = k.1.0 })
    (exact_pairs nat_cmp (λ p q. ordering_then (nat_cmp p.0 q.0) (nat_cmp p.1 q.1)) exact_unsigned (exact_pairs nat_cmp nat_cmp exact_unsigned exact_unsigned) (x.key1, (x.key2, x.code)) (y.key1, (y.key2, y.code)) e)

-- the same keys tie in either order
alike : (q k : PartKey) → eq_by_cmp emulator_cmp q k ≡ eq_by_cmp part_cmp q k
alike q k = grind (arith, common_steps)

find_alike : (q : PartKey) (ps : List Part) → find emulator_cmp q ps ≡ find part_cmp q ps
find_alike q [] = refl
find_alike q (p ∷ ps) = (λ i. cond (alike q p.0 i) (Some p.1) (find_alike q ps i))

-- keys of one code have the same order in both
same_code : (a b : PartKey) → a.code ≡ b.code → is_lt (part_cmp a b) ≡ true → emulator_cmp a b ≡ Less
same_code a b code t = grind (arith, common_steps)

-- this part stands before that one
abbrev Before : Part → Part → Type 0
Before p q = emulator_cmp p.0 q.0 ≡ Less

-- ---- parts in order

module _ (ps : List Part) where
  sorted : T (is_sorted emulator_cmp (in_emulator_order ps))
  sorted = maps.entries_sorted (maps.from_entries {R = emulator_cmp} ps)

  order_found : (q : PartKey) → find emulator_cmp q (in_emulator_order ps) ≡ find part_cmp q ps
  order_found q = sym (maps.get-entries (maps.from_entries {R = emulator_cmp} ps) q) ∙ maps.get-from_entries emulator_total ps q ∙ find_alike q ps

  order_holds : (P : Part → Type 0) → All P ps → All P (in_emulator_order ps)
  order_holds P all = all_found emulator_total emulator_exact P (in_emulator_order ps) sorted (λ q v is. found_holds P q v ps all (sym (order_found q) ∙ is))

put_first : (e : Part) (ps : List Part) → All (Before e) ps → put emulator_cmp e.0 e.1 ps ≡ e ∷ ps
put_first e [] before = refl
put_first e (p ∷ ps) before = ap (λ r. by_order r (e ∷ p ∷ ps) ((p.0, e.1) ∷ ps) (p ∷ put emulator_cmp e.0 e.1 ps)) (All-head (Before e) p ps before)

-- a part that stands before all others comes first
first : (e : Part) (xs ps : List Part) → All (Before e) xs → All (Before e) ps → in_emulator_order (xs ++ (e ∷ ps)) ≡ e ∷ in_emulator_order (xs ++ ps)
first e [] ps above before = maps.entries-insert emulator_total (maps.from_entries ps) e.0 e.1 ∙ put_first e (in_emulator_order ps) (order_holds ps (Before e) before)
first e (x ∷ xs) ps above before =
    let rest = in_emulator_order (xs ++ ps) in
    let later : emulator_cmp x.0 e.0 ≡ Greater = emulator_total.antisymm x.0 e.0 ∙ ap ordering_reverse (All-head (Before e) x xs above) in
    maps.entries-insert emulator_total (maps.from_entries (xs ++ (e ∷ ps))) x.0 x.1
    ∙ ap (put emulator_cmp x.0 x.1) (first e xs ps (All-tail (Before e) x xs above) before)
    ∙ ap (λ r. by_order r (x ∷ e ∷ rest) ((e.0, x.1) ∷ rest) (e ∷ put emulator_cmp x.0 x.1 rest)) later
    ∙ ap (λ l. e ∷ l) (sym (maps.entries-insert emulator_total (maps.from_entries (xs ++ ps)) x.0 x.1))

-- ---- the next part

module _ (code : ℕ) (after : Option PartKey) (es : List Part) (e : Part) (h : NextPart code after es (Some e)) where
  behind : All (Before e) (parts_after code (Some e.0) es)
  behind =
      all_of (λ p. is_lt (part_cmp e.0 p.0) ≡ true) (λ p. (p.0.code == code) ≡ true) (Before e)
      (λ p l is. same_code e.0 p.0 (code_next code after es e (parts_after code (Some e.0) es) h ∙ sym (eqb-true p.0.code code is)) l) (parts_after code (Some e.0) es)
      (filter_passes (λ p. is_lt (part_cmp e.0 p.0)) (parts_of code es))
      (All-filter (λ p. is_lt (part_cmp e.0 p.0)) (λ p. (p.0.code == code) ≡ true) (parts_of code es) (filter_passes (λ p. p.0.code == code) es))

  -- what stands before the first stands before all
  before_all : (x : Part) → Before x e → All (Before x) (parts_after code after es)
  before_all x up =
      subst (All (Before x)) (sym h)
      (All-cons (Before x) e (parts_after code (Some e.0) es) up (All-weaker (Before e) (Before x) (λ p l. emulator_total.trans x.0 e.0 p.0 up l) (parts_after code (Some e.0) es) behind))

module _ (parts : PartMap) (pairs context : Option PartKey) where
  abbrev es : List Part
  es = maps.entries parts

  pairs_first : (e : Part) → NextPart 258 pairs es (Some e) → All (Before e) (parts_after 259 context es) → NextEmulator parts pairs context (Some e)
  pairs_first e h before =
      let rest = parts_after 258 (Some e.0) es in let contexts = parts_after 259 context es in
      ap (λ l. in_emulator_order (l ++ contexts)) h
      ∙ first e [] (rest ++ contexts) (All-nil (Before e)) (All-append (Before e) rest contexts (behind 258 pairs es e h) before)
      ∙ ap (λ n. e ∷ cond (n == 258) (emulators_after parts (Some e.0) context) (emulators_after parts pairs (Some e.0))) (sym (code_next 258 pairs es e rest h))

  context_first : (e : Part) → NextPart 259 context es (Some e) → All (Before e) (parts_after 258 pairs es) → NextEmulator parts pairs context (Some e)
  context_first e h before =
      let rest = parts_after 259 (Some e.0) es in let stores = parts_after 258 pairs es in
      ap (λ l. in_emulator_order (stores ++ l)) h
      ∙ first e stores rest before (behind 259 context es e h)
      ∙ ap (λ n. e ∷ cond (n == 258) (emulators_after parts (Some e.0) context) (emulators_after parts pairs (Some e.0))) (sym (code_next 259 context es e rest h))

  pub pairs_alone : (e : Part) → NextPart 258 pairs es (Some e) → NextPart 259 context es None → NextEmulator parts pairs context (Some e)
  pairs_alone e h none = pairs_first e h (subst (All (Before e)) (sym none) (All-nil (Before e)))

  pub context_alone : (r : Option Part) → NextPart 258 pairs es None → NextPart 259 context es r → NextEmulator parts pairs context r
  context_alone None none h = (λ i. in_emulator_order (none i ++ h i)) ∙ nil_from_length _ (sym (maps.len-entries _) ∙ maps.len-empty emulator_cmp (List ℕ))
  context_alone (Some e) none h = context_first e h (subst (All (Before e)) (sym none) (All-nil (Before e)))

  module _ (x y : Part) (one : NextPart 258 pairs es (Some x)) (two : NextPart 259 context es (Some y)) where
    pub context_before : is_lt (emulator_cmp y.0 x.0) ≡ true → NextEmulator parts pairs context (Some y)
    context_before t = context_first y two (before_all 258 pairs es x one y (less _ t))

    pub pairs_before : is_lt (emulator_cmp y.0 x.0) ≡ false → NextEmulator parts pairs context (Some x)
    pairs_before f = pairs_first x one (before_all 259 context es y two x (by (emulator_cmp y.0 x.0) refl f))
      where
        by : (r : Ordering) → emulator_cmp y.0 x.0 ≡ r → is_lt r ≡ false → Before x y
        by Less is f = cc
        by Equal is f =
            let no : 259 ≡ 258 = sym (code_next 259 context es y (parts_after 259 (Some y.0) es) two) ∙ ap (λ (k : PartKey). k.code) (emulator_exact y.0 x.0 is) ∙ code_next 258 pairs es x (parts_after 258 (Some x.0) es) one in absurd (omega (arith, no))
        by Greater is f = emulator_total.antisymm x.0 y.0 ∙ ap ordering_reverse is

  -- what is behind it
  module _ (e : Part) (h : NextEmulator parts pairs context (Some e)) where
    abbrev both_ways : Bool → List Part
    both_ways b = e ∷ cond b (emulators_after parts (Some e.0) context) (emulators_after parts pairs (Some e.0))

    pub behind_pairs : e.0.code ≡ 258 → emulators_after parts pairs context ≡ both_ways true
    behind_pairs is = h ∙ ap both_ways (eq-eqb e.0.code 258 is)

    pub behind_context : e.0.code ≢ 258 → emulators_after parts pairs context ≡ both_ways false
    behind_context other = h ∙ ap both_ways (ne_eqb e.0.code 258 other)

-- ---- all parts of emulators

-- no key stands twice
abbrev pub KeysDiffer : List Part → Type 0
KeysDiffer [] = ⊤
KeysDiffer (p ∷ ps) = (find part_cmp p.0 ps ≡ None) × KeysDiffer ps

not_behind : (q : PartKey) (ps : List Part) → T (below_all emulator_cmp q ps) → find part_cmp q ps ≡ None
not_behind q [] h = refl
not_behind q (p ∷ ps) h =
    let (below, others) = both_of (is_lt (emulator_cmp q p.0)) (below_all emulator_cmp q ps) h in
    ap (λ b. cond b (Some p.1) (find part_cmp q ps)) (sym (alike q p.0) ∙ ap is_eq (less _ (true_of _ below))) ∙ not_behind q ps others

sorted_differ : (ps : List Part) → T (is_sorted emulator_cmp ps) → KeysDiffer ps
sorted_differ [] h = tt
sorted_differ (p ∷ ps) h = let (below, others) = both_of (below_all emulator_cmp p.0 ps) (is_sorted emulator_cmp ps) h in (not_behind p.0 ps below, sorted_differ ps others)

pub find_join : (q : PartKey) (xs ys : List Part) → find part_cmp q (xs ++ ys) ≡ option_or (find part_cmp q xs) (find part_cmp q ys)
find_join q [] ys = refl
find_join q (x ∷ xs) ys = grind (arith, common_steps, find_join q xs ys)

-- a part of an emulator, which the guest has
pub record IsEmulatorPart (parts : PartMap) (p : Part) : Type 0 where
  pub there : maps.get parts p.0 ≡ Some p.1
  pub code : is_emulator_code p.0.code ≡ true

module _ (parts : PartMap) where
  abbrev entries : List Part
  entries = maps.entries parts

  of_code : (c : ℕ) (q : PartKey) → find part_cmp q (parts_of c entries) ≡ cond (q.code == c) (maps.get parts q) None
  of_code c q = find-where_key part_cmp (λ (k : PartKey). k.code == c) q (λ x e. ap (λ (k : PartKey). k.code == c) (sym (part_exact q x e))) entries ∙ ap (λ o. cond (q.code == c) o None) (sym (maps.get-entries parts q))

  pub order_is : emulators_in_order parts ≡ emulators_after parts None None
  unfolding emulators_in_order
  order_is = refl

  -- the parts that stand there are exactly those of emulators
  found : (q : PartKey) → find emulator_cmp q (emulators_in_order parts) ≡ cond (is_emulator_code q.code) (maps.get parts q) None
  found q =
      ap (find emulator_cmp q) order_is ∙ order_found (parts_of 258 entries ++ parts_of 259 entries) q ∙ find_join q (parts_of 258 entries) (parts_of 259 entries)
      ∙ (λ i. option_or (of_code 258 q i) (of_code 259 q i)) ∙ mixed (q.code == 258) (q.code == 259) (maps.get parts q)

  pub emulators_found : (q : PartKey) → find part_cmp q (emulators_in_order parts) ≡ cond (is_emulator_code q.code) (maps.get parts q) None
  emulators_found q = sym (find_alike q (emulators_in_order parts)) ∙ found q

  in_order_sorted : T (is_sorted emulator_cmp (emulators_in_order parts))
  in_order_sorted = subst (λ l. T (is_sorted emulator_cmp l)) (sym order_is) (sorted (parts_of 258 entries ++ parts_of 259 entries))

  -- and no key stands twice
  pub in_order_differ : KeysDiffer (emulators_in_order parts)
  in_order_differ = sorted_differ (emulators_in_order parts) in_order_sorted

  -- each is a part of the guest
  pub in_order_holds : All (IsEmulatorPart parts) (emulators_in_order parts)
  in_order_holds = all_found emulator_total emulator_exact (IsEmulatorPart parts) (emulators_in_order parts) in_order_sorted (λ q v is. by q v (is_emulator_code q.code) refl (sym (found q) ∙ is))
    where
      by : (q : PartKey) (v : List ℕ) (b : Bool) → is_emulator_code q.code ≡ b → cond b (maps.get parts q) None ≡ Some v → IsEmulatorPart parts (q, v)
      by q v true code is = record { there = is; code = code }
      by q v false code is = absurd (cc)

  -- a part that is met on the way
  pub met_holds : (done rest : List Part) (e : Part) → emulators_in_order parts ≡ done ++ (e ∷ rest) → IsEmulatorPart parts e
  met_holds done rest e is = by done (subst (All (IsEmulatorPart parts)) is in_order_holds)
    where
      by : (xs : List Part) → All (IsEmulatorPart parts) (xs ++ (e ∷ rest)) → IsEmulatorPart parts e
      by [] all = All-head (IsEmulatorPart parts) e rest all
      by (x ∷ xs) all = by xs (All-tail (IsEmulatorPart parts) x (xs ++ (e ∷ rest)) all)

-- maps that are alike at the keys of emulators have the same
pub order_alike : (m n : PartMap) → ((q : PartKey) → is_emulator_code q.code ≡ true → maps.get m q ≡ maps.get n q) → emulators_in_order m ≡ emulators_in_order n
order_alike m n same =
    let stores = same_parts 258 m n (λ q is. same q (ap is_emulator_code is)) in let contexts = same_parts 259 m n (λ q is. same q (ap is_emulator_code is)) in
    order_is m ∙ (λ i. in_emulator_order (stores i ++ contexts i)) ∙ sym (order_is n)

-- ---- what the order is in words

contained : (ps : List Part) (p : Part) → T (is_sorted emulator_cmp ps) → Contains ps p ↔ (find emulator_cmp p.0 ps ≡ Some p.1)
contained ps p h = (
  All-contains (λ p. find emulator_cmp p.0 ps ≡ Some p.1) ps p (all_found emulator_total emulator_exact (λ p. find emulator_cmp p.0 ps ≡ Some p.1) ps h (λ q v is. is)),
  λ is. found_holds (Contains ps) p.0 p.1 ps (All-contains_itself ps) (sym (find_alike p.0 ps) ∙ is),
)

said : (b : Bool) (o : Option (List ℕ)) (v : List ℕ) → (cond b o None ≡ Some v) ↔ ((o ≡ Some v) × (b ≡ true))
said true o v = (λ is. (is, refl), λ is. is.0)
said false o v = (λ is. absurd (cc), λ is. absurd (let no : false ≡ true = is.1 in cc))

same_option : (o r : Option (List ℕ)) → ((v : List ℕ) → (o ≡ Some v) ↔ (r ≡ Some v)) → o ≡ r
same_option None None same = refl
same_option None (Some v) same = (same v).1 refl
same_option (Some v) r same = sym ((same v).0 refl)

pub emulators_ascend : (parts : PartMap) (ps : List Part) → (ps ≡ emulators_in_order parts) ↔ AreEmulatorsInOrder parts ps
emulators_ascend parts ps = (
  (λ is. subst (AreEmulatorsInOrder parts) (sym is) record {
    each = λ p. let holds = contained (emulators_in_order parts) p (in_order_sorted parts) in let there = said (is_emulator_code p.0.code) (maps.get parts p.0) p.1 in
        (λ c. there.0 (sym (found parts p.0) ∙ holds.0 c), λ t. holds.1 (found parts p.0 ∙ there.1 t));
    ascend = in_order_sorted parts;
  }),
  (λ are. same_entries emulator_cmp emulator_total emulator_exact ps (emulators_in_order parts) are.ascend (in_order_sorted parts) (λ q.
      same_option _ _ (λ v. let holds = contained ps (q, v) are.ascend in let there = said (is_emulator_code q.code) (maps.get parts q) v in
      (λ is. found parts q ∙ there.1 ((are.each (q, v)).0 (holds.1 is)), λ is. holds.0 ((are.each (q, v)).1 (there.0 (sym (found parts q) ∙ is))))))),
)

-- ---- a guest that is well formed

module _ (g : GuestOf) (formed : IsFormed g) where
  -- an emulator's id is below 3, and its index below 256
  pub record IsSmall (p : Part) : Type 0 where
    pub id : p.0.key1 < 3
    pub index : p.0.key2 < 256
    pub least : 258 ≤ p.0.code
    pub most : p.0.code ≤ 259

  pub small : (p : Part) → IsEmulatorPart g.parts p → IsSmall p
  small p is = elim (or_cases (p.0.code == 258) (p.0.code == 259) is.code) [
    | inl a ↦ let code = eqb-true p.0.code 258 a in let one : IsOf EmulatorPairs (width_of g) p = of_part EmulatorPairs g.kind (width_of g) p (formed.parts p.0 p.1 is.there) code in
        let (x, y) = and_parts (nat_lt p.0.key1 3) (nat_lt p.0.key2 256) one.keys in record { id = ltb-true p.0.key1 3 x; index = ltb-true p.0.key2 256 y; least = omega (arith, code); most = omega (arith, code) }
    | inr b ↦ let code = eqb-true p.0.code 259 b in let one : IsOf EmulatorContext (width_of g) p = of_part EmulatorContext g.kind (width_of g) p (formed.parts p.0 p.1 is.there) code in
        let (x, y) = and_parts (nat_lt p.0.key1 3) (nat_lt p.0.key2 256) one.keys in record { id = ltb-true p.0.key1 3 x; index = ltb-true p.0.key2 256 y; least = omega (arith, code); most = omega (arith, code) }
  ]

  -- a number that rises from part to part, so that there are few
  abbrev place : Part → ℕ
  place p = 512 * p.0.key1 + 2 * p.0.key2 + p.0.code

  rises : (p q : Part) → IsSmall p → IsSmall q → is_lt (emulator_cmp p.0 q.0) ≡ true → place p < place q
  rises p q one two l = grind (arith, common_steps, one.index, one.most, two.index, two.least, l)

  few : (p : Part) (ps : List Part) → T (is_sorted emulator_cmp (p ∷ ps)) → All IsSmall (p ∷ ps) → place p + length (p ∷ ps) ≤ 1794
  few p [] h all = let s = All-head IsSmall p [] all in omega (arith, s.id, s.index, s.most)
  few p (q ∷ ps) h all =
      let (below, others) = both_of (below_all emulator_cmp p.0 (q ∷ ps)) (is_sorted emulator_cmp (q ∷ ps)) h in
      let up = (both_of (is_lt (emulator_cmp p.0 q.0)) (below_all emulator_cmp p.0 ps) below).0 in
      let rest = All-tail IsSmall p (q ∷ ps) all in
      omega (arith, rises p q (All-head IsSmall p (q ∷ ps) all) (All-head IsSmall q ps rest) (true_of _ up), few q ps others rest)

  pub few_emulators : length (emulators_in_order g.parts) ≤ 1794
  few_emulators = by (emulators_in_order g.parts) (in_order_sorted g.parts) (All-weaker (IsEmulatorPart g.parts) IsSmall small (emulators_in_order g.parts) (in_order_holds g.parts))
    where
      by : (ps : List Part) → T (is_sorted emulator_cmp ps) → All IsSmall ps → length ps ≤ 1794
      by [] h all = omega arith
      by (p ∷ ps) h all = omega (arith, few p ps h all)
