-- Codes of which a guest has one record at most, which sets all parts of the code.
use Rattle.mig_canon.proofs.Common.{list_all, AllByRecursion, GuestOf, IsFormed, parts_at, ◌≡◌, ℕ, ◌≤◌, Bool, true, false, List, [], ◌∷◌, length, map, not, refl, sym, ap, subst, ◌∙◌, arith, T, fold, if◌then◌else◌, is_sorted, PartCode, PartKey, Part, PartMap, part_cmp, code_number, is_policy, put_parts, replace_code, IsShaped, SayAll, bodies_by_shape, contents_by_shape, part_body, set_parts, shape_of, and_parts, canonical_bodies_say, below_all, is_lt, both_of, part_total, not-true, Shape, Table, Single, Named, Chain, Other, IsBody, sole_key, not_itself}
use Rattle.mig_canon.proofs.CanonMaps.{parts_in_order}

-- a test of it: the code's one part, or all parts in a table, are a record's
abbrev pub is_record_of_all : Shape → ℕ → Bool
is_record_of_all (Table l) number = true
is_record_of_all (Named second ignored skips) number = false
is_record_of_all Other number = false
is_record_of_all shape number = not (is_policy number)

no_parts : (code : PartCode) (m : PartMap) → set_parts code m [] ≡ m
no_parts code m = same (is_policy (code_number code))
  where
    same : (b : Bool) → (if b then m else m) ≡ m
    same true = refl
    same false = refl

puts : (code : PartCode) → not (is_policy (code_number code)) ≡ true → (m : PartMap) (ps : List Part) → set_parts code m ps ≡ put_parts m ps
puts code plain m ps = ap (λ b. if b then replace_code (code_number code) m ps else put_parts m ps) (not-true _ plain)

each_at_once : (code : PartCode) → not (is_policy (code_number code)) ≡ true → (ps : List Part) (m : PartMap) → fold (set_parts code) m (map (λ p. p ∷ []) ps) ≡ set_parts code m ps
each_at_once code plain [] m = sym (no_parts code m)
each_at_once code plain (p ∷ ps) m =
    each_at_once code plain ps (set_parts code m (p ∷ [])) ∙ puts code plain (set_parts code m (p ∷ [])) ps ∙ ap (λ n. put_parts n ps) (puts code plain m (p ∷ [])) ∙ sym (puts code plain m (p ∷ ps))

-- bodies that say the same key are one at most
one_each : (code : PartCode) (body : Part → List ℕ) → ((text : List ℕ) (p : Part) → IsBody code text (p ∷ []) → p.0 ≡ sole_key code) → (ps : List Part) → T (is_sorted part_cmp ps)
    → SayAll code (map body ps) (map (λ p. p ∷ []) ps) → length (map body ps) ≤ 1
one_each code body key [] order say = omega arith
one_each code body key (p ∷ []) order say = omega arith
one_each code body key (p ∷ q ∷ ps) order say =
    let first = (both_of (is_lt (part_cmp p.0 q.0)) (below_all part_cmp p.0 ps) (both_of (below_all part_cmp p.0 (q ∷ ps)) (is_sorted part_cmp (q ∷ ps)) order).0).0 in
    let same = key (body p) p say.0.says ∙ sym (key (body q) q say.1.0.says) in
    absurd (subst T (ap (λ k. is_lt (part_cmp p.0 k)) (sym same) ∙ not_itself part_total p.0) first)

first_key : (p : Part) (k : PartKey) (bytes : List ℕ) → p ∷ [] ≡ (k, bytes) ∷ [] → p.0 ≡ k
first_key p k bytes is = let e : p ≡ (k, bytes) = cc in ap (λ (r : Part). r.0) e

pub record AtOnce (code : PartCode) (shape : Shape) (ps : List Part) : Type 0 where
  pub one : length (bodies_by_shape shape ps) ≤ 1
  pub all : (m : PartMap) → fold (set_parts code) m (contents_by_shape shape ps) ≡ set_parts code m ps

at_once : (code : PartCode) (shape : Shape) (ps : List Part) → shape_of code ≡ shape → is_record_of_all shape (code_number code) ≡ true → T (is_sorted part_cmp ps) → SayAll code (bodies_by_shape shape ps) (contents_by_shape shape ps) → AtOnce code shape ps
at_once code (Table l) [] is fine order say = record { one = omega arith; all = λ m. sym (no_parts code m) }
at_once code (Table l) (p ∷ ps) is fine order say = record { one = omega arith; all = λ m. refl }
at_once code (Single len ignored) ps is fine order say = record {
  one = one_each code (part_body (Single len ignored)) (λ text p this. let single = subst (λ s. IsShaped s code text (p ∷ [])) is this in first_key p _ _ single.says) ps order say;
  all = each_at_once code fine ps;
}
at_once code Chain ps is fine order say = record {
  one = one_each code (part_body Chain) (λ text p this. let chain = subst (λ s. IsShaped s code text (p ∷ [])) is this in first_key p _ _ chain.says) ps order say;
  all = each_at_once code fine ps;
}
at_once code (Named second ignored skips) ps is fine order say = absurd (cc)
at_once code Other ps is fine order say = absurd (cc)

-- ---- several codes

module _ (g : GuestOf) (formed : IsFormed g) where
  pub all_at_once : (codes : List PartCode) → list_all (λ code. is_record_of_all (shape_of code) (code_number code)) codes ≡ true → AllByRecursion (λ code. AtOnce code (shape_of code) (parts_at code g)) codes
  all_at_once [] fine = tt
  all_at_once (code ∷ codes) fine =
      let both = and_parts (is_record_of_all (shape_of code) (code_number code)) (list_all (λ c. is_record_of_all (shape_of c) (code_number c)) codes) fine in
      (at_once code (shape_of code) (parts_at code g) refl both.0 (parts_in_order g.parts (code_number code)) (canonical_bodies_say code g formed), all_at_once codes both.1)
