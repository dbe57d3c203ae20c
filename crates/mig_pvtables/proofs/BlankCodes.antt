-- The parts of a code, one after another.
use Rattle.mig_pvtables.proofs.Common.{◌≡◌, ℕ, ◌<◌, Bool, true, false, cond, not, List, [], ◌∷◌, length, Option, Some, None, IfSome, refl, sym, ap, subst, ◌∙◌, arith, ◌&&◌, ◌==◌, option_map, Ordering, eqb-true, eq-eqb, length-map, PartKey, GuestOf, part_cmp, Part, PartMap, parts_after, first_passes, kept_shown, part_total, part_exact, each_value, only, blanked_code, is_lt, ordering_reverse, and_parts, and_from, none_passes, shown, is_reached, blanked_up_to}
use Rattle.std.proofs.Common.{filter}
use Rattle.std.specs.declared.cmp.Ordering.TheVariants.{Less, Equal, Greater}
use Rattle.mig_guest.proofs.PartCursor.{kept_both, less, not_itself}
use Rattle.mig_pvtables.proofs.EachValue.{get_each, entries_each, each_same, same_each}
use Rattle.mig_pvtables.proofs.Only.{then_only}
use Rattle.mig_pvtables.proofs.BlankParts.{WithParts, OnlyPart}
use Rattle.std.specs.FinMap as maps

-- ---- the order of the keys

pub is_above : Option PartKey → PartKey → Bool
is_above None key = true
is_above (Some after) key = is_lt (part_cmp after key)

reached_is : (after : Option PartKey) (key : PartKey) → is_reached after key ≡ not (is_above after key)
unfolding is_above
reached_is None key = refl
reached_is (Some after) key = refl

above_up : (after : Option PartKey) (x y : PartKey) → is_above after x ≡ true → is_lt (part_cmp x y) ≡ true → is_above after y ≡ true
unfolding is_above
above_up None x y up l = refl
above_up (Some after) x y up l = ap is_lt (part_total.trans after x y (less _ up) (less _ l))

-- one of two keys that aren't the same is below the other
other_below : (q key : PartKey) → (q ≡ key → ⊥) → (part_cmp q key ≡ Less → ⊥) → is_lt (part_cmp key q) ≡ true
other_below q key ne not_less = by_case (part_cmp q key) refl
  where
    by_case : (r : Ordering) → part_cmp q key ≡ r → is_lt (part_cmp key q) ≡ true
    by_case Less e = absurd (not_less e)
    by_case Equal e = absurd (ne (part_exact q key e))
    by_case Greater e = ap is_lt (part_total.antisymm key q ∙ ap ordering_reverse e)

-- ---- the parts of a code behind a key, by one test

module _ (code : ℕ) where
  pub is_next : Option PartKey → PartKey → Bool
  is_next after key = (key.code == code) && is_above after key

  pub by_test : {X : Type 0} (after : Option PartKey) (es : List (PartKey × X)) → parts_after code after es ≡ filter (λ e. is_next after e.0) es
  unfolding is_next is_above
  by_test None es = sym (true_too es)
    where
      true_too : {X : Type 0} (es : List (PartKey × X)) → filter (λ e. (e.0.code == code) && true) es ≡ filter (λ e. e.0.code == code) es
      true_too [] = refl
      true_too (e ∷ es) = elim (e.0.code == code) as (λ b. cond (b && true) (e ∷ filter (λ e. (e.0.code == code) && true) es) (filter (λ e. (e.0.code == code) && true) es) ≡ cond b (e ∷ filter (λ e. e.0.code == code) es) (filter (λ e. e.0.code == code) es)) [
        | true ↦ ap (λ l. e ∷ l) (true_too es)
        | false ↦ true_too es
      ]
  by_test (Some k) es = kept_both (λ e. is_lt (part_cmp k e.0)) (λ e. e.0.code == code) es

  pub next_parts : (after : Option PartKey) (key : PartKey) → is_next after key ≡ true → (key.code ≡ code) × (is_above after key ≡ true)
  unfolding is_next
  next_parts after key is = let (a, b) = and_parts (key.code == code) (is_above after key) is in (eqb-true key.code code a, b)

  next_from : (after : Option PartKey) (key : PartKey) → (key.code == code) ≡ true → is_above after key ≡ true → is_next after key ≡ true
  unfolding is_next
  next_from after key a b = and_from (key.code == code) (is_above after key) a b

off : (b : Bool) (x y : List ℕ) → cond (b && false) x y ≡ y
off true x y = refl
off false x y = refl

module _ (code : ℕ) (f : PartKey → List ℕ → List ℕ) (m : PartMap) where
  none_reached : each_value (blanked_up_to code f None) m ≡ m
  none_reached = each_same part_total part_exact (blanked_up_to code f None) m (λ q x is. off (q.code == code) (f q x) x)

  module _ (after : Option PartKey) where
    abbrev now : PartMap
    now = each_value (blanked_up_to code f after) m

    -- there are as many parts as before
    same_count : (k : Option PartKey) → length (parts_after code k (maps.entries now)) ≡ length (parts_after code k (maps.entries m))
    same_count k =
        let es = maps.entries m in let F = blanked_up_to code f after in
        ap length (by_test code k (maps.entries now) ∙ ap (filter (λ e. is_next code k e.0)) (entries_each part_total part_exact F m) ∙ kept_shown part_total part_exact F (is_next code k) es)
        ∙ length-map (filter (λ e. is_next code k e.0) es) (shown F) ∙ ap length (sym (by_test code k es))

    there : (q : PartKey) (x : List ℕ) → maps.get m q ≡ Some x → maps.get now q ≡ None → ⊥
    there q x is none = let no : None ≡ Some (blanked_up_to code f after q x) = sym none ∙ get_each part_total part_exact (blanked_up_to code f after) m q ∙ ap (option_map (blanked_up_to code f after q)) is in cc

    all_reached : parts_after code after (maps.entries now) ≡ [] → now ≡ each_value (blanked_code code f) m
    all_reached none = same_each part_total part_exact (blanked_up_to code f after) (blanked_code code f) m (λ q x is.
        by_code q x (q.code == code) refl (is_above after q) refl
        (λ t. there q x is (none_passes part_total part_exact now (is_next code after) (sym (by_test code after (maps.entries now)) ∙ none) q t)))
      where
        by_code : (q : PartKey) (x : List ℕ) (b : Bool) → (q.code == code) ≡ b → (u : Bool) → is_above after q ≡ u → (is_next code after q ≡ true → ⊥) → cond (b && is_reached after q) (f q x) x ≡ cond b (f q x) x
        by_code q x false e u a never = refl
        by_code q x true e true a never = absurd (never (next_from code after q e a))
        by_code q x true e false a never = ap (λ r. cond r (f q x) x) (reached_is after q ∙ ap not a)

    module _ (e : Part) (next : parts_after code after (maps.entries now) ≡ e ∷ parts_after code (Some e.0) (maps.entries now)) where
      found : (is_next code after e.0 ≡ true) × (maps.get now e.0 ≡ Some e.1) × ((k : PartKey) → is_next code after k ≡ true → part_cmp k e.0 ≡ Less → maps.get now k ≡ None)
      found = first_passes part_total part_exact now (is_next code after) e (parts_after code (Some e.0) (maps.entries now)) (sym (by_test code after (maps.entries now)) ∙ next)

      next_code : e.0.code ≡ code
      next_code = (next_parts code after e.0 found.0).0

      fewer : length (parts_after code (Some e.0) (maps.entries m)) < length (parts_after code after (maps.entries m))
      fewer = omega (arith, same_count after, same_count (Some e.0), ap length next)

      -- another key of the code is reached as before
      as_before : (q : PartKey) (x : List ℕ) → maps.get m q ≡ Some x → (q ≡ e.0 → ⊥) → (q.code == code) ≡ true → is_reached after q ≡ is_reached (Some e.0) q
      as_before q x is ne coded = reached_is after q ∙ ap not (by_case (is_above after q) refl)
        where
          by_case : (b : Bool) → is_above after q ≡ b → b ≡ is_lt (part_cmp e.0 q)
          by_case true up = sym (other_below q e.0 ne (λ l. there q x is (found.2 q (next_from code after q coded up) l)))
          by_case false down = by_order (is_lt (part_cmp e.0 q)) refl
            where
              by_order : (b : Bool) → is_lt (part_cmp e.0 q) ≡ b → false ≡ b
              by_order false l = refl
              by_order true l = sym down ∙ above_up after e.0 q (next_parts code after e.0 found.0).1 l

      fresh : is_reached after e.0 ≡ false
      fresh = reached_is after e.0 ∙ ap not (next_parts code after e.0 found.0).1

      -- the part itself is as it was
      not_yet : (x : List ℕ) → blanked_up_to code f after e.0 x ≡ x
      not_yet x = ap (λ r. cond ((e.0.code == code) && r) (f e.0 x) x) fresh ∙ off (e.0.code == code) (f e.0 x) x

      next_reached : each_value (only part_cmp e.0 (f e.0)) now ≡ each_value (blanked_up_to code f (Some e.0)) m
      next_reached = then_only part_total part_exact m e.0 (f e.0) (blanked_up_to code f after) (blanked_up_to code f (Some e.0)) here (λ q x is ne. by_code q x is ne (q.code == code) refl)
        where
          here : (x : List ℕ) → f e.0 (blanked_up_to code f after e.0 x) ≡ blanked_up_to code f (Some e.0) e.0 x
          here x =
              let coded : (e.0.code == code) ≡ true = eq-eqb e.0.code code next_code in
              ap (f e.0) (not_yet x) ∙ sym (λ i. cond (coded i && not (not_itself part_total e.0 i)) (f e.0 x) x)

          by_code : (q : PartKey) (x : List ℕ) → maps.get m q ≡ Some x → (q ≡ e.0 → ⊥) → (b : Bool) → (q.code == code) ≡ b → cond (b && is_reached after q) (f q x) x ≡ cond (b && is_reached (Some e.0) q) (f q x) x
          by_code q x is ne false coded = refl
          by_code q x is ne true coded = ap (λ r. cond r (f q x) x) (as_before q x is ne coded)

-- ---- of a guest

-- on the way from g the parts of a code that aren't above a key are changed
pub record ChangedUpTo (code : ℕ) (f : PartKey → List ℕ → List ℕ) (g : GuestOf) (after : Option PartKey) (now : GuestOf) : Type 0 where
  pub coded : IfSome after (λ k. k.code ≡ code)
  pub done : now ≡ WithParts g (each_value (blanked_up_to code f after) g.parts)

module _ {code : ℕ} {f : PartKey → List ℕ → List ℕ} {g : GuestOf} where
  pub code_start : ChangedUpTo code f g None g
  code_start = record { coded = tt; done = ap (WithParts g) (sym (none_reached code f g.parts)) }

  module _ {after : Option PartKey} {now : GuestOf} (is : ChangedUpTo code f g after now) where
    abbrev there_now : PartMap
    there_now = each_value (blanked_up_to code f after) g.parts

    pub code_end : parts_after code after (maps.entries now.parts) ≡ [] → now ≡ WithParts g (each_value (blanked_code code f) g.parts)
    code_end none = is.done ∙ ap (WithParts g) (all_reached code f g.parts after (ap (λ (s : GuestOf). parts_after code after (maps.entries s.parts)) (sym is.done) ∙ none))

    module _ {e : Part} (next : parts_after code after (maps.entries now.parts) ≡ e ∷ parts_after code (Some e.0) (maps.entries now.parts)) where
      next_now : parts_after code after (maps.entries there_now) ≡ e ∷ parts_after code (Some e.0) (maps.entries there_now)
      next_now = subst (λ (s : GuestOf). parts_after code after (maps.entries s.parts) ≡ e ∷ parts_after code (Some e.0) (maps.entries s.parts)) is.done next

      pub code_next : {new : GuestOf} → new ≡ OnlyPart (f e.0) now e.0 → ChangedUpTo code f g (Some e.0) new
      code_next one = record {
        coded = next_code code f g.parts after e next_now;
        done = one ∙ ap (λ (s : GuestOf). OnlyPart (f e.0) s e.0) is.done ∙ ap (WithParts g) (next_reached code f g.parts after e next_now);
      }

      pub code_fewer : length (parts_after code (Some e.0) (maps.entries g.parts)) < length (parts_after code after (maps.entries g.parts))
      code_fewer = fewer code f g.parts after e next_now

      -- a length that all parts of the code have
      pub code_size : (n : ℕ) → ((key : PartKey) (x : List ℕ) → maps.get g.parts key ≡ Some x → key.code ≡ code → length x ≡ n) → IfSome (maps.get now.parts e.0) (λ x. length x ≡ n)
      code_size n long =
          subst (λ o. IfSome o (λ x. length x ≡ n)) (sym (ap (λ (s : GuestOf). maps.get s.parts e.0) is.done ∙ get_each part_total part_exact (blanked_up_to code f after) g.parts e.0))
          (elim (maps.get g.parts e.0) as (λ o. maps.get g.parts e.0 ≡ o → IfSome (option_map (blanked_up_to code f after e.0) o) (λ x. length x ≡ n)) [
            | None ↦ λ none. tt
            | Some x ↦ λ has. ap length (not_yet code f g.parts after e next_now x) ∙ long e.0 x has (next_code code f g.parts after e next_now)
          ] refl)

      -- the same, where they keep it
      pub code_long : (n : ℕ) → ((key : PartKey) (x : List ℕ) → length (f key x) ≡ n) → ((key : PartKey) (x : List ℕ) → maps.get g.parts key ≡ Some x → key.code ≡ code → length x ≡ n) → IfSome (maps.get now.parts e.0) (λ x. length x ≡ n)
      code_long n keeps long = code_size n long
