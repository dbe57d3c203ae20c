-- Contexts that are judged and renamed one after another.
use Rattle.mig_dirtysave.proofs.Common.{◌≡◌, ℕ, List, [], ◌∷◌, map, Bool, true, false, cond, Option, Some, None, refl, sym, ap, subst, ◌∙◌, ◌==◌, IfSome, find, option_map, option_or, PartKey, part_cmp, Part, PartMap, parts_after, part_exact, part_total, each_value, only, first_some, field_numbers, in_fields, filter, is_lt, eq_by_cmp, parts_of, entries_each, context_there}
use Rattle.mig_guest.proofs.KeyedMaps.{shown, tied, kept_shown}
use Rattle.mig_guest.proofs.PartCursor.{not_itself}
use Rattle.std.specs.FinMap as maps

-- ---- contexts one after another

-- parts that stand behind a key aren't that part
untouched : (key : PartKey) (F : PartKey → List ℕ → List ℕ) (es : List Part) → ((q : PartKey) (x : List ℕ) → is_lt (part_cmp key q) ≡ true → F q x ≡ x)
    → filter (λ e. is_lt (part_cmp key e.0)) (map (shown F) es) ≡ filter (λ e. is_lt (part_cmp key e.0)) es
untouched key F [] stays = refl
untouched key F (e ∷ es) stays = elim (is_lt (part_cmp key e.0)) as (λ b. is_lt (part_cmp key e.0) ≡ b → cond b (shown F e ∷ filter (λ e. is_lt (part_cmp key e.0)) (map (shown F) es)) (filter (λ e. is_lt (part_cmp key e.0)) (map (shown F) es))
    ≡ cond b (e ∷ filter (λ e. is_lt (part_cmp key e.0)) es) (filter (λ e. is_lt (part_cmp key e.0)) es)) [
      | true ↦ λ t i. (e.0, stays e.0 e.1 t i) ∷ untouched key F es stays i
      | false ↦ λ t. untouched key F es stays
    ] refl

pub behind_stays : (parts : PartMap) (key : PartKey) (h : List ℕ → List ℕ) → parts_after 4 (Some key) (maps.entries (each_value (only part_cmp key h) parts)) ≡ parts_after 4 (Some key) (maps.entries parts)
behind_stays parts key h =
    let F : PartKey → List ℕ → List ℕ = only part_cmp key h in
    ap (parts_after 4 (Some key)) (entries_each part_total part_exact F parts)
    ∙ ap (filter (λ e. is_lt (part_cmp key e.0))) (kept_shown part_total part_exact F (λ k. k.code == 4) (maps.entries parts))
    ∙ untouched key F (parts_of 4 (maps.entries parts)) (λ q x less. by_case q x less (eq_by_cmp part_cmp q key) refl)
  where
    by_case : (q : PartKey) (x : List ℕ) → is_lt (part_cmp key q) ≡ true → (b : Bool) → eq_by_cmp part_cmp q key ≡ b → cond b (h x) x ≡ x
    by_case q x less false e = refl
    by_case q x less true e =
        let same : q ≡ key = part_exact q key (tied _ e) in
        let no : true ≡ false = sym less ∙ ap (λ k. is_lt (part_cmp key k)) same ∙ not_itself part_total key in cc

-- what the first context gives, all give
pub next_found : {C : Type 0} (f : Part → Option C) {now rest : List Part} {e : Part} {answer : Option C} (c : C) → now ≡ e ∷ rest → first_some f now ≡ answer → f e ≡ Some c → Some c ≡ answer
next_found f {rest = rest} c is so here = ap (λ o. option_or o (first_some f rest)) (sym here) ∙ ap (first_some f) (sym is) ∙ so

-- where it gives nothing, those behind it give what all give
pub next_fine : {C : Type 0} (f : Part → Option C) {now rest : List Part} {e : Part} {answer : Option C} → now ≡ e ∷ rest → first_some f now ≡ answer → f e ≡ None → first_some f rest ≡ answer
next_fine f {rest = rest} is so nothing = ap (λ o. option_or o (first_some f rest)) (sym nothing) ∙ ap (first_some f) (sym is) ∙ so

-- what is found in the context that stands next
module _ (bad : ℕ → List ℕ → ℕ → Bool) (parts : PartMap) (after : Option PartKey) (e : Part) (next : parts_after 4 after (maps.entries parts) ≡ e ∷ parts_after 4 (Some e.0) (maps.entries parts)) where
  pub found_in_next : (found : Option ℕ) → IfSome (maps.get parts e.0) (λ context. found ≡ find (bad e.0.key1 context) field_numbers) → in_fields bad e ≡ option_map (λ (field : ℕ). (e.0.key1, field)) found
  found_in_next found is = ap (option_map (λ (field : ℕ). (e.0.key1, field))) (sym (subst (λ o. IfSome o (λ context. found ≡ find (bad e.0.key1 context) field_numbers)) (context_there parts after e next).1 is))
