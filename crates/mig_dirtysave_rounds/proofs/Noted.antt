-- What is noted of one number more.
use Rattle.mig_dirtysave_rounds.proofs.Common.{arith, ◌≡◌, ℕ, ◌<◌, List, length, get_or, Bool, true, false, cond, Option, None, refl, sym, ap, subst, ◌∙◌, ◌==◌, eqb-true, nat_tests, fun_ext, PageType, Pfns, pfns_of_words, IsBelow, put_pfn, Finding, is_deferred, type_found, Notes, notes_of, noted, ◌≢◌, slice_set}
use Rattle.std.proofs.lemmas.Grind.{common_steps}
use Rattle.mig_dirtysave_rounds.proofs.Parts.{put_below}

here : (types : List (Option PageType)) (p q : ℕ) (kind : Option PageType) → p < length types → q ≡ p → get_or (slice_set types p kind) q None ≡ kind
here types p q kind less is = grind (arith, common_steps)

there : (types : List (Option PageType)) (p q : ℕ) (kind : Option PageType) → q ≢ p → get_or (slice_set types p kind) q None ≡ get_or types q None
there types p q kind differ = grind (arith, common_steps)

apart : (p q : ℕ) → (q == p) ≡ false → q ≢ p
apart p q e is = grind (arith, nat_tests)

module _ (p : ℕ) (deferred new : List ℕ) (types : List (Option PageType)) (inside : Bool) (kind : Option PageType) (found : Finding) (less : p < length types) where
  type_at : kind ≡ type_found found → (q : ℕ) (b : Bool) → (q == p) ≡ b → get_or (slice_set types p kind) q None ≡ cond (q == p) (type_found found) (get_or types q None)
  type_at is q true e = here types p q kind less (eqb-true q p e) ∙ is ∙ sym (ap (λ b. cond b (type_found found) (get_or types q None)) e)
  type_at is q false e = there types p q kind (apart p q e) ∙ sym (ap (λ b. cond b (type_found found) (get_or types q None)) e)

  pub noted_now : pfns_of_words new ≡ put_pfn p inside (pfns_of_words deferred) → inside ≡ is_deferred found → kind ≡ type_found found → notes_of new (slice_set types p kind) ≡ noted p found (notes_of deferred types)
  noted_now put is type =
      ap (λ (d : Pfns). let notes : Notes = record { deferred = d; types = λ q. get_or (slice_set types p kind) q None } in notes) (put ∙ ap (λ b. put_pfn p b (pfns_of_words deferred)) is)
      ∙ ap (λ t. let notes : Notes = record { deferred = put_pfn p (is_deferred found) (pfns_of_words deferred); types = t } in notes) (fun_ext (λ q. type_at type q (q == p) refl))

pub noted_below : (width p : ℕ) (found : Finding) (notes later : Notes) → later ≡ noted p found notes → p < width → IsBelow width notes.deferred → IsBelow width later.deferred
noted_below width p found notes later is less below = subst (λ (n : Notes). IsBelow width n.deferred) (sym is) (put_below width p (is_deferred found) notes.deferred less below)
