-- Maps of which one value is changed, by its key.
use Rattle.mig_pvtables.proofs.Common.{◌≡◌, Bool, true, false, cond, Option, Some, None, refl, sym, ap, subst, ◌∙◌, Ordering, eq_by_cmp, FinMap, IsAntisymmetric, same_map, get-insert, option_map, IsTotalOrder, tied, each_value, only}
use Rattle.std.proofs.lemmas.Cmp.{eq_by_cmp_equiv}
use Rattle.mig_pvtables.proofs.EachValue.{get_each, each_each, each_same, same_each}
use Rattle.std.specs.FinMap as maps

module _ {K : Type 0} {R : K → K → Ordering} (o : IsTotalOrder R) (exact : IsAntisymmetric R) where
  pub alike : (k : K) → eq_by_cmp R k k ≡ true
  alike k = (eq_by_cmp_equiv o).refl k

  -- what is to be shown of a key: of the one that changes, and of all others
  pub by_key : (P : Bool → Type 0) (q k : K) → (q ≡ k → P true) → (eq_by_cmp R q k ≡ false → P false) → P (eq_by_cmp R q k)
  by_key P q k same other = elim (eq_by_cmp R q k) as (λ b. eq_by_cmp R q k ≡ b → P b) [ true ↦ λ t. same (exact q k (tied _ t)) | false ↦ λ t. other t ] refl

  module _ {X : Type 0} (m : FinMap R X) (k : K) where
    itself : (r : Option X) → r ≡ option_map (λ (x : X). x) r
    itself None = refl
    itself (Some x) = refl

    -- a value that is there set to its changed form
    pub insert_only : (f : X → X) (x : X) → maps.get m k ≡ Some x → maps.insert m k (f x) ≡ each_value (only R k f) m
    insert_only f x has = same_map o exact _ _ (λ q.
        get-insert o m k (f x) q
        ∙ by_key (λ b. cond b (Some (f x)) (maps.get m q) ≡ option_map (λ (y : X). cond b (f y) y) (maps.get m q)) q k
        (λ e. sym (ap (option_map f) (ap (maps.get m) e ∙ has))) (λ _. itself (maps.get m q))
        ∙ sym (get_each o exact (only R k f) m q))

    pub only_stays : (f : X → X) → ((x : X) → maps.get m k ≡ Some x → f x ≡ x) → m ≡ each_value (only R k f) m
    only_stays f stays = sym (each_same o exact (only R k f) m (λ q x is. by_key (λ b. cond b (f x) x ≡ x) q k (λ e. stays x (ap (maps.get m) (sym e) ∙ is)) (λ _. refl)))

    pub only_alike : (f g : X → X) → ((x : X) → maps.get m k ≡ Some x → f x ≡ g x) → each_value (only R k f) m ≡ each_value (only R k g) m
    only_alike f g same = same_each o exact (only R k f) (only R k g) m (λ q x is. by_key (λ b. cond b (f x) x ≡ cond b (g x) x) q k (λ e. same x (ap (maps.get m) (sym e) ∙ is)) (λ _. refl))

    -- one more value changed
    pub then_only : (f : X → X) (F G : K → X → X) → ((x : X) → f (F k x) ≡ G k x) → ((q : K) (x : X) → maps.get m q ≡ Some x → (q ≡ k → ⊥) → F q x ≡ G q x) → each_value (only R k f) (each_value F m) ≡ each_value G m
    then_only f F G here others = each_each o exact (only R k f) F m ∙ same_each o exact (λ q x. only R k f q (F q x)) G m (λ q x is.
        by_key (λ b. cond b (f (F q x)) (F q x) ≡ G q x) q k (λ e. subst (λ q. f (F q x) ≡ G q x) (sym e) (here x))
        (λ unequal. others q x is (λ e. let no : true ≡ false = sym (ap (λ q. eq_by_cmp R q k) e ∙ alike k) ∙ unequal in cc)))
