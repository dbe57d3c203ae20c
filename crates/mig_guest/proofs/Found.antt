-- The entries of a finite map: what holds of all that is found holds of all entries, and still where keys are set or taken away.
use Rattle.mig_guest.proofs.Common.{◌≡◌, Bool, true, false, cond, List, [], ◌∷◌, Option, Some, None, IfSome, filter, refl, sym, ap, subst, ◌∙◌, T, All, option_or, eq_by_cmp_equiv, All-nil, All-cons, All-head, filter_passes, IsTotalOrder, is_lt, is_eq, eq_by_cmp, Ordering, Less, FinMap, find, is_sorted, IsAntisymmetric, below_all, find-where_key, is_sorted-where_key}
use Rattle.std.specs.FinMap as maps
use Rattle.mig_guest.proofs.KeyedMaps.{tied, both}
use Rattle.mig_guest.proofs.PartCursor.{both_of, true_of, less}

module _ {K X : Type 0} {R : K → K → Ordering} (total : IsTotalOrder R) (exact : IsAntisymmetric R) where
  found_none : (q : K) (fs : List (K × X)) → T (below_all R q fs) → find R q fs ≡ None
  found_none q [] h = refl
  found_none q (f ∷ fs) h =
      let (first, others) = both_of (is_lt (R q f.0)) (below_all R q fs) h in
      ap (λ b. cond b (Some f.1) (find R q fs)) (ap is_eq (less _ (true_of _ first))) ∙ found_none q fs others

  -- behind an entry there is none of its key
  none_behind : (q : K) (f : K × X) (fs : List (K × X)) → eq_by_cmp R q f.0 ≡ true → T (below_all R f.0 fs) → find R q fs ≡ None
  none_behind q f fs is below = found_none q fs (subst (λ k. T (below_all R k fs)) (sym (exact q f.0 (tied (R q f.0) is))) below)

  module _ (P : K × X → Type 0) where
    -- what holds of all that is found holds of all entries
    pub all_found : (fs : List (K × X)) → T (is_sorted R fs) → ((q : K) (v : X) → find R q fs ≡ Some v → P (q, v)) → All P fs
    all_found [] h go = All-nil P
    all_found (f ∷ fs) h go =
        let (first, others) = both_of (below_all R f.0 fs) (is_sorted R fs) h in
        All-cons P f fs (go f.0 f.1 (ap (λ b. cond b (Some f.1) (find R f.0 fs)) ((eq_by_cmp_equiv total).refl f.0)))
        (all_found fs others (λ q v is. go q v (elim (eq_by_cmp R q f.0) as (λ b. eq_by_cmp R q f.0 ≡ b → cond b (Some f.1) (find R q fs) ≡ Some v) [
          | true ↦ λ t. let no = sym (none_behind q f fs t first) ∙ is in cc
          | false ↦ λ t. is
        ] refl)))

  pub found_first : (q : K) (f : K × X) (fs : List (K × X)) (o : Option X) (b : Bool) → eq_by_cmp R q f.0 ≡ b → T (below_all R f.0 fs) → option_or (find R q fs) (cond b (Some f.1) o) ≡ option_or (cond b (Some f.1) (find R q fs)) o
  found_first q f fs o true is below = ap (λ r. option_or r (Some f.1)) (none_behind q f fs is below)
  found_first q f fs o false is below = refl

  -- ---- the first entry that passes a test of the keys

  below_trans : (k x : K) (fs : List (K × X)) → R k x ≡ Less → T (below_all R x fs) → T (below_all R k fs)
  below_trans k x [] l h = tt
  below_trans k x (f ∷ fs) l h =
      let (first, others) = both_of (is_lt (R x f.0)) (below_all R x fs) h in
      both _ _ (subst (λ r. T (is_lt r)) (sym (total.trans k x f.0 l (less _ (true_of _ first)))) tt) (below_trans k x fs l others)

  module _ (m : FinMap R X) (p : K → Bool) where
    abbrev passing : List (K × X)
    passing = filter (λ e. p e.0) (maps.entries m)

    among : (k : K) → p k ≡ true → maps.get m k ≡ find R k passing
    among k is = maps.get-entries m k ∙ sym (find-where_key R p k (λ x e. ap p (sym (exact k x e))) (maps.entries m) ∙ ap (λ b. cond b (find R k (maps.entries m)) None) is)

    pub none_passes : passing ≡ [] → (k : K) → p k ≡ true → maps.get m k ≡ None
    none_passes none k is = among k is ∙ ap (find R k) none

    pub first_passes : (e : K × X) (rest : List (K × X)) → passing ≡ e ∷ rest → (p e.0 ≡ true) × (maps.get m e.0 ≡ Some e.1) × ((k : K) → p k ≡ true → R k e.0 ≡ Less → maps.get m k ≡ None)
    first_passes e rest h =
        let P : K × X → Type 0 = λ f. p f.0 ≡ true in
        let passes : p e.0 ≡ true = All-head P e rest (subst (All P) h (filter_passes (λ f. p f.0) (maps.entries m))) in
        let (below, _) = both_of (below_all R e.0 rest) (is_sorted R rest) (subst (λ es. T (is_sorted R es)) h (is_sorted-where_key R p (maps.entries m) (maps.entries_sorted m))) in (
          passes,
          among e.0 passes ∙ ap (find R e.0) h ∙ ap (λ b. cond b (Some e.1) (find R e.0 rest)) ((eq_by_cmp_equiv total).refl e.0),
          λ k is l. among k is ∙ ap (find R k) h ∙ found_none k (e ∷ rest) (both _ _ (subst (λ r. T (is_lt r)) (sym l) tt) (below_trans k e.0 rest l below)),
        )

  -- ---- maps that change

  module _ (P : K → X → Type 0) where
    abbrev pub Each : FinMap R X → Type 0
    Each m = (k : K) (v : X) → maps.get m k ≡ Some v → P k v

    -- n is what one key has from now on
    changed_holds : (m new : FinMap R X) (k : K) (n : Option X) → ((q : K) → maps.get new q ≡ cond (eq_by_cmp R q k) n (maps.get m q)) → Each m → IfSome n (P k) → Each new
    changed_holds m new k n is each holds q v got = elim (eq_by_cmp R q k) as (λ b. eq_by_cmp R q k ≡ b → cond b n (maps.get m q) ≡ Some v → P q v) [
      | true ↦ λ t at. subst (λ z. P z v) (sym (exact q k (tied _ t))) (subst (λ o. IfSome o (P k)) at holds)
      | false ↦ λ t at. each q v at
    ] refl (sym (is q) ∙ got)

    pub insert_holds : (m : FinMap R X) (k : K) (v : X) → Each m → P k v → Each (maps.insert m k v)
    insert_holds m k v each holds = changed_holds m (maps.insert m k v) k (Some v) (maps.get-insert total m k v) each holds

    pub remove_holds : (m : FinMap R X) (k : K) → Each m → Each (maps.remove m k)
    remove_holds m k each = changed_holds m (maps.remove m k) k None (maps.get-remove total m k) each tt

    pub kept_holds : (m : FinMap R X) (p : K → Bool) → Each m → Each (maps.retain_keys m p)
    kept_holds m p each q v got = each q v (elim (p q) as (λ b. cond b (maps.get m q) None ≡ Some v → maps.get m q ≡ Some v) [
      | true ↦ λ at. at
      | false ↦ λ at. let no : None ≡ Some v = at in cc
    ] (sym (maps.get-retain_keys m p q (λ x e. ap p (sym (exact q x e)))) ∙ got))
