-- What the cells of a tree have, as a map, and how it changes with the tree.
use Rattle.mig_host_m2p.proofs.Common.{◌≡◌, ◌≢◌, ◌⊎◌, ℕ, zero, suc, ◌<◌, ◌≤◌, Bool, true, false, Option, Some, None, refl, sym, ap, subst, ◌∙◌, inl, inr, arith, cases_eq, cases_lt, Cell, IsGrown, ValueMap, with_cell, collected, if◌then◌else◌, nat_cmp, get-empty, same_map, nat_cmp-IsAntisymmetric}
use Rattle.std.specs.Cmp.{nat_cmp_total}
use Rattle.std.specs.FinMap as maps
use Rattle.std.proofs.lemmas.Option.{none-some, same_Some}
use Rattle.mig_bytes.proofs.NumberMaps.{inserted, inserted_other, is_inserted, is_removed}
use Rattle.mig_host_m2p.proofs.Grown.{not_both, IsLike, Hung, Lifted}

pub record HasFrame (at : ℕ → Cell) (machine pfn : ℕ) : Type 0 where
  pub cell : ℕ
  pub some : 0 < cell
  pub used : (at cell).used ≡ true
  pub machine_is : (at cell).machine ≡ machine
  pub pfn_is : (at cell).pfn ≡ pfn

-- a map has what the cells have, and nothing else
pub record IsMapOf (at : ℕ → Cell) (m : ValueMap) : Type 0 where
  pub there : (i : ℕ) → 0 < i → (at i).used ≡ true → maps.get m (at i).machine ≡ Some (at i).pfn
  pub back : (q v : ℕ) → maps.get m q ≡ Some v → HasFrame at q v

with_used : (c : Cell) (m : ValueMap) → c.used ≡ true → with_cell c m ≡ maps.insert m c.machine c.pfn
with_used c m used = ap (λ b. if b then (maps.insert m c.machine c.pfn) else m) used

with_free : (c : Cell) (m : ValueMap) → c.used ≡ false → with_cell c m ≡ m
with_free c m free = ap (λ b. if b then (maps.insert m c.machine c.pfn) else m) free

module _ (at : ℕ → Cell) where
  back_used : (n q v : ℕ) (m : ValueMap) → (maps.get m q ≡ Some v → HasFrame at q v) → (at (suc n)).used ≡ true → maps.get (with_cell (at (suc n)) m) q ≡ Some v → (q ≡ (at (suc n)).machine) ⊎ (q ≢ (at (suc n)).machine) → HasFrame at q v
  back_used n q v m before used is (inl e) =
      let c = at (suc n) in
      let put : Some c.pfn ≡ Some v = sym (inserted m c.machine q c.pfn e) ∙ sym (ap (λ x. maps.get x q) (with_used c m used)) ∙ is in
      record { cell = suc n; some = omega arith; used = used; machine_is = sym e; pfn_is = same_Some c.pfn v put }
  back_used n q v m before used is (inr ne) =
      let c = at (suc n) in before (sym (inserted_other m c.machine q c.pfn ne) ∙ sym (ap (λ x. maps.get x q) (with_used c m used)) ∙ is)

  back_step : (n q v : ℕ) (m : ValueMap) → (maps.get m q ≡ Some v → HasFrame at q v) → maps.get (with_cell (at (suc n)) m) q ≡ Some v → (b : Bool) → (at (suc n)).used ≡ b → HasFrame at q v
  back_step n q v m before is true used = back_used n q v m before used is (cases_eq q (at (suc n)).machine)
  back_step n q v m before is false free = before (sym (ap (λ x. maps.get x q) (with_free (at (suc n)) m free)) ∙ is)

  collected_back : (n q v : ℕ) → maps.get (collected at n) q ≡ Some v → HasFrame at q v
  unfolding collected
  collected_back zero q v is = absurd (none-some v (sym (get-empty nat_cmp q) ∙ is))
  collected_back (suc n) q v is = back_step n q v (collected at n) (collected_back n q v) is (at (suc n)).used refl

  module _ (g : IsGrown at) where
    there_past : (n i : ℕ) (m : ValueMap) → (at i).used ≡ true → i ≢ suc n → maps.get m (at i).machine ≡ Some (at i).pfn → (b : Bool) → (at (suc n)).used ≡ b → maps.get (with_cell (at (suc n)) m) (at i).machine ≡ Some (at i).pfn
    there_past n i m used ne before true both =
        let c = at (suc n) in
        ap (λ x. maps.get x (at i).machine) (with_used c m both) ∙ inserted_other m c.machine (at i).machine c.pfn (λ e. ne (g.sole i (suc n) used both e)) ∙ before
    there_past n i m used ne before false free = ap (λ x. maps.get x (at i).machine) (with_free (at (suc n)) m free) ∙ before

    there_here : (n i : ℕ) (m : ValueMap) → (at i).used ≡ true → i ≡ suc n → maps.get (with_cell (at (suc n)) m) (at i).machine ≡ Some (at i).pfn
    there_here n i m used e =
        let c = at (suc n) in
        ap (λ x. maps.get x (at i).machine) (with_used c m (subst (λ k. (at k).used ≡ true) e used)) ∙ inserted m c.machine (at i).machine c.pfn (ap (λ k. (at k).machine) e) ∙ ap (λ k. Some (at k).pfn) (sym e)

    collected_there : (n i : ℕ) → 0 < i → i ≤ n → (at i).used ≡ true → maps.get (collected at n) (at i).machine ≡ Some (at i).pfn
    unfolding collected
    collected_there zero i some le used = absurd (omega (arith, some, le))
    collected_there (suc n) i some le used = elim (cases_eq i (suc n)) [
      | inl e ↦ there_here n i (collected at n) used e
      | inr ne ↦ there_past n i (collected at n) used ne (collected_there n i some (omega (arith, le, ne)) used) (at (suc n)).used refl
    ]

    pub map_of : (n : ℕ) → ((i : ℕ) → n ≤ i → (at i).used ≡ false) → IsMapOf at (collected at n)
    map_of n free = record {
      there = λ i some used. elim (cases_lt i n) [
        | inl lt ↦ collected_there n i some (omega (arith, lt)) used
        | inr le ↦ absurd (not_both (at i).used (free i le) used)
      ];
      back = collected_back n;
    }

-- ---- changes

same_at : (m k : ValueMap) (q : ℕ) → ((v : ℕ) → maps.get m q ≡ Some v → maps.get k q ≡ Some v) → ((v : ℕ) → maps.get k q ≡ Some v → maps.get m q ≡ Some v) → maps.get m q ≡ maps.get k q
same_at m k q to from = by (maps.get m q) refl (maps.get k q) refl
  where
    by : (x : Option ℕ) → maps.get m q ≡ x → (y : Option ℕ) → maps.get k q ≡ y → maps.get m q ≡ maps.get k q
    by (Some v) e y f = e ∙ sym (to v e)
    by None e (Some w) f = from w f ∙ sym f
    by None e None f = e ∙ sym f

pub none_at : (m : ValueMap) (q : ℕ) → ((v : ℕ) → maps.get m q ≡ Some v → ⊥) → maps.get m q ≡ None
none_at m q non = by (maps.get m q) refl
  where
    by : (x : Option ℕ) → maps.get m q ≡ x → maps.get m q ≡ None
    by None e = e
    by (Some v) e = absurd (non v e)

module _ (at now : ℕ → Cell) (m k : ValueMap) (of : IsMapOf at m) (to : IsMapOf now k) where
  -- a frame of one map that a cell of the other has
  in_old : (i q v : ℕ) → 0 < i → (at i).used ≡ true → (at i).machine ≡ q → (at i).pfn ≡ v → maps.get m q ≡ Some v
  in_old i q v some used e f = ap (maps.get m) (sym e) ∙ of.there i some used ∙ ap Some f

  in_new : (i q v : ℕ) → 0 < i → (now i).used ≡ true → (now i).machine ≡ q → (now i).pfn ≡ v → maps.get k q ≡ Some v
  in_new i q v some used e f = ap (maps.get k) (sym e) ∙ to.there i some used ∙ ap Some f

  -- the root alone is another
  pub map_same : ((q : ℕ) → 0 < q → now q ≡ at q) → k ≡ m
  map_same same = same_map nat_cmp_total nat_cmp-IsAntisymmetric k m (λ q. same_at k m q
      (λ v is. let f : HasFrame now q v = to.back q v is in let e : now f.cell ≡ at f.cell = same f.cell f.some in
      in_old f.cell q v f.some (ap (λ (c : Cell). c.used) (sym e) ∙ f.used) (ap (λ (c : Cell). c.machine) (sym e) ∙ f.machine_is) (ap (λ (c : Cell). c.pfn) (sym e) ∙ f.pfn_is))
      (λ v is. let f : HasFrame at q v = of.back q v is in let e : now f.cell ≡ at f.cell = same f.cell f.some in
      in_new f.cell q v f.some (ap (λ (c : Cell). c.used) e ∙ f.used) (ap (λ (c : Cell). c.machine) e ∙ f.machine_is) (ap (λ (c : Cell). c.pfn) e ∙ f.pfn_is)))

  -- the PFN of one cell is another
  pub map_changed : (i pfn : ℕ) → 0 < i → (at i).used ≡ true → ((q : ℕ) → IsLike (at q) (now q)) → (now i).pfn ≡ pfn → ((q : ℕ) → q ≢ i → (now q).pfn ≡ (at q).pfn) → k ≡ maps.insert m (at i).machine pfn
  map_changed i pfn some used like here others = is_inserted k m (at i).machine pfn
      (in_new i (at i).machine pfn some ((like i).used ∙ used) (like i).machine here)
      (λ q ne. same_at k m q
      (λ v is. let f : HasFrame now q v = to.back q v is in let c = f.cell in
      let non : c ≢ i = λ e. ne (sym f.machine_is ∙ (like c).machine ∙ ap (λ x. (at x).machine) e) in
      in_old c q v f.some (sym (like c).used ∙ f.used) (sym (like c).machine ∙ f.machine_is) (sym (others c non) ∙ f.pfn_is))
      (λ v is. let f : HasFrame at q v = of.back q v is in let c = f.cell in
      let non : c ≢ i = λ e. ne (sym f.machine_is ∙ ap (λ x. (at x).machine) e) in
      in_new c q v f.some ((like c).used ∙ f.used) ((like c).machine ∙ f.machine_is) (others c non ∙ f.pfn_is)))

  pub map_hung : (p n machine pfn : ℕ) → Hung at now p n machine pfn → 0 < n → (at n).used ≡ false → k ≡ maps.insert m machine pfn
  map_hung p n machine pfn h some free = is_inserted k m machine pfn
      (in_new n machine pfn some (ap (λ (c : Cell). c.used) h.here) (ap (λ (c : Cell). c.machine) h.here) (ap (λ (c : Cell). c.pfn) h.here))
      (λ q ne. same_at k m q
      (λ v is. let f : HasFrame now q v = to.back q v is in let c = f.cell in
      let non : c ≢ n = λ e. ne (sym f.machine_is ∙ ap (λ x. (now x).machine) e ∙ ap (λ (x : Cell). x.machine) h.here) in
      in_old c q v f.some (sym (h.used c non) ∙ f.used) (sym (h.machines c non) ∙ f.machine_is) (sym (h.pfns c non) ∙ f.pfn_is))
      (λ v is. let f : HasFrame at q v = of.back q v is in let c = f.cell in
      let non : c ≢ n = λ e. not_both (at n).used free (subst (λ x. (at x).used ≡ true) e f.used) in
      in_new c q v f.some (h.used c non ∙ f.used) (h.machines c non ∙ f.machine_is) (h.pfns c non ∙ f.pfn_is)))

  module _ (g : IsGrown at) (i l : ℕ) (h : Lifted at now i l) (some_i : 0 < i) (used_i : (at i).used ≡ true) (some : 0 < l) (used_l : (at l).used ≡ true) where
    left_l : (c : ℕ) → (now c).used ≡ true → c ≢ l
    left_l c used e = not_both (now l).used h.gone (subst (λ x. (now x).used ≡ true) e used)

    none_left : (v : ℕ) → maps.get k (at i).machine ≡ Some v → ⊥
    none_left v is = by (cases_eq f.cell i)
      where
        f : HasFrame now (at i).machine v
        f = to.back (at i).machine v is

        by : (f.cell ≡ i) ⊎ (f.cell ≢ i) → ⊥
        by (inl e) =
            let non : i ≢ l = λ x. left_l f.cell f.used (e ∙ x) in
            non (g.sole i l used_i used_l (sym f.machine_is ∙ ap (λ x. (now x).machine) e ∙ h.machine non))
        by (inr ne) =
            let non = left_l f.cell f.used in
            ne (g.sole f.cell i (sym (h.used f.cell non) ∙ f.used) used_i (sym (h.machines f.cell non ne) ∙ f.machine_is))

    old_of_new : (q v : ℕ) → HasFrame now q v → maps.get m q ≡ Some v
    old_of_new q v f = by (cases_eq f.cell i)
      where
        by : (f.cell ≡ i) ⊎ (f.cell ≢ i) → maps.get m q ≡ Some v
        by (inl e) =
            let non : i ≢ l = λ x. left_l f.cell f.used (e ∙ x) in
            in_old l q v some used_l (sym (h.machine non) ∙ ap (λ x. (now x).machine) (sym e) ∙ f.machine_is) (sym (h.pfn non) ∙ ap (λ x. (now x).pfn) (sym e) ∙ f.pfn_is)
        by (inr ne) =
            let non = left_l f.cell f.used in
            in_old f.cell q v f.some (sym (h.used f.cell non) ∙ f.used) (sym (h.machines f.cell non ne) ∙ f.machine_is) (sym (h.pfns f.cell non ne) ∙ f.pfn_is)

    new_of_old : (q v : ℕ) → q ≢ (at i).machine → HasFrame at q v → maps.get k q ≡ Some v
    new_of_old q v other f = by (cases_eq f.cell l)
      where
        no_i : f.cell ≢ i
        no_i e = other (sym f.machine_is ∙ ap (λ x. (at x).machine) e)

        by : (f.cell ≡ l) ⊎ (f.cell ≢ l) → maps.get k q ≡ Some v
        by (inl e) =
            let non : i ≢ l = λ x. no_i (e ∙ sym x) in
            in_new i q v some_i (h.used i non ∙ used_i) (h.machine non ∙ ap (λ x. (at x).machine) (sym e) ∙ f.machine_is) (h.pfn non ∙ ap (λ x. (at x).pfn) (sym e) ∙ f.pfn_is)
        by (inr ne) = in_new f.cell q v f.some (h.used f.cell ne ∙ f.used) (h.machines f.cell ne no_i ∙ f.machine_is) (h.pfns f.cell ne no_i ∙ f.pfn_is)

    pub map_lifted : k ≡ maps.remove m (at i).machine
    map_lifted = is_removed k m (at i).machine (none_at k (at i).machine none_left)
        (λ q ne. same_at k m q (λ v is. old_of_new q v (to.back q v is)) (λ v is. new_of_old q v ne (of.back q v is)))
