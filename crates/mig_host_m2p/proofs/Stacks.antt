-- The stack of free cells, of which one is taken, or on which one is put.
use Rattle.mig_host_m2p.proofs.Common.{◌≡◌, ◌≢◌, ◌⊎◌, ℕ, ◌+◌, ◌-◌, ◌<◌, ◌≤◌, false, List, length, slice_index, set, sym, ap, subst, ◌∙◌, inl, inr, arith, cases_lt, Cell, AreFree, get_or-set_same, get_or-set_other}

module _ (at now : ℕ → Cell) (free : List ℕ) (spare most : ℕ) (a : AreFree at free spare most) where
  pub taken : 1 ≤ spare → ((q : ℕ) → q ≢ slice_index free (spare - 1) → (now q).used ≡ (at q).used) → AreFree now free (spare - 1) most
  taken some same = record {
    some = λ i lt. a.some i (omega (arith, lt));
    there = λ i lt. a.there i (omega (arith, lt));
    unused = λ i lt. same (slice_index free i) (λ e. omega (arith, a.different i (spare - 1) (omega (arith, lt)) (omega (arith, some)) e, lt)) ∙ a.unused i (omega (arith, lt));
    different = λ i j lt_i lt_j e. a.different i j (omega (arith, lt_i)) (omega (arith, lt_j)) e;
  }

  module _ (l : ℕ) (some : 0 < l) (there : l < most) (gone : (now l).used ≡ false) (same : (q : ℕ) → q ≢ l → (now q).used ≡ (at q).used) (others : (i : ℕ) → i < spare → slice_index free i ≢ l) (within : spare < length free) where
    abbrev more : List ℕ
    more = set free spare l

    top : slice_index more spare ≡ l
    top = get_or-set_same free spare l 0 within

    below : (i : ℕ) → i < spare → slice_index more i ≡ slice_index free i
    below i lt = get_or-set_other free spare i l 0 (λ e. omega (arith, e, lt))

    each : (P : ℕ → Type 0) → P l → ((i : ℕ) → i < spare → P (slice_index free i)) → (i : ℕ) → i < spare + 1 → P (slice_index more i)
    each P here low i lt = by (cases_lt i spare)
      where
        by : (i < spare) ⊎ (spare ≤ i) → P (slice_index more i)
        by (inl l) = subst P (sym (below i l)) (low i l)
        by (inr g) = let e : spare ≡ i = omega (arith, lt, g) in subst P (sym (ap (slice_index more) (sym e) ∙ top)) here

    pub put_back : AreFree now more (spare + 1) most
    put_back = record {
      some = each (λ q. 0 < q) some a.some;
      there = each (λ q. q < most) there a.there;
      unused = each (λ q. (now q).used ≡ false) gone (λ i lt. same (slice_index free i) (others i lt) ∙ a.unused i lt);
      different = differ;
    }
      where
        differ : (i j : ℕ) → i < spare + 1 → j < spare + 1 → slice_index more i ≡ slice_index more j → i ≡ j
        differ i j lt_i lt_j e = by (cases_lt i spare) (cases_lt j spare)
          where
            by : (i < spare) ⊎ (spare ≤ i) → (j < spare) ⊎ (spare ≤ j) → i ≡ j
            by (inl x) (inl y) = a.different i j x y (sym (below i x) ∙ e ∙ below j y)
            by (inl x) (inr y) = let f : j ≡ spare = omega (arith, lt_j, y) in absurd (others i x (sym (below i x) ∙ e ∙ ap (slice_index more) f ∙ top))
            by (inr x) (inl y) = let f : i ≡ spare = omega (arith, lt_i, x) in absurd (others j y (sym (below j y) ∙ sym e ∙ ap (slice_index more) f ∙ top))
            by (inr x) (inr y) = omega (arith, lt_i, lt_j, x, y)

pub same_free : (at now : ℕ → Cell) (free now_free : List ℕ) (spare most now_most : ℕ) → AreFree at free spare most → most ≤ now_most → ((q : ℕ) → 0 < q → (now q).used ≡ (at q).used) → ((i : ℕ) → i < spare → slice_index now_free i ≡ slice_index free i) → AreFree now now_free spare now_most
same_free at now free now_free spare most now_most a le same still = record {
  some = λ i lt. subst (λ k. 0 < k) (sym (still i lt)) (a.some i lt);
  there = λ i lt. omega (arith, still i lt, a.there i lt, le);
  unused = λ i lt. ap (λ k. (now k).used) (still i lt) ∙ same (slice_index free i) (a.some i lt) ∙ a.unused i lt;
  different = λ i j lt_i lt_j e. a.different i j lt_i lt_j (sym (still i lt_i) ∙ e ∙ still j lt_j);
}
