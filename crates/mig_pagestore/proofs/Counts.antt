-- How many cells have a page of zeros, as cells change.
use Rattle.mig_pagestore.proofs.Common.{◌≡◌, ◌≢◌, ℕ, ◌+◌, ◌-◌, ◌<◌, ◌≤◌, Bool, true, false, cond, refl, sym, ap, ◌∙◌, inl, inr, arith, nat_cmp, get-empty, cases_eq, ValueMap, nat_cmp_total, is_zeros, zeros_in, mark_or_0, mark_of_page, CountsZeros}
use Rattle.std.specs.FinMap as maps
use Rattle.std.specs.FinSet as sets
use Rattle.mig_pagestore.proofs.Marks.{small_not_zeros}
use Rattle.mig_pagestore_index.proofs.Gathered.{ties, differs}

some_in : (s : sets.FinSet nat_cmp) (k : ℕ) → sets.contains s k ≡ true → 0 < sets.len s
some_in s k there = elim (cases_eq (sets.len s) 0) [
  | inl e ↦
      let no : false ≡ true = sym (ap (λ (t : sets.FinSet nat_cmp). sets.contains t k) (sets.empty_of_len s e) ∙ sets.contains-empty nat_cmp k) ∙ there in
      absurd (cc)
  | inr ne ↦ omega (arith, ne)
]

len_in : (a : Bool) (l n : ℕ) → l ≡ n → (a ≡ true → 0 < l) → cond a l (l + 1) ≡ n - cond a 1 0 + 1
len_in true l n e some = omega (arith, e, some refl)
len_in false l n e some = omega (arith, e)

len_out : (a : Bool) (l n : ℕ) → l ≡ n → cond a (l - 1) l ≡ n - cond a 1 0 + 0
len_out true l n e = omega (arith, e)
len_out false l n e = omega (arith, e)

most_in : (a : Bool) (n : ℕ) → (a ≡ true → 0 < n) → cond a 1 0 ≤ n
most_in true n some = omega (arith, some refl)
most_in false n some = omega arith

pub counts_none : (cells : ValueMap) → cells ≡ maps.empty → CountsZeros cells 0
counts_none cells none = record {
  pfns = sets.empty;
  same = λ q. sets.contains-empty nat_cmp q ∙ sym (ap (λ (m : ValueMap). is_zeros (mark_of_page m q)) none ∙ ap (λ o. is_zeros (mark_or_0 o)) (get-empty nat_cmp q) ∙ small_not_zeros 0 (omega arith));
  many = sets.len-empty nat_cmp;
}

module _ (cells : ValueMap) (n : ℕ) (count : CountsZeros cells n) where
  pub counts_most : (k : ℕ) → zeros_in (mark_of_page cells k) ≤ n
  counts_most k = most_in (is_zeros (mark_of_page cells k)) n (λ e. omega (arith, some_in count.pfns k (count.same k ∙ e), count.many))

  pub counts_some : (k : ℕ) → is_zeros (mark_of_page cells k) ≡ true → 0 < n
  counts_some k e = omega (arith, some_in count.pfns k (count.same k ∙ e), count.many)

  -- the cell of k changes
  module _ (new : ValueMap) (k : ℕ) (others : (q : ℕ) → q ≢ k → maps.get new q ≡ maps.get cells q) where
    elsewhere : (q : ℕ) → q ≢ k → sets.contains count.pfns q ≡ is_zeros (mark_of_page new q)
    elsewhere q ne = count.same q ∙ ap (λ o. is_zeros (mark_or_0 o)) (sym (others q ne))

    pub count_kept : is_zeros (mark_of_page new k) ≡ is_zeros (mark_of_page cells k) → CountsZeros new n
    count_kept same = record {
      pfns = count.pfns;
      same = λ q. elim (cases_eq q k) [
        | inl e ↦ count.same q ∙ ap (λ j. is_zeros (mark_of_page cells j)) e ∙ sym same ∙ ap (λ j. is_zeros (mark_of_page new j)) (sym e)
        | inr ne ↦ elsewhere q ne
      ];
      many = count.many;
    }

    was : sets.contains count.pfns k ≡ is_zeros (mark_of_page cells k)
    was = count.same k

    counted_in : is_zeros (mark_of_page new k) ≡ true → CountsZeros new (n - zeros_in (mark_of_page cells k) + 1)
    counted_in is = record {
      pfns = sets.insert count.pfns k;
      same = λ q. sets.contains-insert nat_cmp_total count.pfns k q ∙ elim (cases_eq q k) [
        | inl e ↦ rw (ties q k e) (sym (ap (λ j. is_zeros (mark_of_page new j)) e ∙ is))
        | inr ne ↦ rw (differs q k ne) (elsewhere q ne)
      ];
      many = sets.len-insert nat_cmp_total count.pfns k ∙ len_in (sets.contains count.pfns k) (sets.len count.pfns) n count.many (some_in count.pfns k) ∙ ap (λ b. n - cond b 1 0 + 1) was;
    }

    counted_out : is_zeros (mark_of_page new k) ≡ false → CountsZeros new (n - zeros_in (mark_of_page cells k) + 0)
    counted_out isnt = record {
      pfns = sets.remove count.pfns k;
      same = λ q. sets.contains-remove nat_cmp_total count.pfns k q ∙ elim (cases_eq q k) [
        | inl e ↦ rw (ties q k e) (sym (ap (λ j. is_zeros (mark_of_page new j)) e ∙ isnt))
        | inr ne ↦ rw (differs q k ne) (elsewhere q ne)
      ];
      many = sets.len-remove nat_cmp_total count.pfns k ∙ len_out (sets.contains count.pfns k) (sets.len count.pfns) n count.many ∙ ap (λ b. n - cond b 1 0 + 0) was;
    }

    by_zeros : (b : Bool) → is_zeros (mark_of_page new k) ≡ b → CountsZeros new (n - zeros_in (mark_of_page cells k) + cond b 1 0)
    by_zeros true e = counted_in e
    by_zeros false e = counted_out e

    pub recounted : CountsZeros new (n - zeros_in (mark_of_page cells k) + zeros_in (mark_of_page new k))
    recounted = by_zeros (is_zeros (mark_of_page new k)) refl
