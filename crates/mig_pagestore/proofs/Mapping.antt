-- What a map whose values are read otherwise finds.
use Rattle.mig_pagestore.proofs.Common.{◌≡◌, ℕ, suc, true, false, cond, ◌&&◌, T, List, [], ◌∷◌, length, map, Some, refl, sym, ap, ◌∙◌, subst, nat_cmp, eq_by_cmp, is_lt, option_map, FinMap, nat_cmp-IsAntisymmetric, same_map, find, is_sorted, get-entries, get-from_entries, get-from_sorted, entries-from_sorted, entries_sorted, len-entries, get-empty, is_inserted, inserted, inserted_other, is_removed, removed, removed_other, nat_cmp_total}
use Rattle.std.specs.FinMap as maps
use Rattle.std.specs.FinMap.Entries.{below_all}
use Rattle.mig_pagestore.specs.Mapped.{mapped}

module _ {X Y : Type 0} (g : X → Y) where
  abbrev read : List (ℕ × X) → List (ℕ × Y)
  read = map (λ e. (e.0, g e.1))

  find_read : (q : ℕ) (es : List (ℕ × X)) → find nat_cmp q (read es) ≡ option_map g (find nat_cmp q es)
  find_read q [] = refl
  find_read q (e ∷ es) = elim (eq_by_cmp nat_cmp q e.0) as (λ b. cond b (Some (g e.1)) (find nat_cmp q (read es)) ≡ option_map g (cond b (Some e.1) (find nat_cmp q es))) [ true ↦ refl | false ↦ find_read q es ]

  below_read : (k : ℕ) (es : List (ℕ × X)) → below_all nat_cmp k (read es) ≡ below_all nat_cmp k es
  below_read k [] = refl
  below_read k (e ∷ es) = ap (λ b. is_lt (nat_cmp k e.0) && b) (below_read k es)

  sorted_read : (es : List (ℕ × X)) → is_sorted nat_cmp (read es) ≡ is_sorted nat_cmp es
  sorted_read [] = refl
  sorted_read (e ∷ es) = (λ i. below_read e.0 es i && sorted_read es i)

  length_read : (es : List (ℕ × X)) → length (read es) ≡ length es
  length_read [] = refl
  length_read (e ∷ es) = ap (λ n. suc n) (length_read es)

  pub get-mapped : (m : FinMap nat_cmp X) (q : ℕ) → maps.get (mapped g m) q ≡ option_map g (maps.get m q)
  unfolding mapped
  get-mapped m q = get-from_entries nat_cmp_total (read (maps.entries m)) q ∙ find_read q (maps.entries m) ∙ ap (option_map g) (sym (get-entries m q))

  pub len-mapped : (m : FinMap nat_cmp X) → maps.len (mapped g m) ≡ maps.len m
  unfolding mapped
  len-mapped m =
      let es = maps.entries m in
      let sorted : T (is_sorted nat_cmp (read es)) = subst T (sym (sorted_read es)) (entries_sorted m) in
      ap maps.len (same_map nat_cmp_total nat_cmp-IsAntisymmetric (maps.from_entries (read es)) (maps.from_sorted (read es)) (λ q. get-from_entries nat_cmp_total (read es) q ∙ sym (get-from_sorted nat_cmp (read es) q sorted)))
      ∙ len-entries (maps.from_sorted (read es)) ∙ ap length (entries-from_sorted nat_cmp (read es) sorted) ∙ length_read es ∙ sym (len-entries m)

  pub mapped-empty : mapped g maps.empty ≡ maps.empty
  mapped-empty = same_map nat_cmp_total nat_cmp-IsAntisymmetric _ _ (λ q. get-mapped maps.empty q ∙ ap (option_map g) (get-empty nat_cmp q) ∙ sym (get-empty nat_cmp q))

  pub mapped-insert : (m : FinMap nat_cmp X) (k : ℕ) (v : X) → mapped g (maps.insert m k v) ≡ maps.insert (mapped g m) k (g v)
  mapped-insert m k v = is_inserted _ _ k (g v) (get-mapped (maps.insert m k v) k ∙ ap (option_map g) (inserted m k k v refl))
      (λ q ne. get-mapped (maps.insert m k v) q ∙ ap (option_map g) (inserted_other m k q v ne) ∙ sym (get-mapped m q))

  pub mapped-remove : (m : FinMap nat_cmp X) (k : ℕ) → mapped g (maps.remove m k) ≡ maps.remove (mapped g m) k
  mapped-remove m k = is_removed _ _ k (get-mapped (maps.remove m k) k ∙ ap (option_map g) (removed m k k refl))
      (λ q ne. get-mapped (maps.remove m k) q ∙ ap (option_map g) (removed_other m k q ne) ∙ sym (get-mapped m q))
