-- Entries one behind the other, each as it may stand behind those before it: they are read as they are spelled, what is
-- read is spelled, and they are the entries of the map that they make.
use Rattle.mig_image.proofs.Common.{◌≡◌, ℕ, zero, suc, ◌+◌, false, List, [], ◌∷◌, ◌++◌, length, refl, sym, ap, subst, ◌∙◌, append_assoc, append-nil, T, flat_map, IsTotalOrder, Ordering, FinMap, is_sorted, Judged, placed, Passes, both_pass, same_passes, placed_passes, then_passes, Bytes, bytes_back, has_from, entries_behind, front_below, no_entries}
use Rattle.std.specs.FinMap as maps
use Rattle.mig_bytes.specs.Judged.{steps}
use Rattle.mig_image.proofs.FieldBytes.{regroup}

module _ {K X : Type 0} {R : K → K → Ordering} where
  abbrev pub put_all : FinMap R X → List (K × X) → FinMap R X
  put_all m [] = m
  put_all m (e ∷ es) = put_all (maps.insert m e.0 e.1) es

  -- each of the entries may stand behind those before it
  abbrev pub Chain : (FinMap R X → K × X → Type 0) → FinMap R X → List (K × X) → Type 0
  Chain Fits m [] = Unit {0}
  Chain Fits m (e ∷ es) = Fits m e × Chain Fits (maps.insert m e.0 e.1) es

module _ {K X H P C : Type 0} {R : K → K → Ordering} (Fits : FinMap R X → K × X → Type 0) (text : K × X → List ℕ) (place : ℕ → P) (one : H → List ℕ → Judged C H) (put : FinMap R X → H) where
  abbrev step : ℕ → H → List ℕ → Judged (P × C) H
  step i h input = placed (place i) (one h input)

  -- they are read
  pub chain_goes : ((m : FinMap R X) (e : K × X) (rest : List ℕ) → Fits m e → one (put m) (text e ++ rest) ≡ Passes (put (maps.insert m e.0 e.1)) rest)
      → (m : FinMap R X) (es : List (K × X)) (k : ℕ) (rest : List ℕ) → Chain Fits m es → steps step (length es) k (put m) (flat_map text es ++ rest) ≡ Passes (put (put_all m es)) rest
  unfolding steps
  chain_goes go m [] k rest chain = refl
  chain_goes go m (e ∷ es) k rest chain =
      let more = flat_map text es ++ rest in
      let n = maps.insert m e.0 e.1 in
      ap (steps step (suc (length es)) k (put m)) (append_assoc (text e) (flat_map text es) rest)
      ∙ then_passes (placed (place k) (one (put m) (text e ++ more))) (λ y. steps step (length es) (k + 1) y.0 y.1) (put n) more _
      (ap (placed (place k)) (go m e more chain.0)) (chain_goes go n es (k + 1) rest chain.1)

  -- an entry that was read
  pub record Found (m : FinMap R X) (i : List ℕ) (h : H) (rest : List ℕ) : Type 0 where
    pub e : K × X
    pub whole : i ≡ text e ++ rest
    pub fits : Fits m e
    pub is : h ≡ put (maps.insert m e.0 e.1)

  pub record AllFound (m : FinMap R X) (n : ℕ) (i : List ℕ) (h : H) (rest : List ℕ) : Type 0 where
    pub es : List (K × X)
    pub size : length es ≡ n
    pub whole : i ≡ flat_map text es ++ rest
    pub chain : Chain Fits m es
    pub is : h ≡ put (put_all m es)

  pub chain_back : ((m : FinMap R X) (i : List ℕ) (h : H) (rest : List ℕ) → Bytes i → one (put m) i ≡ Passes h rest → Found m i h rest)
      → (m : FinMap R X) (n k : ℕ) (i : List ℕ) (h : H) (rest : List ℕ) → Bytes i → steps step n k (put m) i ≡ Passes h rest → AllFound m n i h rest
  unfolding steps
  chain_back back m zero k i h rest all is =
      let e = same_passes (put m) h i rest is in
      record { es = []; size = refl; whole = e.1; chain = tt; is = sym e.0 }
  chain_back back m (suc n) k i h rest all is =
      let a = both_pass (step k (put m) i) (λ y. steps step n (k + 1) y.0 y.1) h rest is in
      let f = back m i a.x a.mid all (placed_passes (place k) (one (put m) i) a.x a.mid a.first) in
      let more = chain_back back (maps.insert m f.e.0 f.e.1) n (k + 1) a.mid h rest (bytes_back i (text f.e) a.mid f.whole all) (subst (λ y. steps step n (k + 1) y a.mid ≡ Passes h rest) f.is a.second) in
      record {
        es = f.e ∷ more.es;
        size = ap suc more.size;
        whole = regroup i a.mid rest (text f.e) (flat_map text more.es) f.whole more.whole;
        chain = (f.fits, more.chain);
        is = more.is;
      }

module _ {K X : Type 0} {R : K → K → Ordering} (total : IsTotalOrder R) (Fits : FinMap R X → K × X → Type 0) where
  -- what each that fits keeps, all keep
  pub chain_keeps : (P : FinMap R X → Type 0) → ((m : FinMap R X) (e : K × X) → Fits m e → P m → P (maps.insert m e.0 e.1)) → (m : FinMap R X) (es : List (K × X)) → Chain Fits m es → P m → P (put_all m es)
  chain_keeps P keep m [] chain holds = holds
  chain_keeps P keep m (e ∷ es) chain holds = chain_keeps P keep (maps.insert m e.0 e.1) es chain.1 (keep m e chain.0 holds)

  module _ (behind : (m : FinMap R X) (e : K × X) → Fits m e → has_from total (maps.entries m) e.0 ≡ false) where
    entries_from : (m : FinMap R X) (es : List (K × X)) → Chain Fits m es → maps.entries (put_all m es) ≡ maps.entries m ++ es
    entries_from m [] chain = sym (append-nil (maps.entries m))
    entries_from m (e ∷ es) chain =
        entries_from (maps.insert m e.0 e.1) es chain.1 ∙ ap (λ l. l ++ es) (entries_behind total m e.0 e.1 (behind m e chain.0)) ∙ append_assoc (maps.entries m) (e ∷ []) es

    -- they are the entries of the map that they make
    pub chain_entries : (es : List (K × X)) → Chain Fits maps.empty es → maps.entries (put_all (maps.empty {X = X} {R = R}) es) ≡ es
    chain_entries es chain = entries_from maps.empty es chain ∙ ap (λ l. l ++ es) (no_entries R X)

    module _ (g : FinMap R X) (fits : (m : FinMap R X) (e : K × X) (more : List (K × X)) → maps.entries g ≡ maps.entries m ++ e ∷ more → has_from total (maps.entries m) e.0 ≡ false → Fits m e) where
      chain_from : (m : FinMap R X) (es : List (K × X)) → maps.entries g ≡ maps.entries m ++ es → Chain Fits m es
      chain_from m [] is = tt
      chain_from m (e ∷ es) is =
          let below = front_below total (maps.entries m) e es (subst (λ l. T (is_sorted R l)) is (maps.entries_sorted g)) in
          (fits m e es is below, chain_from (maps.insert m e.0 e.1) es (is ∙ sym (append_assoc (maps.entries m) (e ∷ []) es) ∙ ap (λ l. l ++ es) (sym (entries_behind total m e.0 e.1 below))))

      -- the entries of a map are such
      pub chain_of : Chain Fits maps.empty (maps.entries g)
      chain_of = chain_from maps.empty (maps.entries g) (ap (λ l. l ++ maps.entries g) (sym (no_entries R X)))

      pub chain_same : put_all maps.empty (maps.entries g) ≡ g
      chain_same = maps.same_entries_map _ _ (chain_entries (maps.entries g) chain_of)
