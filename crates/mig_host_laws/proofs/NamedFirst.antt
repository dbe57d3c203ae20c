-- What a search along a list names is the first of what stands in the list; for causes of any type.
use Rattle.mig_host_laws.proofs.Common.{◌⊎◌, false≢true, IsTotalOrder, IsAntisymmetric, eq_by_cmp, is_lt, Ordering, Less, tied, less, IsNamedBefore, NamesFirst, All-head, All-tail, FinMap, both_of, true_of}
use Rattle.std.proofs.Common.{◌≡◌, inl, inr, ℕ, zero, suc, ◌+◌, ◌<◌, ◌≤◌, List, [], ◌∷◌, Bool, true, false, cond, Option, Some, None, refl, sym, ap, subst, ◌∙◌, ◌↔◌, arith}
use Rattle.std.proofs.lemmas.Bool.{cases_eq}
use Rattle.std.specs.Prelude.{find, T}
use Rattle.std.specs.List.{All, range_with_len}
use Rattle.std.specs.Option.{option_map, option_or}
use Rattle.std.specs.FinMap.Entries.{is_sorted, below_all}
use Rattle.mig_guest.proofs.Found.{all_found}
use Rattle.mig_pvtables.specs.Faults.{first_some}
use Rattle.std.specs.FinMap as maps

-- what a search finds first, told by a function: the first that is told
pub found_first : {A C : Type 0} (p : A → Bool) (g : A → C) (xs : List A) → option_map g (find p xs) ≡ first_some (λ x. cond (p x) (Some (g x)) None) xs
found_first p g [] = refl
found_first p g (x ∷ xs) = elim (p x) as (λ b. option_map g (cond b (Some x) (find p xs)) ≡ option_or (cond b (Some (g x)) None) (first_some (λ x. cond (p x) (Some (g x)) None) xs)) [ true ↦ refl | false ↦ found_first p g xs ]

pub told_first : {A B C : Type 0} (g : B → C) (f : A → Option B) (xs : List A) → option_map g (first_some f xs) ≡ first_some (λ x. option_map g (f x)) xs
told_first g f [] = refl
told_first g f (x ∷ xs) = elim (f x) as (λ o. option_map g (option_or o (first_some f xs)) ≡ option_or (option_map g o) (first_some (λ x. option_map g (f x)) xs)) [ None ↦ told_first g f xs | Some b ↦ refl ]

pub told_twice : {A B C : Type 0} (g : B → C) (f : A → B) (o : Option A) → option_map g (option_map f o) ≡ option_map (λ a. g (f a)) o
told_twice g f None = refl
told_twice g f (Some a) = refl

module _ {C : Type 0} (number : C → ℕ) where
  abbrev Before : ℕ → C → ℕ → C → Type 0
  Before = IsNamedBefore number

  -- no two causes are named
  pub one_named : (Has : ℕ → C → Type 0) (f g : Option C) → NamesFirst number Has f → NamesFirst number Has g → f ≡ g
  one_named Has None None p q = refl
  one_named Has None (Some d) p q = absurd (p.holds q.holds.0 d q.holds.1)
  one_named Has (Some c) None p q = absurd (q.holds p.holds.0 c p.holds.1)
  one_named Has (Some c) (Some d) p q = elim (p.holds.2 q.holds.0 d q.holds.1) [
    | inr same ↦ ap Some (sym same)
    | inl before ↦ elim (q.holds.2 p.holds.0 c p.holds.1) [
      | inr same ↦ ap Some same
      | inl after ↦ absurd (never before after)
    ]
  ]
    where
      never : Before p.holds.0 c q.holds.0 d → Before q.holds.0 d p.holds.0 c → ⊥
      never (inl a) (inl b) = omega (arith, a, b)
      never (inl a) (inr b) = omega (arith, a, b.0)
      never (inr a) (inl b) = omega (arith, a.0, b)
      never (inr a) (inr b) = omega (arith, a.1, b.1)

  pub turned : (P R : ℕ → C → Type 0) (f : Option C) → NamesFirst number P f → ((k : ℕ) (c : C) → P k c → R k c) → ((k : ℕ) (c : C) → R k c → P k c) → NamesFirst number R f
  turned P R None p to from = record { holds = λ k c r. p.holds k c (from k c r) }
  turned P R (Some c) p to from = record { holds = (p.holds.0, to p.holds.0 c p.holds.1, λ j d r. p.holds.2 j d (from j d r)) }

  abbrev pub Either : (ℕ → C → Type 0) → (ℕ → C → Type 0) → ℕ → C → Type 0
  Either A B k c = A k c ⊎ B k c

  abbrev pub AllBefore : (ℕ → C → Type 0) → (ℕ → C → Type 0) → Type 0
  AllBefore A B = (j k : ℕ) (c d : C) → A j c → B k d → Before j c k d

  pub both : (A B : ℕ → C → Type 0) (f g : Option C) → AllBefore A B → NamesFirst number A f → NamesFirst number B g → NamesFirst number (Either A B) (option_or f g)
  both A B (Some c) g before p q = record { holds = (p.holds.0, inl p.holds.1, λ j d h. elim h [ inl a ↦ p.holds.2 j d a | inr b ↦ inl (before p.holds.0 j c d p.holds.1 b) ]) }
  both A B None (Some c) before p q = record { holds = (q.holds.0, inr q.holds.1, λ j d h. elim h [ inl a ↦ absurd (p.holds j d a) | inr b ↦ q.holds.2 j d b ]) }
  both A B None None before p q = record { holds = λ k c h. elim h [ inl a ↦ p.holds k c a | inr b ↦ q.holds k c b ] }

  -- a cause that stands at one place
  abbrev pub Alone : Type 0 → ℕ → C → ℕ → C → Type 0
  Alone P place cause k c = P × (k ≡ place) × (c ≡ cause)

  pub alone : (P : Type 0) (place : ℕ) (cause : C) (b : Bool) → (b ≡ true → P) → (P → b ≡ true) → NamesFirst number (Alone P place cause) (cond b (Some cause) None)
  alone P place cause true to from = record { holds = (place, (to refl, refl, refl), λ k d h. inr h.2) }
  alone P place cause false to from = record { holds = λ k c h. false≢true (from h.0) }

  pub none_stands : (Has : ℕ → C → Type 0) → ((k : ℕ) (c : C) → Has k c → ⊥) → NamesFirst number Has None
  none_stands Has none = record { holds = none }

  -- nothing stands exactly where nothing is named
  pub none_named : (Has : ℕ → C → Type 0) (f : Option C) → NamesFirst number Has f → (f ≡ None) ↔ ((k : ℕ) (c : C) → Has k c → ⊥)
  none_named Has None p = (λ is. p.holds, λ none. refl)
  none_named Has (Some c) p = (λ is. let no : Some c ≡ None = is in cc, λ none. absurd (none p.holds.0 c p.holds.1))

  -- ---- rows in the order of their numbers

  abbrev pub Numbered : ℕ → (ℕ → C → Type 0) → Type 0
  Numbered n A = (k : ℕ) (c : C) → A k c → number c ≡ n

  -- what stands has a number of at least n, and the first of it is named
  pub record Rest (n : ℕ) (B : ℕ → C → Type 0) (g : Option C) : Type 0 where
    pub from : (k : ℕ) (c : C) → B k c → n ≤ number c
    pub least : NamesFirst number B g

  pub row_then : (n m : ℕ) (A B : ℕ → C → Type 0) (f g : Option C) → n < m → Numbered n A → NamesFirst number A f → Rest m B g → Rest n (Either A B) (option_or f g)
  row_then n m A B f g less numbered first rest = record {
    from = λ k c h. elim h [ inl a ↦ omega (arith, numbered k c a) | inr b ↦ omega (arith, rest.from k c b, less) ];
    least = both A B f g (λ j k c d a b. inl (omega (arith, numbered j c a, rest.from k d b, less))) first rest.least;
  }

  pub no_rows : (n : ℕ) → Rest n (λ k c. ⊥) None
  no_rows n = record { from = λ k c h. absurd h; least = record { holds = λ k c h. h } }

  -- ---- along a range

  module _ (E : ℕ → ℕ → C → Type 0) (f : ℕ → Option C) (rises : (p q : ℕ) → p < q → AllBefore (E p) (E q)) (each : (p : ℕ) → NamesFirst number (E p) (f p)) where
    abbrev pub InRange : ℕ → ℕ → ℕ → C → Type 0
    InRange a n k c = (p : ℕ) × (a ≤ p) × (p < a + n) × E p k c

    pub range_names : (a n : ℕ) → NamesFirst number (InRange a n) (first_some f (range_with_len a n))
    range_names a zero = record { holds = λ k c (p, le, lt, h). omega (arith, le, lt) }
    range_names a (suc n) =
        turned (Either (E a) (InRange (a + 1) n)) (InRange a (suc n)) _
        (both (E a) (InRange (a + 1) n) (f a) (first_some f (range_with_len (a + 1) n)) (λ j k c d h (p, le, lt, g). rises a p (omega (arith, le)) j k c d h g) (each a) (range_names (a + 1) n)) to from
      where
        to : (k : ℕ) (c : C) → Either (E a) (InRange (a + 1) n) k c → InRange a (suc n) k c
        to k c (inl h) = (a, omega arith, omega arith, h)
        to k c (inr (p, le, lt, h)) = (p, omega (arith, le), omega (arith, lt), h)

        from : (k : ℕ) (c : C) → InRange a (suc n) k c → Either (E a) (InRange (a + 1) n) k c
        from k c (p, le, lt, h) = elim (cases_eq p a) [
          | inl e ↦ inl (subst (λ q. E q k c) e h)
          | inr ne ↦ inr (p, omega (arith, le, ne), omega (arith, lt), h)
        ]

  -- numbers below n that pass a test, each with its cause at its place
  module _ (p : ℕ → Bool) (place : ℕ → ℕ) (cause : ℕ → C) where
    abbrev pub Sought : ℕ → ℕ → C → Type 0
    Sought n k c = (i : ℕ) × (i < n) × (p i ≡ true) × (k ≡ place i) × (c ≡ cause i)

    pub sought : ((i j : ℕ) → number (cause i) ≡ number (cause j)) → ((i j : ℕ) → i < j → place i < place j) → (n : ℕ) → NamesFirst number (Sought n) (option_map cause (find p (range_with_len 0 n)))
    sought same rises n =
        turned (InRange E f rising each 0 n) (Sought n) _
        (subst (NamesFirst number (InRange E f rising each 0 n)) (sym (found_first p cause (range_with_len 0 n))) (range_names E f rising each 0 n))
        (λ k c (i, le, lt, (is, at, named)). (i, omega (arith, lt), is, at, named)) (λ k c (i, lt, is, at, named). (i, omega arith, omega (arith, lt), (is, at, named)))
      where
        E : ℕ → ℕ → C → Type 0
        E i = Alone (p i ≡ true) (place i) (cause i)

        f : ℕ → Option C
        f i = cond (p i) (Some (cause i)) None

        rising : (i j : ℕ) → i < j → AllBefore (E i) (E j)
        rising i j less k l c d (_, at, is) (_, also, other) = inr (ap number is ∙ same i j ∙ sym (ap number other), omega (arith, at, also, rises i j less))

        each : (i : ℕ) → NamesFirst number (E i) (f i)
        each i = alone (p i ≡ true) (place i) (cause i) (p i) (λ h. h) (λ h. h)

  -- ---- among the entries of a map

  module _ {K X : Type 0} {R : K → K → Ordering} (total : IsTotalOrder R) (exact : IsAntisymmetric R) (E : K × X → ℕ → C → Type 0) where
    -- what stands in some entry of a list
    abbrev Among : List (K × X) → ℕ → C → Type 0
    Among [] k c = ⊥
    Among (e ∷ es) k c = E e k c ⊎ Among es k c

    -- what stands in some entry of a map
    abbrev pub InEntries : FinMap R X → ℕ → C → Type 0
    InEntries m k c = (q : K) × (v : X) × (maps.get m q ≡ Some v) × E (q, v) k c

    module _ (m : FinMap R X) (rises : (q r : K) (v w : X) → maps.get m q ≡ Some v → maps.get m r ≡ Some w → R q r ≡ Less → AllBefore (E (q, v)) (E (r, w))) (f : K × X → Option C) where
      abbrev There : K × X → Type 0
      There e = maps.get m e.0 ≡ Some e.1

      all_there : All There (maps.entries m)
      all_there = all_found total exact There (maps.entries m) (maps.entries_sorted m) (λ q v is. maps.get-entries m q ∙ is)

      pick : (es : List (K × X)) → All There es → (k : ℕ) (c : C) → Among es k c → InEntries m k c
      pick [] there k c h = absurd h
      pick (e ∷ es) there k c (inl h) = (e.0, e.1, All-head There e es there, h)
      pick (e ∷ es) there k c (inr h) = pick es (All-tail There e es there) k c h

      put : (es : List (K × X)) (q : K) (v : X) → maps.find R q es ≡ Some v → (k : ℕ) (c : C) → E (q, v) k c → Among es k c
      put [] q v at k c h = let no : None ≡ Some v = at in cc
      put (e ∷ es) q v at k c h =
          elim (eq_by_cmp R q e.0) as (λ b. eq_by_cmp R q e.0 ≡ b → cond b (Some e.1) (maps.find R q es) ≡ Some v → Among (e ∷ es) k c) [
            | true ↦ λ t here. let value : v ≡ e.1 = cc in let key = exact q e.0 (tied _ t) in inl (subst (λ x. E x k c) (λ i. (key i, value i)) h)
            | false ↦ λ t behind. inr (put es q v behind k c h)
          ] refl at

      later : (e : K × X) (es : List (K × X)) → There e → All There es → T (below_all R e.0 es) → AllBefore (E e) (Among es)
      later e [] here there below j k c d h g = absurd g
      later e (x ∷ es) here there below j k c d h (inl g) =
          let (first, _) = both_of (is_lt (R e.0 x.0)) (below_all R e.0 es) below in
          rises e.0 x.0 e.1 x.1 here (All-head There x es there) (less _ (true_of _ first)) j k c d h g
      later e (x ∷ es) here there below j k c d h (inr g) =
          let (_, others) = both_of (is_lt (R e.0 x.0)) (below_all R e.0 es) below in later e es here (All-tail There x es there) others j k c d h g

      abbrev NamedAt : K × X → Type 0
      NamedAt e = NamesFirst number (E e) (f e)

      list_names : (es : List (K × X)) → T (is_sorted R es) → All There es → All NamedAt es → NamesFirst number (Among es) (first_some f es)
      list_names [] sorted there each = record { holds = λ k c h. h }
      list_names (e ∷ es) sorted there each =
          let (below, others) = both_of (below_all R e.0 es) (is_sorted R es) sorted in
          both (E e) (Among es) (f e) (first_some f es) (later e es (All-head There e es there) (All-tail There e es there) below)
          (All-head NamedAt e es each) (list_names es others (All-tail There e es there) (All-tail NamedAt e es each))

      pub entries_name : ((q : K) (v : X) → maps.get m q ≡ Some v → NamesFirst number (E (q, v)) (f (q, v))) → NamesFirst number (InEntries m) (first_some f (maps.entries m))
      entries_name each =
          turned (Among (maps.entries m)) (InEntries m) (first_some f (maps.entries m))
          (list_names (maps.entries m) (maps.entries_sorted m) all_there (all_found total exact NamedAt (maps.entries m) (maps.entries_sorted m) (λ q v is. each q v (maps.get-entries m q ∙ is))))
          (pick (maps.entries m) all_there) (λ k c (q, v, at, e). put (maps.entries m) q v (sym (maps.get-entries m q) ∙ at) k c e)

-- ---- causes told by a function that keeps their order

module _ {C D : Type 0} (number : C → ℕ) (counted : D → ℕ) (t : C → D) (Has : ℕ → C → Type 0)
    (keeps : (j k : ℕ) (c d : C) → Has j c → Has k d → IsNamedBefore number j c k d → IsNamedBefore counted j (t c) k (t d)) where
  abbrev pub Told : ℕ → D → Type 0
  Told k d = (c : C) × Has k c × (d ≡ t c)

  pub told_names : (f : Option C) → NamesFirst number Has f → NamesFirst counted Told (option_map t f)
  told_names None p = record { holds = λ k d (c, h, is). p.holds k c h }
  told_names (Some c) p = record {
    holds = (
      p.holds.0,
      (c, p.holds.1, refl),
      λ j d (e, h, is). elim (p.holds.2 j e h) [
        | inl before ↦ inl (subst (λ x. IsNamedBefore counted p.holds.0 (t c) j x) (sym is) (keeps p.holds.0 j c e p.holds.1 h before))
        | inr same ↦ inr (is ∙ ap t same)
      ],
    );
  }
