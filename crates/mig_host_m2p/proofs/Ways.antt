-- Ways in a tree of cells: where they go on, where they end, and what isn't there then.
use Rattle.mig_host_m2p.proofs.Common.{◌≡◌, ◌≢◌, ◌⊎◌, ℕ, zero, suc, ◌+◌, ◌-◌, ◌<◌, ◌≤◌, ◌^◌, true, refl, sym, ap, subst, ◌∙◌, inl, inr, arith, cases_lt, cases_eq, either_below, bit_at, Cell, Agree, HasAbove, IsNext, IsGrown, below_on, next_cell, machine_limit, same_from_bits_below, bit_at-zero, bit_at-pow_same, if◌then◌else◌, eq-eqb, ne_eqb}

-- one bit more
pub agree_more : (d a b : ℕ) → Agree d a b → bit_at a d ≡ bit_at b d → Agree (d + 1) a b
agree_more d a b same next i lt = by (cases_lt i d)
  where
    by : (i < d) ⊎ (d ≤ i) → bit_at a i ≡ bit_at b i
    by (inl low) = same i low
    by (inr high) = let e : d ≡ i = omega (arith, lt, high) in subst (λ k. bit_at a k ≡ bit_at b k) e next

agree_on : (d a b c : ℕ) → Agree d a b → ((i : ℕ) → i < d → bit_at c i ≡ bit_at b i) → Agree d a c
agree_on d a b c same more i lt = same i lt ∙ sym (more i lt)

meet : (d e a b c f : ℕ) → d ≡ e → Agree d b a → Agree (e + 1) b c → Agree e f c → Agree d a f
meet d e a b c f is ba bc fc k lt = sym (ba k lt) ∙ bc k (omega (arith, lt, is)) ∙ sym (fc k (omega (arith, lt, is)))

way_of : (c : Cell) (m n q : ℕ) → bit_at n c.depth ≡ bit_at m c.depth → next_cell c n ≡ q → next_cell c m ≡ q
way_of c m n q side leads = ap (below_on c) (sym side) ∙ leads

way_from : (at : ℕ → Cell) (a i m q : ℕ) → a ≡ i → next_cell (at a) m ≡ q → next_cell (at i) m ≡ q
way_from at a i m q is leads = ap (λ k. next_cell (at k) m) (sym is) ∙ leads

-- the cell that a way leads to at a depth, which has the lowest bits of cell j
pub record Passes (at : ℕ → Cell) (depth j : ℕ) : Type 0 where
  pub cell : ℕ
  pub used : (at cell).used ≡ true
  pub deep : (at cell).depth ≡ depth
  pub agrees : Agree depth (at cell).machine (at j).machine

module _ (at : ℕ → Cell) (g : IsGrown at) where
  pub not_root : (j : ℕ) → 0 < (at j).depth → 0 < j
  not_root zero lt = absurd (omega (arith, lt, g.root))
  not_root (suc j) lt = omega arith

  pub next_is : (i machine j : ℕ) → (at i).used ≡ true → next_cell (at i) machine ≡ j → 0 < j → IsNext (at i) machine (at j)
  next_is i machine j used e lt = subst (λ k. IsNext (at i) machine (at k)) e (g.down i machine used (subst (λ k. 0 < k) (sym e) lt))

  pub passes : (n depth j : ℕ) → (at j).used ≡ true → (at j).depth ≡ depth + n → Passes at depth j
  passes zero depth j used e = record { cell = j; used = used; deep = omega (arith, e); agrees = λ i lt. refl }
  passes (suc n) depth j used e =
      let some : 0 < j = not_root j (omega (arith, e)) in
      let a : HasAbove at j = g.up j some used in
      let next : IsNext (at a.cell) (at j).machine (at j) = next_is a.cell (at j).machine j a.used a.leads some in
      let p : Passes at depth a.cell = passes n depth a.cell a.used (omega (arith, next.depth, e)) in
      record { cell = p.cell; used = p.used; deep = p.deep; agrees = agree_on depth (at p.cell).machine (at a.cell).machine (at j).machine p.agrees (λ i lt. next.agrees i (omega (arith, next.depth, e, lt))) }

  -- the way from a cell to a deeper one goes on
  pub record GoesOn (i j : ℕ) : Type 0 where
    pub some : 0 < next_cell (at i) (at j).machine
    pub agrees : Agree (at (next_cell (at i) (at j).machine)).depth (at (next_cell (at i) (at j).machine)).machine (at j).machine

  pub goes_on : (i j : ℕ) → (at i).used ≡ true → (at j).used ≡ true → Agree (at i).depth (at i).machine (at j).machine → (at i).depth < (at j).depth → GoesOn i j
  goes_on i j used_i used_j same deeper =
      let p : Passes at ((at i).depth + 1) j = passes ((at j).depth - ((at i).depth + 1)) ((at i).depth + 1) j used_j (omega (arith, deeper)) in
      let some : 0 < p.cell = not_root p.cell (omega (arith, p.deep)) in
      let a : HasAbove at p.cell = g.up p.cell some p.used in
      let next : IsNext (at a.cell) (at p.cell).machine (at p.cell) = next_is a.cell (at p.cell).machine p.cell a.used a.leads some in
      let deep : (at a.cell).depth ≡ (at i).depth = omega (arith, next.depth, p.deep) in
      let is : a.cell ≡ i = g.apart a.cell i a.used used_i deep (meet (at a.cell).depth (at i).depth (at a.cell).machine (at p.cell).machine (at j).machine (at i).machine deep next.agrees p.agrees same) in
      let leads : next_cell (at i) (at j).machine ≡ p.cell = way_of (at i) (at j).machine (at p.cell).machine p.cell (p.agrees (at i).depth (omega arith)) (way_from at a.cell i (at p.cell).machine p.cell is a.leads) in
      record {
        some = subst (λ k. 0 < k) (sym leads) some;
        agrees = subst (λ k. Agree (at k).depth (at k).machine (at j).machine) (sym leads) (subst (λ d. Agree d (at p.cell).machine (at j).machine) (sym p.deep) p.agrees);
      }

  -- on the way to a machine frame, from a cell that doesn't have it
  module _ (i machine : ℕ) (used : (at i).used ≡ true) (same : Agree (at i).depth (at i).machine machine) where
    module _ (other : (at i).machine ≢ machine) where
      pub deeper : (j : ℕ) → (at j).used ≡ true → (at j).machine ≡ machine → (at i).depth ≤ (at j).depth → (at i).depth < (at j).depth
      deeper j used_j is le = by (cases_lt (at i).depth (at j).depth)
        where
          by : ((at i).depth < (at j).depth) ⊎ ((at j).depth ≤ (at i).depth) → (at i).depth < (at j).depth
          by (inl lt) = lt
          by (inr ge) =
              let deep : (at i).depth ≡ (at j).depth = omega (arith, le, ge) in
              let e : i ≡ j = g.apart i j used used_j deep (λ k lt. same k lt ∙ ap (λ m. bit_at m k) (sym is)) in
              absurd (other (ap (λ k. (at k).machine) e ∙ is))

      pub ended : ((j : ℕ) → (at j).used ≡ true → (at j).machine ≡ machine → (at i).depth ≤ (at j).depth) → next_cell (at i) machine ≡ 0 → (j : ℕ) → (at j).used ≡ true → (at j).machine ≢ machine
      ended later ends j used_j is =
          let on : GoesOn i j = goes_on i j used used_j (λ k lt. same k lt ∙ ap (λ m. bit_at m k) (sym is)) (deeper j used_j is (later j used_j is)) in
          let some : 0 < next_cell (at i) machine = subst (λ m. 0 < next_cell (at i) m) is on.some in
          omega (arith, some, ends)

      -- all bits lead to non cell but the one that has the machine frame
      pub room_below : machine < machine_limit → (at i).depth < 40
      room_below small = by (cases_lt (at i).depth 40)
        where
          by : ((at i).depth < 40) ⊎ (40 ≤ (at i).depth) → (at i).depth < 40
          by (inl lt) = lt
          by (inr ge) =
              let some : 0 < i = not_root i (omega (arith, ge)) in
              absurd (other (same_from_bits_below 40 (at i).machine machine (g.inside i some used) small (λ k lt. same k (omega (arith, lt, ge)))))

  -- ---- a step on each of the ways

  pub record SeeksOn (n i machine : ℕ) : Type 0 where
    pub used : (at n).used ≡ true
    pub deep : (at n).depth ≡ (at i).depth + 1
    pub low : (at n).depth ≤ 40
    pub agrees : Agree (at n).depth (at n).machine machine
    pub later : (j : ℕ) → (at j).used ≡ true → (at j).machine ≡ machine → (at n).depth ≤ (at j).depth

  pub seeks_on : (i machine n : ℕ) → (at i).used ≡ true → Agree (at i).depth (at i).machine machine → (at i).machine ≢ machine
      → ((j : ℕ) → (at j).used ≡ true → (at j).machine ≡ machine → (at i).depth ≤ (at j).depth) → n ≡ next_cell (at i) machine → n ≢ 0 → SeeksOn n i machine
  seeks_on i machine n used same other later is some =
      let next : IsNext (at i) machine (at n) = next_is i machine n used (sym is) (omega (arith, some)) in
      record {
        used = next.used;
        deep = next.depth;
        low = g.low n next.used;
        agrees = subst (λ d. Agree d (at n).machine machine) (sym next.depth) (agree_more (at i).depth (at n).machine machine (λ k lt. next.agrees k lt ∙ same k lt) next.side);
        later = λ j used_j e. omega (arith, next.depth, deeper i machine used same other j used_j e (later j used_j e));
      }

  pub record LeadsOn (n i j : ℕ) : Type 0 where
    pub used : (at n).used ≡ true
    pub deep : (at n).depth ≡ (at i).depth + 1
    pub low : (at n).depth ≤ 40
    pub agrees : Agree (at n).depth (at n).machine (at j).machine
    pub above : (at n).depth < (at j).depth

  pub leads_on : (i j n : ℕ) → (at i).used ≡ true → (at j).used ≡ true → Agree (at i).depth (at i).machine (at j).machine → (at i).depth < (at j).depth → n ≡ next_cell (at i) (at j).machine → n ≢ j → LeadsOn n i j
  leads_on i j n used used_j same lt is other =
      let on : GoesOn i j = goes_on i j used used_j same lt in
      let next : IsNext (at i) (at j).machine (at n) = next_is i (at j).machine n used (sym is) (omega (arith, is, on.some)) in
      let agrees : Agree (at n).depth (at n).machine (at j).machine = subst (λ k. Agree (at k).depth (at k).machine (at j).machine) (sym is) on.agrees in
      record {
        used = next.used;
        deep = next.depth;
        low = g.low n next.used;
        agrees = agrees;
        above = elim (cases_lt (at n).depth (at j).depth) [
          | inl less ↦ less
          | inr ge ↦ absurd (other (g.apart n j next.used used_j (omega (arith, ge, lt, next.depth)) agrees))
        ];
      }

  pub record FallsOn (n i f : ℕ) : Type 0 where
    pub used : (at n).used ≡ true
    pub deep : (at n).depth ≡ (at i).depth + 1
    pub low : (at n).depth ≤ 40
    pub agrees : Agree (at f).depth (at n).machine (at f).machine

  falls_to : (i f machine n : ℕ) → (at i).used ≡ true → (at f).depth ≤ (at i).depth → Agree (at f).depth (at i).machine (at f).machine → next_cell (at i) machine ≡ n → n ≢ 0 → FallsOn n i f
  falls_to i f machine n used le same is some =
      let next : IsNext (at i) machine (at n) = next_is i machine n used is (omega (arith, some)) in
      record { used = next.used; deep = next.depth; low = g.low n next.used; agrees = λ k lt. next.agrees k (omega (arith, lt, le)) ∙ same k lt }

either_one : (c : Cell) → c.zero ≡ 0 → either_below c ≡ c.one
either_one c e = ap (λ b. if b then c.one else c.zero) (eq-eqb c.zero 0 e)

either_zero : (c : Cell) → c.zero ≢ 0 → either_below c ≡ c.zero
either_zero c ne = ap (λ b. if b then c.one else c.zero) (ne_eqb c.zero 0 ne)

zero_way : (c : Cell) → next_cell c 0 ≡ c.zero
unfolding below_on
zero_way c = ap (below_on c) (bit_at-zero c.depth)

one_way : (c : Cell) → next_cell c (2 ^ c.depth) ≡ c.one
unfolding below_on
one_way c = ap (below_on c) (bit_at-pow_same c.depth)

pub falls_on : (at : ℕ → Cell) (g : IsGrown at) (i f n : ℕ) → (at i).used ≡ true → (at f).depth ≤ (at i).depth → Agree (at f).depth (at i).machine (at f).machine → n ≡ either_below (at i) → n ≢ 0 → FallsOn at g n i f
falls_on at g i f n used le same is some = elim (cases_eq (at i).zero 0) [
  | inl e ↦ falls_to at g i f (2 ^ (at i).depth) n used le same (one_way (at i) ∙ sym (is ∙ either_one (at i) e)) some
  | inr ne ↦ falls_to at g i f 0 n used le same (zero_way (at i) ∙ sym (is ∙ either_zero (at i) ne)) some
]

pub no_sides : (c : Cell) → c.zero ≡ 0 → c.one ≡ 0 → (b : ℕ) → below_on c b ≡ 0
unfolding below_on
no_sides c z o zero = z
no_sides c z o (suc b) = o

pub nothing_below : (c : Cell) → either_below c ≡ 0 → (machine : ℕ) → next_cell c machine ≡ 0
nothing_below c none machine = elim (cases_eq c.zero 0) [
  | inl e ↦ no_sides c e (sym (either_one c e) ∙ none) (bit_at machine c.depth)
  | inr ne ↦ absurd (ne (sym (either_zero c ne) ∙ none))
]
