-- A tree with its stack stays sound through each change.
use Rattle.mig_host_m2p.proofs.Common.{◌≡◌, ◌≢◌, ℕ, zero, suc, ◌+◌, ◌-◌, ◌<◌, ◌≤◌, ◌^◌, true, false, Some, None, IsSome, List, [], length, length-set, slice_index, set, refl, sym, ap, subst, ◌∙◌, inl, inr, arith, is_some, cases_lt, cases_eq, bit_at, Cell, Agree, IsNext, ValueMap, cell_at, free_cell, led, next_cell, below_on, collected, kept_in, IsGrown, AreFree, IsStanding, machine_limit, nat_cmp, len-empty, counted_more, counted_same, counted_less, some_counted}
use Rattle.std.specs.FinMap as maps
use Rattle.mig_host_m2p.proofs.Grown.{not_both, same_below, IsLike, Hung, Lifted, like_same, grown_like, grown_hung, grown_lifted}
use Rattle.mig_pagestore_index.proofs.Gathered.{none_is_not_some}
use Rattle.mig_host_m2p.proofs.Ways.{next_is, no_sides}
use Rattle.mig_host_m2p.proofs.Sides.{led_same, leads_now, leads_still}
use Rattle.mig_host_m2p.proofs.Collected.{HasFrame, IsMapOf, map_of, map_same, map_changed, map_hung, map_lifted, none_at}
use Rattle.mig_host_m2p.proofs.Stacks.{taken, put_back, same_free}
use Rattle.mig_host_m2p.proofs.Listed.{behind, behind_free, in_range, written, unwritten}

pub is_there : (m : ValueMap) (q v : ℕ) → maps.get m q ≡ Some v → IsSome (maps.get m q)
is_there m q v e = ap is_some e

pub map_now : (cells : List Cell) → IsGrown (cell_at cells) → IsMapOf (cell_at cells) (kept_in cells)
map_now cells g = map_of (cell_at cells) g (length cells) (behind_free cells)

-- a tree in which no cell but maybe the root is in use
module _ (at : ℕ → Cell) (root : (at 0).depth ≡ 0) (outside : (at 0).used ≡ true → machine_limit ≤ (at 0).machine) (ends : (m : ℕ) → next_cell (at 0) m ≡ 0) (free : (i : ℕ) → 0 < i → (at i).used ≡ false) where
  only_root : (i : ℕ) → (at i).used ≡ true → i ≡ 0
  only_root zero used = refl
  only_root (suc i) used = absurd (not_both (at (suc i)).used (free (suc i) (omega arith)) used)

  pub grown_root : IsGrown at
  grown_root = record {
    root = root;
    outside = outside;
    inside = λ i some used. absurd (not_both (at i).used (free i some) used);
    low = λ i used. let e = ap (λ k. (at k).depth) (only_root i used) in omega (arith, e, root);
    down = λ i m used some. let e : next_cell (at i) m ≡ 0 = ap (λ k. next_cell (at k) m) (only_root i used) ∙ ends m in absurd (omega (arith, e, some));
    up = λ j some used. absurd (not_both (at j).used (free j some) used);
    apart = λ i j used_i used_j deep same. only_root i used_i ∙ sym (only_root j used_j);
    sole = λ i j used_i used_j same. only_root i used_i ∙ sym (only_root j used_j);
  }

-- ---- a cell more

module _ (cells : List Cell) (free : List ℕ) (spare : ℕ) (st : IsStanding cells free spare) (p machine pfn : ℕ) (small : machine < machine_limit) (used_p : (cell_at cells p).used ≡ true) (same : Agree (cell_at cells p).depth (cell_at cells p).machine machine)
    (room : (cell_at cells p).depth < 40) (ends : next_cell (cell_at cells p) machine ≡ 0) (none : (j : ℕ) → (cell_at cells j).used ≡ true → (cell_at cells j).machine ≢ machine) (some : 1 ≤ spare) where
  abbrev n : ℕ
  n = slice_index free (spare - 1)

  abbrev new : Cell
  new = record { machine = machine; pfn = pfn; zero = 0; one = 0; depth = (cell_at cells p).depth + 1; used = true }

  abbrev first : List Cell
  first = set cells n new

  abbrev last : List Cell
  last = set first p (led (cell_at cells p) machine n)

  last_free : spare - 1 < spare
  last_free = omega (arith, some)

  n_some : 0 < n
  n_some = st.free_ones.some (spare - 1) last_free

  n_there : n < length cells
  n_there = st.free_ones.there (spare - 1) last_free

  n_free : (cell_at cells n).used ≡ false
  n_free = st.free_ones.unused (spare - 1) last_free

  p_there : p < length first
  p_there = omega (arith, in_range cells p used_p, length-set cells n new)

  pub apart_p : p ≢ n
  apart_p e = not_both (cell_at cells n).used n_free (subst (λ k. (cell_at cells k).used ≡ true) e used_p)

  at_p : (q : ℕ) → q ≡ p → cell_at last q ≡ led (cell_at cells p) machine n
  at_p q e = written first p (led (cell_at cells p) machine n) q p_there e

  at_q : (q : ℕ) → q ≢ p → q ≢ n → cell_at last q ≡ cell_at cells q
  at_q q ne other = unwritten first p (led (cell_at cells p) machine n) q ne ∙ unwritten cells n new q other

  abbrev side : ℕ
  side = bit_at machine (cell_at cells p).depth

  field : {X : Type 0} (f : Cell → X) → ((z o : ℕ) → f (record (cell_at cells p) { zero = z; one = o }) ≡ f (cell_at cells p)) → (q : ℕ) → q ≢ n → f (cell_at last q) ≡ f (cell_at cells q)
  field f same q other = elim (cases_eq q p) [
    | inl is ↦ ap f (at_p q is) ∙ led_same (cell_at cells p) f same side n ∙ ap (λ k. f (cell_at cells k)) (sym is)
    | inr ne ↦ ap f (at_q q ne other)
  ]

  still_on : (q m : ℕ) → q ≢ n → (q ≡ p → bit_at m (cell_at cells p).depth ≡ bit_at machine (cell_at cells p).depth → ⊥) → next_cell (cell_at last q) m ≡ next_cell (cell_at cells q) m
  still_on q m other ne = elim (cases_eq q p) [
    | inl is ↦ ap (λ (c : Cell). next_cell c m) (at_p q is) ∙ leads_still (cell_at cells p) machine n m (ne is) ∙ ap (λ k. next_cell (cell_at cells k) m) (sym is)
    | inr not ↦ ap (λ (c : Cell). next_cell c m) (at_q q not other)
  ]

  hung : Hung (cell_at cells) (cell_at last) p n machine pfn
  hung = record {
    here = unwritten first p (led (cell_at cells p) machine n) n (λ e. apart_p (sym e)) ∙ written cells n new n n_there refl;
    leads = ap (λ (c : Cell). next_cell c machine) (at_p p refl) ∙ leads_now (cell_at cells p) machine n machine refl;
    used = field (λ (c : Cell). c.used) (λ z o. refl);
    machines = field (λ (c : Cell). c.machine) (λ z o. refl);
    pfns = field (λ (c : Cell). c.pfn) (λ z o. refl);
    depth = field (λ (c : Cell). c.depth) (λ z o. refl);
    still = still_on;
  }

  grown : IsGrown (cell_at last)
  grown = grown_hung (cell_at cells) (cell_at last) st.grown p n machine pfn hung used_p same room ends none n_some n_free small

  as_many : length last ≡ length cells
  as_many = length-set first p (led (cell_at cells p) machine n) ∙ length-set cells n new

  hung_kept : kept_in last ≡ maps.insert (kept_in cells) machine pfn
  hung_kept = map_hung (cell_at cells) (cell_at last) (kept_in cells) (kept_in last) (map_now cells st.grown) (map_now last grown) p n machine pfn hung n_some n_free

  none_kept : maps.get (kept_in cells) machine ≡ None
  none_kept = none_at (kept_in cells) machine (λ v is. let f : HasFrame (cell_at cells) machine v = (map_now cells st.grown).back machine v is in none f.cell f.used f.machine_is)

  hung_standing : IsStanding last free (spare - 1)
  hung_standing = record {
    grown = grown;
    begun = λ lt. hung.used 0 (λ e. omega (arith, e, n_some)) ∙ st.begun (omega (arith, as_many, lt));
    free_ones = subst (AreFree (cell_at last) free (spare - 1)) (sym as_many) (taken (cell_at cells) (cell_at last) free spare (length cells) st.free_ones some hung.used);
    wide = omega (arith, as_many, st.wide);
    few = omega (arith, as_many, st.few);
    room = omega (arith, as_many, st.room, some, ap maps.len hung_kept, counted_more (kept_in cells) machine pfn none_kept);
  }

  -- the same with what the code read on the way
  module _ (k : ℕ) (k_is : n ≡ k) (c1 c2 c3 : Cell) (is1 : c1 ≡ cell_at cells p) where
    abbrev first_read : List Cell
    first_read = set cells k (record { machine = machine; pfn = pfn; zero = 0; one = 0; depth = c1.depth + 1; used = true })

    first_same : first_read ≡ first
    first_same =
        ap (λ j. set cells j (record { machine = machine; pfn = pfn; zero = 0; one = 0; depth = c1.depth + 1; used = true })) (sym k_is)
        ∙ ap (λ (x : Cell). set cells n (record { machine = machine; pfn = pfn; zero = 0; one = 0; depth = x.depth + 1; used = true })) is1

    module _ (is2 : c2 ≡ cell_at first_read p) (is3 : c3 ≡ led c2 machine k) where
      led_as : c3 ≡ led (cell_at cells p) machine n
      led_as = is3 ∙ ap (led c2 machine) (sym k_is) ∙ ap (λ (x : Cell). led x machine n) (is2 ∙ ap (λ l. cell_at l p) first_same ∙ unwritten cells n new p apart_p)

      last_same : set first_read p c3 ≡ last
      last_same = ap (λ l. set l p c3) first_same ∙ ap (set first p) led_as

      pub hung_now : IsStanding (set first_read p c3) free (spare - 1) × (kept_in (set first_read p c3) ≡ maps.insert (kept_in cells) machine pfn)
      hung_now = subst (λ l. IsStanding l free (spare - 1) × (kept_in l ≡ maps.insert (kept_in cells) machine pfn)) (sym last_same) (hung_standing, hung_kept)

-- ---- another PFN in place

module _ (cells : List Cell) (free : List ℕ) (spare : ℕ) (st : IsStanding cells free spare) (i machine pfn : ℕ) (used : (cell_at cells i).used ≡ true) (is : (cell_at cells i).machine ≡ machine) (small : machine < machine_limit) where
  abbrev put : List Cell
  put = set cells i (record (cell_at cells i) { machine = machine; pfn = pfn })

  put_like : (q : ℕ) → IsLike (cell_at cells q) (cell_at put q)
  put_like q = elim (cases_eq q i) [
    | inl e ↦ subst (λ k. IsLike (cell_at cells k) (cell_at put q)) (sym e) (subst (IsLike (cell_at cells i)) (sym (written cells i (record (cell_at cells i) { machine = machine; pfn = pfn }) q (in_range cells i used) e))
        (record { used = refl; machine = sym is; depth = refl; zero_side = refl; one_side = refl }))
    | inr ne ↦ like_same (cell_at cells q) (cell_at put q) (unwritten cells i (record (cell_at cells i) { machine = machine; pfn = pfn }) q ne)
  ]

  put_grown : IsGrown (cell_at put)
  put_grown = grown_like (cell_at cells) (cell_at put) st.grown put_like

  put_many : length put ≡ length cells
  put_many = length-set cells i (record (cell_at cells i) { machine = machine; pfn = pfn })

  pub found_some : 0 < i
  found_some = elim (cases_eq i 0) [
    | inl e ↦ let root : (cell_at cells 0).machine ≡ machine = ap (λ k. (cell_at cells k).machine) (sym e) ∙ is in absurd (omega (arith, root, small, st.grown.outside (subst (λ k. (cell_at cells k).used ≡ true) e used)))
    | inr ne ↦ omega (arith, ne)
  ]

  put_kept : kept_in put ≡ maps.insert (kept_in cells) machine pfn
  put_kept =
      map_changed (cell_at cells) (cell_at put) (kept_in cells) (kept_in put) (map_now cells st.grown) (map_now put put_grown) i pfn found_some used put_like
      (ap (λ (c : Cell). c.pfn) (written cells i (record (cell_at cells i) { machine = machine; pfn = pfn }) i (in_range cells i used) refl))
      (λ q ne. ap (λ (c : Cell). c.pfn) (unwritten cells i (record (cell_at cells i) { machine = machine; pfn = pfn }) q ne))
      ∙ ap (λ k. maps.insert (kept_in cells) k pfn) is

  pub there_kept : maps.get (kept_in cells) machine ≡ Some (cell_at cells i).pfn
  there_kept = ap (maps.get (kept_in cells)) (sym is) ∙ (map_now cells st.grown).there i found_some used

  put_standing : IsStanding put free spare
  put_standing = record {
    grown = put_grown;
    begun = λ lt. (put_like 0).used ∙ st.begun (omega (arith, put_many, lt));
    free_ones = same_free (cell_at cells) (cell_at put) free free spare (length cells) (length put) st.free_ones (omega (arith, put_many)) (λ q some. (put_like q).used) (λ q lt. refl);
    wide = omega (arith, put_many, st.wide);
    few = omega (arith, put_many, st.few);
    room = omega (arith, put_many, st.room, ap maps.len put_kept, counted_same (kept_in cells) machine pfn (is_there (kept_in cells) machine (cell_at cells i).pfn there_kept));
  }

  -- the same with what the code read on the way
  module _ (c0 c1 : Cell) (is0 : c0 ≡ cell_at cells i) (is1 : c1 ≡ record c0 { machine = machine; pfn = pfn }) where
    put_same : set cells i c1 ≡ put
    put_same = ap (set cells i) (is1 ∙ ap (λ (x : Cell). record x { machine = machine; pfn = pfn }) is0)

    pub put_now : IsStanding (set cells i c1) free spare × (kept_in (set cells i c1) ≡ maps.insert (kept_in cells) machine pfn)
    put_now = subst (λ xs. IsStanding xs free spare × (kept_in xs ≡ maps.insert (kept_in cells) machine pfn)) (sym put_same) (put_standing, put_kept)

-- ---- a cell less

module _ (cells : List Cell) (free : List ℕ) (spare : ℕ) (st : IsStanding cells free spare) (p i l : ℕ) (some_i : 0 < i) (used_i : (cell_at cells i).used ≡ true) (some_l : 0 < l) (used_l : (cell_at cells l).used ≡ true)
    (ends : (m : ℕ) → next_cell (cell_at cells l) m ≡ 0) (same : Agree (cell_at cells i).depth (cell_at cells l).machine (cell_at cells i).machine) (used_p : (cell_at cells p).used ≡ true) (leads : next_cell (cell_at cells p) (cell_at cells l).machine ≡ l) where
  abbrev key : ℕ
  key = (cell_at cells l).machine

  abbrev unled : List Cell
  unled = set cells p (led (cell_at cells p) key 0)

  abbrev moved : Cell
  moved = record (cell_at unled i) { machine = key; pfn = (cell_at cells l).pfn }

  abbrev filled : List Cell
  filled = set unled i moved

  abbrev less : List Cell
  less = set filled l free_cell

  unled_many : length unled ≡ length cells
  unled_many = length-set cells p (led (cell_at cells p) key 0)

  filled_many : length filled ≡ length cells
  filled_many = length-set unled i moved ∙ unled_many

  less_many : length less ≡ length cells
  less_many = length-set filled l free_cell ∙ filled_many

  -- the cell where the way was cut
  cut_field : {X : Type 0} (f : Cell → X) → ((z o : ℕ) → f (record (cell_at cells p) { zero = z; one = o }) ≡ f (cell_at cells p)) → (q : ℕ) → f (cell_at unled q) ≡ f (cell_at cells q)
  cut_field f same q = elim (cases_eq q p) [
    | inl is ↦ ap f (written cells p (led (cell_at cells p) key 0) q (in_range cells p used_p) is) ∙ led_same (cell_at cells p) f same (bit_at key (cell_at cells p).depth) 0 ∙ ap (λ k. f (cell_at cells k)) (sym is)
    | inr ne ↦ ap f (unwritten cells p (led (cell_at cells p) key 0) q ne)
  ]

  -- the cell that was filled anew
  fill_field : {X : Type 0} (f : Cell → X) → f moved ≡ f (cell_at unled i) → (q : ℕ) → f (cell_at filled q) ≡ f (cell_at unled q)
  fill_field f e q = elim (cases_eq q i) [
    | inl is ↦ ap f (written unled i moved q (omega (arith, in_range cells i used_i, unled_many)) is) ∙ e ∙ ap (λ k. f (cell_at unled k)) (sym is)
    | inr ne ↦ ap f (unwritten unled i moved q ne)
  ]

  at_left : (q : ℕ) → q ≢ l → cell_at less q ≡ cell_at filled q
  at_left q ne = unwritten filled l free_cell q ne

  at_other : (q : ℕ) → q ≢ l → q ≢ i → cell_at less q ≡ cell_at unled q
  at_other q ne other = at_left q ne ∙ unwritten unled i moved q other

  at_filled : i ≢ l → cell_at less i ≡ moved
  at_filled ne = at_left i ne ∙ written unled i moved i (omega (arith, in_range cells i used_i, unled_many)) refl

  way : (q m : ℕ) → q ≢ l → next_cell (cell_at less q) m ≡ next_cell (cell_at unled q) m
  way q m ne = ap (λ (c : Cell). next_cell c m) (at_left q ne) ∙ fill_field (λ (c : Cell). next_cell c m) (same_below (cell_at unled i) moved refl refl (bit_at m (cell_at unled i).depth)) q

  kept_way : (q m : ℕ) → q ≢ l → (cell_at cells q).used ≡ true → next_cell (cell_at cells q) m ≢ l → next_cell (cell_at less q) m ≡ next_cell (cell_at cells q) m
  kept_way q m ne used other = way q m ne ∙ elim (cases_eq q p) [
    | inl is ↦ ap (λ (c : Cell). next_cell c m) (written cells p (led (cell_at cells p) key 0) q (in_range cells p used_p) is)
        ∙ leads_still (cell_at cells p) key 0 m (λ e. other (ap (λ k. next_cell (cell_at cells k) m) is ∙ ap (below_on (cell_at cells p)) e ∙ leads))
        ∙ ap (λ k. next_cell (cell_at cells k) m) (sym is)
    | inr not ↦ ap (λ (c : Cell). next_cell c m) (unwritten cells p (led (cell_at cells p) key 0) q not)
  ]

  next_p : IsNext (cell_at cells p) key (cell_at cells l)
  next_p = next_is (cell_at cells) st.grown p key l used_p leads some_l

  cut_way : (q m : ℕ) → q ≢ l → (cell_at cells q).used ≡ true → next_cell (cell_at cells q) m ≡ l → next_cell (cell_at less q) m ≡ 0
  cut_way q m ne used to =
      let next : IsNext (cell_at cells q) m (cell_at cells l) = next_is (cell_at cells) st.grown q m l used to some_l in
      let deep : (cell_at cells q).depth ≡ (cell_at cells p).depth = omega (arith, next.depth, next_p.depth) in
      let is : q ≡ p = st.grown.apart q p used used_p deep (λ k lt. sym (next.agrees k lt) ∙ next_p.agrees k (omega (arith, lt, deep))) in
      way q m ne ∙ ap (λ (c : Cell). next_cell c m) (written cells p (led (cell_at cells p) key 0) q (in_range cells p used_p) is)
      ∙ leads_now (cell_at cells p) key 0 m (sym (subst (λ d. bit_at key d ≡ bit_at m d) deep next.side))

  lifted : Lifted (cell_at cells) (cell_at less) i l
  lifted = record {
    gone = ap (λ (c : Cell). c.used) (written filled l free_cell l (omega (arith, in_range cells l used_l, filled_many)) refl);
    used = λ q ne. ap (λ (c : Cell). c.used) (at_left q ne) ∙ fill_field (λ (c : Cell). c.used) refl q ∙ cut_field (λ (c : Cell). c.used) (λ z o. refl) q;
    depth = λ q ne. ap (λ (c : Cell). c.depth) (at_left q ne) ∙ fill_field (λ (c : Cell). c.depth) refl q ∙ cut_field (λ (c : Cell). c.depth) (λ z o. refl) q;
    machines = λ q ne other. ap (λ (c : Cell). c.machine) (at_other q ne other) ∙ cut_field (λ (c : Cell). c.machine) (λ z o. refl) q;
    pfns = λ q ne other. ap (λ (c : Cell). c.pfn) (at_other q ne other) ∙ cut_field (λ (c : Cell). c.pfn) (λ z o. refl) q;
    machine = λ ne. ap (λ (c : Cell). c.machine) (at_filled ne);
    pfn = λ ne. ap (λ (c : Cell). c.pfn) (at_filled ne);
    kept = kept_way;
    cut = cut_way;
  }

  less_grown : IsGrown (cell_at less)
  less_grown = grown_lifted (cell_at cells) (cell_at less) st.grown i l lifted some_i used_i some_l used_l ends same

  there_i : maps.get (kept_in cells) (cell_at cells i).machine ≡ Some (cell_at cells i).pfn
  there_i = (map_now cells st.grown).there i some_i used_i

  lifted_kept : kept_in less ≡ maps.remove (kept_in cells) (cell_at cells i).machine
  lifted_kept = map_lifted (cell_at cells) (cell_at less) (kept_in cells) (kept_in less) (map_now cells st.grown) (map_now less less_grown) st.grown i l lifted some_i used_i some_l used_l

  some_there : IsSome (maps.get (kept_in cells) (cell_at cells i).machine)
  some_there = is_there (kept_in cells) (cell_at cells i).machine (cell_at cells i).pfn there_i

  pub within : spare < length free
  within = omega (arith, st.room, st.wide, some_counted (kept_in cells) (cell_at cells i).machine some_there)

  abbrev stack : List ℕ
  stack = set free spare l

  stack_long : length stack ≡ length free
  stack_long = length-set free spare l

  lifted_standing : IsStanding less stack (spare + 1)
  lifted_standing = record {
    grown = less_grown;
    begun = λ lt. lifted.used 0 (λ e. omega (arith, e, some_l)) ∙ st.begun (omega (arith, less_many, lt));
    free_ones = subst (AreFree (cell_at less) stack (spare + 1)) (sym less_many)
        (put_back (cell_at cells) (cell_at less) free spare (length cells) st.free_ones l some_l (in_range cells l used_l) lifted.gone lifted.used
        (λ a lt e. not_both (cell_at cells l).used (subst (λ k. (cell_at cells k).used ≡ false) e (st.free_ones.unused a lt)) used_l) within);
    wide = omega (arith, less_many, stack_long, st.wide);
    few = omega (arith, less_many, st.few);
    room = omega (arith, less_many, st.room, ap maps.len lifted_kept, counted_less (kept_in cells) (cell_at cells i).machine some_there, some_counted (kept_in cells) (cell_at cells i).machine some_there);
  }

  -- the same with what the code read on the way
  module _ (c0 c1 c2 c3 c4 : Cell) (is0 : c0 ≡ cell_at cells l) (is1 : c1 ≡ cell_at cells p) (is3 : c3 ≡ led c1 c0.machine 0) where
    cut_same : set cells p c3 ≡ unled
    cut_same = ap (set cells p) (is3 ∙ ap (λ (x : Cell). led x c0.machine 0) is1 ∙ ap (λ (x : Cell). led (cell_at cells p) x.machine 0) is0)

    module _ (is2 : c2 ≡ cell_at (set cells p c3) i) (is4 : c4 ≡ record c2 { machine = c0.machine; pfn = c0.pfn }) where
      fill_same : set (set cells p c3) i c4 ≡ filled
      fill_same =
          ap (λ xs. set xs i c4) cut_same
          ∙ ap (set unled i) (is4 ∙ ap (λ (x : Cell). record x { machine = c0.machine; pfn = c0.pfn }) (is2 ∙ ap (λ xs. cell_at xs i) cut_same) ∙ ap (λ (x : Cell). record (cell_at unled i) { machine = x.machine; pfn = x.pfn }) is0)

      abbrev now : List Cell
      now = set (set (set cells p c3) i c4) l free_cell

      pub lifted_now : IsStanding now (set free spare l) (spare + 1) × (kept_in now ≡ maps.remove (kept_in cells) (cell_at cells i).machine)
      lifted_now = subst (λ xs. IsStanding xs stack (spare + 1) × (kept_in xs ≡ maps.remove (kept_in cells) (cell_at cells i).machine)) (sym (ap (λ xs. set xs l free_cell) fill_same)) (lifted_standing, lifted_kept)

-- ---- what is found

module _ (cells : List Cell) (free : List ℕ) (spare : ℕ) (st : IsStanding cells free spare) (machine : ℕ) where
  pub get_nothing : ((j : ℕ) → (cell_at cells j).used ≡ true → (cell_at cells j).machine ≢ machine) → maps.get (kept_in cells) machine ≡ None
  get_nothing none = none_at (kept_in cells) machine (λ v is. let f : HasFrame (cell_at cells) machine v = (map_now cells st.grown).back machine v is in none f.cell f.used f.machine_is)

  pub get_empty : length cells ≡ 0 → maps.get (kept_in cells) machine ≡ None
  get_empty e = get_nothing (λ j used _. omega (arith, e, in_range cells j used))

  pub get_outside : machine_limit ≤ machine → maps.get (kept_in cells) machine ≡ None
  get_outside le = none_at (kept_in cells) machine (λ v is. let f : HasFrame (cell_at cells) machine v = (map_now cells st.grown).back machine v is in omega (arith, st.grown.inside f.cell f.some f.used, f.machine_is, le))

  pub get_found : (i : ℕ) → (cell_at cells i).used ≡ true → (cell_at cells i).machine ≡ machine → machine < machine_limit → maps.get (kept_in cells) machine ≡ Some (cell_at cells i).pfn
  get_found i used is small = there_kept cells free spare st i machine 0 used is small

  -- a machine frame that is there is found
  pub found_there : (i : ℕ) → IsSome (maps.get (kept_in cells) machine) → ((cell_at cells i).machine ≢ machine → (j : ℕ) → (cell_at cells j).used ≡ true → (cell_at cells j).machine ≢ machine) → (cell_at cells i).machine ≡ machine
  found_there i some none = elim (cases_eq (cell_at cells i).machine machine) [
    | inl e ↦ e
    | inr ne ↦ absurd (none_is_not_some (maps.get (kept_in cells) machine) (get_nothing (none ne)) some)
  ]

  pub found_free : (i : ℕ) → ((cell_at cells i).machine ≢ machine → (j : ℕ) → (cell_at cells j).used ≡ true → (cell_at cells j).machine ≢ machine) → (cell_at cells i).machine ≢ machine → IsSome (maps.get (kept_in cells) machine) → ⊥
  found_free i none ne some = ne (found_there i some none)

  pub some_begun : IsSome (maps.get (kept_in cells) machine) → 0 < length cells
  some_begun some = elim (cases_eq (length cells) 0) [
    | inl e ↦ absurd (none_is_not_some (maps.get (kept_in cells) machine) (get_empty e) some)
    | inr ne ↦ omega (arith, ne)
  ]

  pub some_small : IsSome (maps.get (kept_in cells) machine) → machine < machine_limit
  some_small some = elim (cases_lt machine machine_limit) [
    | inl lt ↦ lt
    | inr le ↦ absurd (none_is_not_some (maps.get (kept_in cells) machine) (get_outside le) some)
  ]

  pub room_begun : (maps.get (kept_in cells) machine ≡ None → 1 ≤ spare) → 0 < length cells
  room_begun room = elim (cases_eq (length cells) 0) [
    | inl e ↦ omega (arith, e, st.room, room (get_empty e))
    | inr ne ↦ omega (arith, ne)
  ]

-- ---- from no cells to a root

module _ (cells : List Cell) (e : cells ≡ []) where
  no_cell : (i : ℕ) → cell_at cells i ≡ free_cell
  no_cell i = ap (λ l. cell_at l i) e

  no_way : (m : ℕ) → next_cell (cell_at cells 0) m ≡ 0
  no_way m = ap (λ (c : Cell). next_cell c m) (no_cell 0) ∙ no_sides free_cell refl refl (bit_at m 0)

  new_grown : IsGrown (cell_at cells)
  new_grown = grown_root (cell_at cells) (ap (λ (c : Cell). c.depth) (no_cell 0)) (λ used. absurd (not_both (cell_at cells 0).used (ap (λ (c : Cell). c.used) (no_cell 0)) used)) no_way (λ i _. ap (λ (c : Cell). c.used) (no_cell i))

  pub new_kept : kept_in cells ≡ maps.empty
  unfolding collected
  new_kept = ap kept_in e

  no_length : length cells ≡ 0
  no_length = ap length e

  pub new_standing : (free : List ℕ) → IsStanding cells free 0
  new_standing free = record {
    grown = new_grown;
    begun = λ lt. absurd (omega (arith, lt, no_length));
    free_ones = record { some = λ a lt. absurd (omega (arith, lt)); there = λ a lt. absurd (omega (arith, lt)); unused = λ a lt. absurd (omega (arith, lt)); different = λ a b lt _ _. absurd (omega (arith, lt)) };
    wide = omega (arith, no_length);
    few = omega (arith, no_length);
    room = omega (arith, no_length, ap maps.len new_kept, len-empty nat_cmp ℕ);
  }

abbrev root_cell : Cell
root_cell = record { machine = 1099511627776; pfn = 0; zero = 0; one = 0; depth = 0; used = true }

module _ (cells now : List Cell) (free : List ℕ) (spare : ℕ) (st : IsStanding cells free spare) (none : length cells ≡ 0) (one_cell : length now ≡ 1) (root : cell_at now 0 ≡ root_cell) (wide : 1 ≤ length free) where
  no_other : (i : ℕ) → 0 < i → cell_at now i ≡ cell_at cells i
  no_other i lt = behind now i (omega (arith, lt, one_cell)) ∙ sym (behind cells i (omega (arith, none)))

  root_grown : IsGrown (cell_at now)
  root_grown =
      grown_root (cell_at now) (ap (λ (c : Cell). c.depth) root) (λ _. omega (arith, ap (λ (c : Cell). c.machine) root)) (λ m. ap (λ (c : Cell). next_cell c m) root ∙ no_sides root_cell refl refl (bit_at m 0))
      (λ i lt. behind_free now i (omega (arith, lt, one_cell)))

  root_kept : kept_in now ≡ kept_in cells
  root_kept = map_same (cell_at cells) (cell_at now) (kept_in cells) (kept_in now) (map_now cells st.grown) (map_now now root_grown) no_other

  pub root_now : IsStanding now free spare × (kept_in now ≡ kept_in cells)
  root_now = (
    record {
      grown = root_grown;
      begun = λ _. ap (λ (c : Cell). c.used) root;
      free_ones = same_free (cell_at cells) (cell_at now) free free spare (length cells) (length now) st.free_ones (omega (arith, none)) (λ q lt. ap (λ (c : Cell). c.used) (no_other q lt)) (λ a lt. refl);
      wide = omega (arith, wide, one_cell);
      few = omega (arith, one_cell);
      room = omega (arith, st.room, none, ap maps.len root_kept);
    },
    root_kept,
  )

-- ---- free cells more

module _ (cells now : List Cell) (free : List ℕ) (spare : ℕ) (st : IsStanding cells free spare) (same : (i : ℕ) → cell_at now i ≡ cell_at cells i) (more : length cells ≤ length now) (begun : 0 < length cells) (wide : length now ≤ length free) (few : length now ≤ 2 ^ 32) where
  more_grown : IsGrown (cell_at now)
  more_grown = grown_like (cell_at cells) (cell_at now) st.grown (λ q. like_same (cell_at cells q) (cell_at now q) (same q))

  more_kept : kept_in now ≡ kept_in cells
  more_kept = map_same (cell_at cells) (cell_at now) (kept_in cells) (kept_in now) (map_now cells st.grown) (map_now now more_grown) (λ q _. same q)

  more_now : IsStanding now free spare × (kept_in now ≡ kept_in cells)
  more_now = (
    record {
      grown = more_grown;
      begun = λ _. ap (λ (c : Cell). c.used) (same 0) ∙ st.begun begun;
      free_ones = same_free (cell_at cells) (cell_at now) free free spare (length cells) (length now) st.free_ones more (λ q _. ap (λ (c : Cell). c.used) (same q)) (λ a lt. refl);
      wide = wide;
      few = few;
      room = omega (arith, st.room, more, ap maps.len more_kept);
    },
    more_kept,
  )

-- cells of a list that was filled up with free ones
filled_up : (cells now : List Cell) (wanted : ℕ) → length now ≡ wanted → length cells ≤ wanted → ((k : ℕ) → k < length cells → cell_at now k ≡ cell_at cells k) → ((k : ℕ) → length cells ≤ k → k < wanted → cell_at now k ≡ free_cell) → (i : ℕ) → cell_at now i ≡ cell_at cells i
filled_up cells now wanted long more low high i = elim (cases_lt i (length cells)) [
  | inl lt ↦ low i lt
  | inr le ↦ elim (cases_lt i wanted) [
    | inl lt ↦ high i le lt ∙ sym (behind cells i le)
    | inr past ↦ behind now i (omega (arith, past, long)) ∙ sym (behind cells i le)
  ]
]

pub filled_now : (cells now : List Cell) (free : List ℕ) (spare : ℕ) → IsStanding cells free spare → (wanted : ℕ) → length now ≡ wanted → length cells ≤ wanted → ((k : ℕ) → k < length cells → cell_at now k ≡ cell_at cells k) → ((k : ℕ) → length cells ≤ k → k < wanted → cell_at now k ≡ free_cell)
    → 0 < length cells → wanted ≤ length free → wanted ≤ 2 ^ 32 → IsStanding now free spare × (kept_in now ≡ kept_in cells)
filled_now cells now free spare st wanted long more low high begun wide few = more_now cells now free spare st (filled_up cells now wanted long more low high) (omega (arith, long, more)) begun (omega (arith, long, wide)) (omega (arith, long, few))
