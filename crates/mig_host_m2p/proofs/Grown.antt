-- A tree of cells stays one where a cell is hung below another, where a leaf is lifted out, and where PFNs change.
use Rattle.mig_host_m2p.proofs.Common.{◌≡◌, ◌≢◌, ◌⊎◌, ℕ, zero, suc, ◌+◌, ◌<◌, ◌≤◌, Bool, true, false, sym, ap, subst, ◌∙◌, inl, inr, arith, cases_eq, bit_at, Cell, Agree, HasAbove, IsNext, IsGrown, below_on, next_cell, machine_limit}
use Rattle.mig_host_m2p.proofs.Ways.{not_root, next_is}

pub not_both : (b : Bool) → b ≡ false → b ≡ true → ⊥
not_both b non aye = let e : false ≡ true = sym non ∙ aye in cc

pub same_below : (c e : Cell) → e.zero ≡ c.zero → e.one ≡ c.one → (b : ℕ) → below_on e b ≡ below_on c b
unfolding below_on
same_below c e z o zero = z
same_below c e z o (suc b) = o

-- a way goes on as it did, where depths stay, and bits as far as they lead
next_stays : (c e d f : Cell) (machine : ℕ) → IsNext c machine e → f.used ≡ e.used → d.depth ≡ c.depth → f.depth ≡ e.depth → Agree c.depth d.machine c.machine → Agree e.depth f.machine e.machine → IsNext d machine f
next_stays c e d f machine next used deep deeper front far = record {
  used = used ∙ next.used;
  depth = omega (arith, deep, deeper, next.depth);
  agrees = λ k lt. far k (omega (arith, lt, deep, next.depth)) ∙ next.agrees k (omega (arith, lt, deep)) ∙ sym (front k (omega (arith, lt, deep)));
  side = far d.depth (omega (arith, deep, next.depth)) ∙ subst (λ x. bit_at e.machine x ≡ bit_at machine x) (sym deep) next.side;
}

-- ---- the same but for PFNs

pub record IsLike (c e : Cell) : Type 0 where
  pub used : e.used ≡ c.used
  pub machine : e.machine ≡ c.machine
  pub depth : e.depth ≡ c.depth
  pub zero_side : e.zero ≡ c.zero
  pub one_side : e.one ≡ c.one

pub like_same : (c e : Cell) → e ≡ c → IsLike c e
like_same c e is = record {
  used = ap (λ (x : Cell). x.used) is;
  machine = ap (λ (x : Cell). x.machine) is;
  depth = ap (λ (x : Cell). x.depth) is;
  zero_side = ap (λ (x : Cell). x.zero) is;
  one_side = ap (λ (x : Cell). x.one) is;
}

pub onward_like : (c e : Cell) → IsLike c e → (machine : ℕ) → next_cell e machine ≡ next_cell c machine
onward_like c e l machine = same_below c e l.zero_side l.one_side (bit_at machine e.depth) ∙ ap (λ d. below_on c (bit_at machine d)) l.depth

module _ (at now : ℕ → Cell) (g : IsGrown at) (like : (q : ℕ) → IsLike (at q) (now q)) where
  was : (q : ℕ) → (now q).used ≡ true → (at q).used ≡ true
  was q used = sym (like q).used ∙ used

  like_next : (i machine : ℕ) → (now i).used ≡ true → 0 < next_cell (now i) machine → IsNext (now i) machine (now (next_cell (now i) machine))
  like_next i machine used some =
      let on = onward_like (at i) (now i) (like i) machine in
      let next : IsNext (at i) machine (at (next_cell (now i) machine)) = next_is at g i machine (next_cell (now i) machine) (was i used) (sym on) some in
      let j = next_cell (now i) machine in
      next_stays (at i) (at j) (now i) (now j) machine next (like j).used (like i).depth (like j).depth (λ k _. ap (λ m. bit_at m k) (like i).machine) (λ k _. ap (λ m. bit_at m k) (like j).machine)

  like_above : (j : ℕ) → 0 < j → (now j).used ≡ true → HasAbove now j
  like_above j some used =
      let a : HasAbove at j = g.up j some (was j used) in
      record { cell = a.cell; used = (like a.cell).used ∙ a.used; leads = onward_like (at a.cell) (now a.cell) (like a.cell) (now j).machine ∙ ap (next_cell (at a.cell)) (like j).machine ∙ a.leads }

  pub grown_like : IsGrown now
  grown_like = record {
    root = (like 0).depth ∙ g.root;
    outside = λ used. omega (arith, (like 0).machine, g.outside (was 0 used));
    inside = λ i some used. omega (arith, (like i).machine, g.inside i some (was i used));
    low = λ i used. omega (arith, (like i).depth, g.low i (was i used));
    down = like_next;
    up = like_above;
    apart = λ i j used_i used_j deep same. g.apart i j (was i used_i) (was j used_j) (sym (like i).depth ∙ deep ∙ (like j).depth)
        (λ k lt. ap (λ m. bit_at m k) (sym (like i).machine) ∙ same k (omega (arith, lt, (like i).depth)) ∙ ap (λ m. bit_at m k) (like j).machine);
    sole = λ i j used_i used_j same. g.sole i j (was i used_i) (was j used_j) (sym (like i).machine ∙ same ∙ (like j).machine);
  }

-- ---- a cell more

-- cell n, which was free, hangs below cell p, where the way to a machine frame ended
pub record Hung (at now : ℕ → Cell) (p n machine pfn : ℕ) : Type 0 where
  pub here : now n ≡ record { machine = machine; pfn = pfn; zero = 0; one = 0; depth = (at p).depth + 1; used = true }
  pub leads : next_cell (now p) machine ≡ n
  pub used : (q : ℕ) → q ≢ n → (now q).used ≡ (at q).used
  pub machines : (q : ℕ) → q ≢ n → (now q).machine ≡ (at q).machine
  pub pfns : (q : ℕ) → q ≢ n → (now q).pfn ≡ (at q).pfn
  pub depth : (q : ℕ) → q ≢ n → (now q).depth ≡ (at q).depth
  pub still : (q other : ℕ) → q ≢ n → (q ≡ p → bit_at other (at p).depth ≡ bit_at machine (at p).depth → ⊥) → next_cell (now q) other ≡ next_cell (at q) other

module _ (at now : ℕ → Cell) (g : IsGrown at) (p n machine pfn : ℕ) (h : Hung at now p n machine pfn) (used_p : (at p).used ≡ true) (same : Agree (at p).depth (at p).machine machine)
    (room : (at p).depth < 40) (ends : next_cell (at p) machine ≡ 0) (none : (j : ℕ) → (at j).used ≡ true → (at j).machine ≢ machine) (some : 0 < n) (free : (at n).used ≡ false) (small : machine < machine_limit) where
  old : (q : ℕ) → q ≢ n → (now q).used ≡ true → (at q).used ≡ true
  old q ne used = sym (h.used q ne) ∙ used

  other : (q : ℕ) → (at q).used ≡ true → q ≢ n
  other q used e = not_both (at n).used free (subst (λ k. (at k).used ≡ true) e used)

  machine_here : (now n).machine ≡ machine
  machine_here = ap (λ (c : Cell). c.machine) h.here

  depth_here : (now n).depth ≡ (at p).depth + 1
  depth_here = ap (λ (c : Cell). c.depth) h.here

  nothing_below : (b : ℕ) → below_on (now n) b ≡ 0
  unfolding below_on
  nothing_below zero = ap (λ (c : Cell). c.zero) h.here
  nothing_below (suc b) = ap (λ (c : Cell). c.one) h.here

  -- the way to a number goes on as it did, or it is the new one
  goes : (q m : ℕ) → q ≢ n → ((q ≡ p) × (bit_at m (at p).depth ≡ bit_at machine (at p).depth)) ⊎ (next_cell (now q) m ≡ next_cell (at q) m)
  goes q m ne = elim (cases_eq q p) [
    | inl is ↦ elim (cases_eq (bit_at m (at p).depth) (bit_at machine (at p).depth)) [ inl e ↦ inl (is, e) | inr non ↦ inr (h.still q m ne (λ _ e. non e)) ]
    | inr non ↦ inr (h.still q m ne (λ e _. non e))
  ]

  -- the way to a number goes on from p to the new cell
  to_new : (m : ℕ) → bit_at m (at p).depth ≡ bit_at machine (at p).depth → IsNext (now p) m (now n)
  to_new m side =
      let ne = other p used_p in
      record {
        used = ap (λ (c : Cell). c.used) h.here;
        depth = omega (arith, depth_here, h.depth p ne);
        agrees = λ k lt. ap (λ x. bit_at x k) machine_here ∙ sym (same k (omega (arith, lt, h.depth p ne))) ∙ ap (λ x. bit_at x k) (sym (h.machines p ne));
        side = ap (λ x. bit_at x (now p).depth) machine_here ∙ subst (λ d. bit_at machine d ≡ bit_at m d) (sym (h.depth p ne)) (sym side);
      }

  still_next : (q m : ℕ) → q ≢ n → (now q).used ≡ true → next_cell (now q) m ≡ next_cell (at q) m → 0 < next_cell (now q) m → IsNext (now q) m (now (next_cell (now q) m))
  still_next q m ne used e lt =
      let j = next_cell (now q) m in
      let next : IsNext (at q) m (at j) = next_is at g q m j (old q ne used) (sym e) lt in
      let ne_j = other j next.used in
      next_stays (at q) (at j) (now q) (now j) m next (h.used j ne_j) (h.depth q ne) (h.depth j ne_j) (λ k _. ap (λ x. bit_at x k) (h.machines q ne)) (λ k _. ap (λ x. bit_at x k) (h.machines j ne_j))

  hung_next : (q m : ℕ) → (now q).used ≡ true → 0 < next_cell (now q) m → IsNext (now q) m (now (next_cell (now q) m))
  hung_next q m used lt = by (cases_eq q n)
    where
      on : (q ≢ n) → ((q ≡ p) × (bit_at m (at p).depth ≡ bit_at machine (at p).depth)) ⊎ (next_cell (now q) m ≡ next_cell (at q) m) → IsNext (now q) m (now (next_cell (now q) m))
      on ne (inl (e, side)) =
          let d : (now q).depth ≡ (at p).depth = h.depth q ne ∙ ap (λ k. (at k).depth) e in
          let leads : next_cell (now q) m ≡ n =
          ap (λ k. below_on (now q) (bit_at m k)) d ∙ ap (below_on (now q)) side ∙ ap (λ k. below_on (now q) (bit_at machine k)) (sym d)
          ∙ ap (λ k. next_cell (now k) machine) e ∙ h.leads in
          subst (λ k. IsNext (now q) m (now k)) (sym leads) (subst (λ k. IsNext (now k) m (now n)) (sym e) (to_new m side))
      on ne (inr e) = still_next q m ne used e lt

      by : (q ≡ n) ⊎ (q ≢ n) → IsNext (now q) m (now (next_cell (now q) m))
      by (inl e) = let non : next_cell (now q) m ≡ 0 = ap (λ k. below_on (now k) (bit_at m (now q).depth)) e ∙ nothing_below (bit_at m (now q).depth) in absurd (omega (arith, non, lt))
      by (inr ne) = on ne (goes q m ne)

  hung_above : (j : ℕ) → 0 < j → (now j).used ≡ true → HasAbove now j
  hung_above j lt used = by (cases_eq j n)
    where
      kept : (j ≢ n) → (a : HasAbove at j) → ((a.cell ≡ p) × (bit_at (at j).machine (at p).depth ≡ bit_at machine (at p).depth)) ⊎ (next_cell (now a.cell) (at j).machine ≡ next_cell (at a.cell) (at j).machine) → HasAbove now j
      kept ne a (inl (e, side)) =
          let non : j ≡ 0 = sym a.leads ∙ ap (λ k. next_cell (at k) (at j).machine) e ∙ ap (below_on (at p)) side ∙ ends in
          absurd (omega (arith, non, lt))
      kept ne a (inr e) =
          record { cell = a.cell; used = h.used a.cell (other a.cell a.used) ∙ a.used; leads = ap (next_cell (now a.cell)) (h.machines j ne) ∙ e ∙ a.leads }

      by : (j ≡ n) ⊎ (j ≢ n) → HasAbove now j
      by (inl e) = record { cell = p; used = h.used p (other p used_p) ∙ used_p; leads = ap (λ k. next_cell (now p) (now k).machine) e ∙ ap (next_cell (now p)) machine_here ∙ h.leads ∙ sym e }
      by (inr ne) = let a : HasAbove at j = g.up j lt (old j ne used) in kept ne a (goes a.cell (at j).machine (other a.cell a.used))

  -- non other cell has the place of the new one
  alone : (j : ℕ) → j ≢ n → (now j).used ≡ true → (now n).depth ≡ (now j).depth → Agree (now n).depth (now n).machine (now j).machine → ⊥
  alone j ne used deep agrees =
      let used_j = old j ne used in
      let deep_j : (at j).depth ≡ (at p).depth + 1 = omega (arith, deep, depth_here, h.depth j ne) in
      let lt : 0 < j = not_root at g j (omega (arith, deep_j)) in
      let a : HasAbove at j = g.up j lt used_j in
      let next : IsNext (at a.cell) (at j).machine (at j) = next_is at g a.cell (at j).machine j a.used a.leads lt in
      let deep_a : (at a.cell).depth ≡ (at p).depth = omega (arith, next.depth, deep_j) in
      let bits : (k : ℕ) → k < (at p).depth + 1 → bit_at machine k ≡ bit_at (at j).machine k =
      λ k l. ap (λ x. bit_at x k) (sym machine_here) ∙ agrees k (omega (arith, l, depth_here)) ∙ ap (λ x. bit_at x k) (h.machines j ne) in
      let is : a.cell ≡ p = g.apart a.cell p a.used used_p deep_a (λ k l. sym (next.agrees k l) ∙ sym (bits k (omega (arith, l, deep_a))) ∙ sym (same k (omega (arith, l, deep_a)))) in
      let non : j ≡ 0 = sym a.leads ∙ ap (λ k. next_cell (at k) (at j).machine) is ∙ ap (below_on (at p)) (sym (bits (at p).depth (omega arith))) ∙ ends in
      omega (arith, non, lt)

  hung_apart : (i j : ℕ) → (now i).used ≡ true → (now j).used ≡ true → (now i).depth ≡ (now j).depth → Agree (now i).depth (now i).machine (now j).machine → i ≡ j
  hung_apart i j used_i used_j deep agrees = by (cases_eq i n) (cases_eq j n)
    where
      by : (i ≡ n) ⊎ (i ≢ n) → (j ≡ n) ⊎ (j ≢ n) → i ≡ j
      by (inl e) (inl f) = e ∙ sym f
      by (inl e) (inr f) = absurd (alone j f used_j (subst (λ k. (now k).depth ≡ (now j).depth) e deep) (subst (λ k. Agree (now k).depth (now k).machine (now j).machine) e agrees))
      by (inr e) (inl f) =
          absurd (alone i e used_i (subst (λ k. (now k).depth ≡ (now i).depth) f (sym deep)) (subst (λ k. Agree (now k).depth (now k).machine (now i).machine) f (λ k l. sym (agrees k (omega (arith, l, deep))))))
      by (inr e) (inr f) =
          g.apart i j (old i e used_i) (old j f used_j) (sym (h.depth i e) ∙ deep ∙ h.depth j f)
          (λ k l. ap (λ x. bit_at x k) (sym (h.machines i e)) ∙ agrees k (omega (arith, l, h.depth i e)) ∙ ap (λ x. bit_at x k) (h.machines j f))

  hung_sole : (i j : ℕ) → (now i).used ≡ true → (now j).used ≡ true → (now i).machine ≡ (now j).machine → i ≡ j
  hung_sole i j used_i used_j e = by (cases_eq i n) (cases_eq j n)
    where
      new : (k q : ℕ) → k ≡ n → q ≢ n → (now q).used ≡ true → (now k).machine ≡ (now q).machine → ⊥
      new k q is ne used f = none q (old q ne used) (sym (h.machines q ne) ∙ sym f ∙ ap (λ x. (now x).machine) is ∙ machine_here)

      by : (i ≡ n) ⊎ (i ≢ n) → (j ≡ n) ⊎ (j ≢ n) → i ≡ j
      by (inl a) (inl b) = a ∙ sym b
      by (inl a) (inr b) = absurd (new i j a b used_j e)
      by (inr a) (inl b) = absurd (new j i b a used_i (sym e))
      by (inr a) (inr b) = g.sole i j (old i a used_i) (old j b used_j) (sym (h.machines i a) ∙ e ∙ h.machines j b)

  hung_low : (i : ℕ) → (now i).used ≡ true → (now i).depth ≤ 40
  hung_low i used = elim (cases_eq i n) [
    | inl e ↦ let d = ap (λ k. (now k).depth) e in omega (arith, d, depth_here, room)
    | inr ne ↦ omega (arith, h.depth i ne, g.low i (old i ne used))
  ]

  hung_inside : (i : ℕ) → 0 < i → (now i).used ≡ true → (now i).machine < machine_limit
  hung_inside i lt used = elim (cases_eq i n) [
    | inl e ↦ let d = ap (λ k. (now k).machine) e in omega (arith, d, machine_here, small)
    | inr ne ↦ omega (arith, h.machines i ne, g.inside i lt (old i ne used))
  ]

  pub grown_hung : IsGrown now
  grown_hung =
      let not : 0 ≢ n = λ e. omega (arith, e, some) in
      record {
        root = h.depth 0 not ∙ g.root;
        outside = λ used. omega (arith, h.machines 0 not, g.outside (old 0 not used));
        inside = hung_inside;
        low = hung_low;
        down = hung_next;
        up = hung_above;
        apart = hung_apart;
        sole = hung_sole;
      }

-- ---- a cell less

-- leaf l is taken out, and what it had stands in cell i
pub record Lifted (at now : ℕ → Cell) (i l : ℕ) : Type 0 where
  pub gone : (now l).used ≡ false
  pub used : (q : ℕ) → q ≢ l → (now q).used ≡ (at q).used
  pub depth : (q : ℕ) → q ≢ l → (now q).depth ≡ (at q).depth
  pub machines : (q : ℕ) → q ≢ l → q ≢ i → (now q).machine ≡ (at q).machine
  pub pfns : (q : ℕ) → q ≢ l → q ≢ i → (now q).pfn ≡ (at q).pfn
  pub machine : i ≢ l → (now i).machine ≡ (at l).machine
  pub pfn : i ≢ l → (now i).pfn ≡ (at l).pfn
  pub kept : (q m : ℕ) → q ≢ l → (at q).used ≡ true → next_cell (at q) m ≢ l → next_cell (now q) m ≡ next_cell (at q) m
  pub cut : (q m : ℕ) → q ≢ l → (at q).used ≡ true → next_cell (at q) m ≡ l → next_cell (now q) m ≡ 0

module _ (at now : ℕ → Cell) (g : IsGrown at) (i l : ℕ) (h : Lifted at now i l) (some_i : 0 < i) (used_i : (at i).used ≡ true) (some : 0 < l) (used_l : (at l).used ≡ true)
    (ends : (m : ℕ) → next_cell (at l) m ≡ 0) (same : Agree (at i).depth (at l).machine (at i).machine) where
  left : (q : ℕ) → (now q).used ≡ true → q ≢ l
  left q used e = not_both (now l).used h.gone (subst (λ k. (now k).used ≡ true) e used)

  before : (q : ℕ) → (now q).used ≡ true → (at q).used ≡ true
  before q used = sym (h.used q (left q used)) ∙ used

  -- the lowest bits, as far as they lead, are the same
  bits : (q : ℕ) → q ≢ l → Agree (at q).depth (now q).machine (at q).machine
  bits q ne k lt = elim (cases_eq q i) [
    | inl e ↦ ap (λ x. bit_at (now x).machine k) e ∙ ap (λ x. bit_at x k) (h.machine (λ f. ne (e ∙ f))) ∙ same k (subst (λ x. k < (at x).depth) e lt) ∙ ap (λ x. bit_at (at x).machine k) (sym e)
    | inr non ↦ ap (λ x. bit_at x k) (h.machines q ne non)
  ]

  lifted_next : (q m : ℕ) → (now q).used ≡ true → 0 < next_cell (now q) m → IsNext (now q) m (now (next_cell (now q) m))
  lifted_next q m used lt = by (cases_eq (next_cell (at q) m) l)
    where
      ne : q ≢ l
      ne = left q used

      by : (next_cell (at q) m ≡ l) ⊎ (next_cell (at q) m ≢ l) → IsNext (now q) m (now (next_cell (now q) m))
      by (inl e) = absurd (omega (arith, h.cut q m ne (before q used) e, lt))
      by (inr non) =
          let j = next_cell (now q) m in
          let on : j ≡ next_cell (at q) m = h.kept q m ne (before q used) non in
          let ne_j : j ≢ l = λ e. non (sym on ∙ e) in
          let next : IsNext (at q) m (at j) = next_is at g q m j (before q used) (sym on) lt in
          next_stays (at q) (at j) (now q) (now j) m next (h.used j ne_j) (h.depth q ne) (h.depth j ne_j) (bits q ne) (bits j ne_j)

  lifted_above : (j : ℕ) → 0 < j → (now j).used ≡ true → HasAbove now j
  lifted_above j lt used =
      let ne : j ≢ l = left j used in
      let a : HasAbove at j = g.up j lt (before j used) in
      let next : IsNext (at a.cell) (at j).machine (at j) = next_is at g a.cell (at j).machine j a.used a.leads lt in
      let ne_a : a.cell ≢ l = λ e. let non : j ≡ 0 = sym a.leads ∙ ap (λ k. next_cell (at k) (at j).machine) e ∙ ends (at j).machine in omega (arith, non, lt) in
      let leads : next_cell (at a.cell) (now j).machine ≡ j = ap (below_on (at a.cell)) (bits j ne (at a.cell).depth (omega (arith, next.depth))) ∙ a.leads in
      record { cell = a.cell; used = h.used a.cell ne_a ∙ a.used; leads = h.kept a.cell (now j).machine ne_a a.used (λ e. ne (sym leads ∙ e)) ∙ leads }

  lifted_sole : (p q : ℕ) → (now p).used ≡ true → (now q).used ≡ true → (now p).machine ≡ (now q).machine → p ≡ q
  lifted_sole p q used_p used_q e = by (cases_eq p i) (cases_eq q i)
    where
      -- what stands in i was in l alone
      moved : (x y : ℕ) → x ≡ i → y ≢ i → (now x).used ≡ true → (now y).used ≡ true → (now x).machine ≡ (now y).machine → ⊥
      moved x y is non used_x used_y f =
          left y used_y (g.sole y l (before y used_y) used_l (sym (h.machines y (left y used_y) non) ∙ sym f ∙ ap (λ k. (now k).machine) is ∙ h.machine (λ k. left x used_x (is ∙ k))))

      by : (p ≡ i) ⊎ (p ≢ i) → (q ≡ i) ⊎ (q ≢ i) → p ≡ q
      by (inl a) (inl b) = a ∙ sym b
      by (inl a) (inr b) = absurd (moved p q a b used_p used_q e)
      by (inr a) (inl b) = absurd (moved q p b a used_q used_p (sym e))
      by (inr a) (inr b) = g.sole p q (before p used_p) (before q used_q) (sym (h.machines p (left p used_p) a) ∙ e ∙ h.machines q (left q used_q) b)

  lifted_inside : (q : ℕ) → 0 < q → (now q).used ≡ true → (now q).machine < machine_limit
  lifted_inside q lt used = elim (cases_eq q i) [
    | inl e ↦ let f = ap (λ k. (now k).machine) e ∙ h.machine (λ k. left q used (e ∙ k)) in omega (arith, f, g.inside l some used_l)
    | inr non ↦ omega (arith, h.machines q (left q used) non, g.inside q lt (before q used))
  ]

  pub grown_lifted : IsGrown now
  grown_lifted =
      let not : 0 ≢ l = λ e. omega (arith, e, some) in
      let not_i : 0 ≢ i = λ e. omega (arith, e, some_i) in
      record {
        root = h.depth 0 not ∙ g.root;
        outside = λ used. omega (arith, h.machines 0 not not_i, g.outside (before 0 used));
        inside = lifted_inside;
        low = λ q used. omega (arith, h.depth q (left q used), g.low q (before q used));
        down = lifted_next;
        up = lifted_above;
        apart = λ p q used_p used_q deep agrees. g.apart p q (before p used_p) (before q used_q) (sym (h.depth p (left p used_p)) ∙ deep ∙ h.depth q (left q used_q))
            (λ k low.
            let deep_p = h.depth p (left p used_p) in let deep_q = h.depth q (left q used_q) in
            sym (bits p (left p used_p) k low) ∙ agrees k (omega (arith, low, deep_p)) ∙ bits q (left q used_q) k (omega (arith, low, deep_p, deep_q, deep)));
        sole = lifted_sole;
      }
