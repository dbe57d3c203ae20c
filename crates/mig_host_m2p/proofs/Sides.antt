-- The two sides of a cell.
use Rattle.mig_host_m2p.proofs.Common.{◌≡◌, ℕ, zero, suc, ◌<◌, refl, ap, ◌∙◌, arith, bit_at, Cell, below_on, led_on, led, next_cell, bit_at-lt}

module _ (c : Cell) where
  pub zero_below : (b : ℕ) → b ≡ 0 → c.zero ≡ below_on c b
  unfolding below_on
  zero_below zero e = refl
  zero_below (suc b) e = absurd (omega (arith, e))

  pub one_below : (b : ℕ) → (b ≡ 0 → ⊥) → c.one ≡ below_on c b
  unfolding below_on
  one_below zero non = absurd (non refl)
  one_below (suc b) non = refl

  pub led_zero : (b to : ℕ) → b ≡ 0 → record c { zero = to } ≡ led_on c b to
  unfolding led_on
  led_zero zero to e = refl
  led_zero (suc b) to e = absurd (omega (arith, e))

  pub led_one : (b to : ℕ) → (b ≡ 0 → ⊥) → record c { one = to } ≡ led_on c b to
  unfolding led_on
  led_one zero to non = absurd (non refl)
  led_one (suc b) to non = refl

  pub led_here : (b to : ℕ) → below_on (led_on c b to) b ≡ to
  unfolding below_on led_on
  led_here zero to = refl
  led_here (suc b) to = refl

  pub led_other : (a b to : ℕ) → a < 2 → b < 2 → (a ≡ b → ⊥) → below_on (led_on c b to) a ≡ below_on c a
  unfolding below_on led_on
  led_other zero zero to lt_a lt_b ne = absurd (ne refl)
  led_other zero (suc b) to lt_a lt_b ne = refl
  led_other (suc a) zero to lt_a lt_b ne = refl
  led_other (suc a) (suc b) to lt_a lt_b ne = absurd (ne (omega (arith, lt_a, lt_b)))

  -- what no side is part of stays
  pub led_same : {X : Type 0} (f : Cell → X) → ((z o : ℕ) → f (record c { zero = z; one = o }) ≡ f c) → (b to : ℕ) → f (led_on c b to) ≡ f c
  unfolding led_on
  led_same f same zero to = same to c.one
  led_same f same (suc b) to = same c.zero to

-- where the way to a number leads after the way to another was changed
module _ (c : Cell) (machine to m : ℕ) where
  abbrev l : Cell
  l = led c machine to

  at_depth : next_cell l m ≡ below_on l (bit_at m c.depth)
  at_depth = ap (λ d. below_on l (bit_at m d)) (led_same c (λ (x : Cell). x.depth) (λ z o. refl) (bit_at machine c.depth) to)

  pub leads_now : bit_at m c.depth ≡ bit_at machine c.depth → next_cell l m ≡ to
  leads_now e = at_depth ∙ ap (below_on l) e ∙ led_here c (bit_at machine c.depth) to

  pub leads_still : (bit_at m c.depth ≡ bit_at machine c.depth → ⊥) → next_cell l m ≡ next_cell c m
  leads_still ne = at_depth ∙ led_other c (bit_at m c.depth) (bit_at machine c.depth) to (bit_at-lt m c.depth) (bit_at-lt machine c.depth) ne
