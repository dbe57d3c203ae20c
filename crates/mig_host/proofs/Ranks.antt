-- How many entries lie below a number, and the width of entries.
use Rattle.mig_host.proofs.Common.{◌≡◌, ℕ, ◌+◌, ◌<◌, ◌≤◌, Bool, true, false, cond, length, List, [], ◌∷◌, Option, Some, None, refl, sym, ap, subst, ◌∙◌, ◌⊎◌, inl, inr, arith, T, AllByRecursion, nat_cmp, is_lt, eq_by_cmp, nat_cmp_total, find, is_sorted, nat_cmp-IsAntisymmetric, get-entries, entries_sorted, below_all, cases_lt, eqb-true, none-some, FrameOf, FrameMap, rank_in, least_width, both_of, max, nat_eq, nat_lt, filter, unsigned_tied, lt-ltb, le-ltb, eqb-false}
use Rattle.mig_host.proofs.InOrder.{each_entry, nat_rises}
use Rattle.std.specs.FinMap as maps

-- 1 for a test that is passed
abbrev pub one : Bool → ℕ
one b = cond b 1 0

pub counts : (a p : ℕ) → ((a < p) × (one (nat_lt a p) ≡ 1)) ⊎ ((p ≤ a) × (one (nat_lt a p) ≡ 0))
counts a p = elim (cases_lt a p) [ inl lt ↦ inl (lt, ap one (lt-ltb a p lt)) | inr ge ↦ inr (ge, ap one (le-ltb a p ge)) ]

module _ {X : Type 0} where
  -- how many of the entries have a number below p
  abbrev pub below : ℕ → List (ℕ × X) → ℕ
  below p es = length (filter (λ e. nat_lt e.0 p) es)

  pub below_next : (p : ℕ) (e : ℕ × X) (es : List (ℕ × X)) → below p (e ∷ es) ≡ one (nat_lt e.0 p) + below p es
  below_next p e es = by (nat_lt e.0 p) (filter (λ e. nat_lt e.0 p) es)
    where
      by : (b : Bool) (l : List (ℕ × X)) → length (cond b (e ∷ l) l) ≡ one b + length l
      by true l = omega arith
      by false l = omega arith

  below_zero : (es : List (ℕ × X)) → below 0 es ≡ 0
  below_zero [] = refl
  below_zero (e ∷ es) = omega (arith, below_next 0 e es, counts e.0 0, below_zero es)

  below_most : (p : ℕ) (es : List (ℕ × X)) → below p es ≤ length es
  below_most p [] = omega arith
  below_most p (e ∷ es) = omega (arith, below_next p e es, counts e.0 p, below_most p es)

  below_more : (p q : ℕ) (es : List (ℕ × X)) → p ≤ q → below p es ≤ below q es
  below_more p q [] le = omega arith
  below_more p q (e ∷ es) le = omega (arith, below_next p e es, below_next q e es, counts e.0 p, counts e.0 q, below_more p q es le)

  -- as many lie below q as below p, where none lies between
  below_gap : (p q : ℕ) (es : List (ℕ × X)) → p ≤ q → AllByRecursion (λ (e : ℕ × X). (e.0 < p) ⊎ (q ≤ e.0)) es → below q es ≡ below p es
  below_gap p q [] le none = refl
  below_gap p q (e ∷ es) le none = omega (arith, none.0, below_next p e es, below_next q e es, counts e.0 p, counts e.0 q, below_gap p q es le none.1)

  later : (k : ℕ) (es : List (ℕ × X)) → T (below_all nat_cmp k es) → AllByRecursion (λ (e : ℕ × X). (e.0 < k) ⊎ (k + 1 ≤ e.0)) es
  later k [] below = tt
  later k (e ∷ es) below = let (first, others) = both_of (is_lt (nat_cmp k e.0)) (below_all nat_cmp k es) below in let above : k + 1 ≤ e.0 = omega (arith, nat_rises k e.0 first) in (inr above, later k es others)

  -- one more lies below the number behind an entry than below the entry
  below_step : (p : ℕ) (es : List (ℕ × X)) (v : X) → T (is_sorted nat_cmp es) → find nat_cmp p es ≡ Some v → below (p + 1) es ≡ below p es + 1
  below_step p [] v sorted is = absurd (none-some v is)
  below_step p (e ∷ es) v sorted is =
      let (first, others) = both_of (below_all nat_cmp e.0 es) (is_sorted nat_cmp es) sorted in
      by (eq_by_cmp nat_cmp p e.0) (unsigned_tied p e.0) is first (below_step p es v others)
    where
      by : (b : Bool) → b ≡ nat_eq p e.0 → cond b (Some e.1) (find nat_cmp p es) ≡ Some v → T (below_all nat_cmp e.0 es) → (find nat_cmp p es ≡ Some v → below (p + 1) es ≡ below p es + 1) → below (p + 1) (e ∷ es) ≡ below p (e ∷ es) + 1
      by true tie is above go =
          let same = eqb-true p e.0 (sym tie) in
          let rest = below_gap p (p + 1) es (omega arith) (subst (λ n. AllByRecursion (λ (e : ℕ × X). (e.0 < n) ⊎ (n + 1 ≤ e.0)) es) (sym same) (later e.0 es above)) in
          omega (arith, same, rest, below_next p e es, below_next (p + 1) e es, counts e.0 p, counts e.0 (p + 1))
      by false tie is above go =
          let apart = eqb-false p e.0 (sym tie) in
          omega (arith, apart, go is, below_next p e es, below_next (p + 1) e es, counts e.0 p, counts e.0 (p + 1))

  width_inside : (p : ℕ) (es : List (ℕ × X)) (v : X) → find nat_cmp p es ≡ Some v → p < least_width es
  width_inside p [] v is = absurd (none-some v is)
  width_inside p (e ∷ es) v is = by (eq_by_cmp nat_cmp p e.0) (unsigned_tied p e.0) is (width_inside p es v)
    where
      by : (b : Bool) → b ≡ nat_eq p e.0 → cond b (Some e.1) (find nat_cmp p es) ≡ Some v → (find nat_cmp p es ≡ Some v → p < least_width es) → p < max (e.0 + 1) (least_width es)
      by true tie is go = omega (arith, eqb-true p e.0 (sym tie))
      by false tie is go = omega (arith, go is)

  width_least : (p : ℕ) (es : List (ℕ × X)) → AllByRecursion (λ (e : ℕ × X). e.0 < p) es → least_width es ≤ p
  width_least p [] all = omega arith
  width_least p (e ∷ es) all = omega (arith, all.0, width_least p es all.1)

-- ---- the frames of a guest

module _ (frames : FrameMap) where
  abbrev es : List (ℕ × FrameOf)
  es = maps.entries frames

  found : (p : ℕ) (f : FrameOf) → maps.get frames p ≡ Some f → find nat_cmp p es ≡ Some f
  found p f is = sym (get-entries frames p) ∙ is

  pub rank_zero : rank_in frames 0 ≡ 0
  rank_zero = below_zero es

  pub rank_step : (p : ℕ) (f : FrameOf) → maps.get frames p ≡ Some f → rank_in frames (p + 1) ≡ rank_in frames p + 1
  rank_step p f is = below_step p es f (entries_sorted frames) (found p f is)

  pub rank_strict : (p q : ℕ) (f : FrameOf) → p < q → maps.get frames p ≡ Some f → rank_in frames p < rank_in frames q
  rank_strict p q f lt is = omega (arith, rank_step p f is, below_more (p + 1) q es (omega (arith, lt)))

  pub rank_gap : (p q : ℕ) → p ≤ q → ((k : ℕ) → p ≤ k → k < q → maps.get frames k ≡ None) → rank_in frames q ≡ rank_in frames p
  rank_gap p q le none = below_gap p q es le (each_entry nat_cmp_total nat_cmp-IsAntisymmetric (λ k _. (k < p) ⊎ (q ≤ k)) frames (λ k f is.
      elim (cases_lt k p) [
        | inl lt ↦ inl lt
        | inr from ↦ elim (cases_lt k q) [ inl lt ↦ absurd (none-some f (sym (none k from lt) ∙ is)) | inr ge ↦ inr ge ]
      ]))

  -- the rank of a frame is below the number of frames
  pub rank_small : (p : ℕ) (f : FrameOf) → maps.get frames p ≡ Some f → rank_in frames p < length es
  rank_small p f is = omega (arith, rank_step p f is, below_most (p + 1) es)

  -- where all frames lie below a number, none lies above it
  pub rank_full : (p : ℕ) → rank_in frames p ≡ length es → (k : ℕ) → p ≤ k → maps.get frames k ≡ None
  rank_full p full k from = by (maps.get frames k) refl
    where
      by : (o : Option FrameOf) → maps.get frames k ≡ o → o ≡ None
      by None is = refl
      by (Some f) is = absurd (omega (arith, full, rank_small k f is, below_more p k es from))

  pub frame_inside : (p : ℕ) (f : FrameOf) → maps.get frames p ≡ Some f → p < least_width es
  frame_inside p f is = width_inside p es f (found p f is)

  pub width_within : (n : ℕ) → ((k : ℕ) (f : FrameOf) → maps.get frames k ≡ Some f → k < n) → least_width es ≤ n
  width_within n small = width_least n es (each_entry nat_cmp_total nat_cmp-IsAntisymmetric (λ k _. k < n) frames small)

  pub frames_inside : (p : ℕ) → ((k : ℕ) → p ≤ k → maps.get frames k ≡ None) → least_width es ≤ p
  frames_inside p none = width_within p (λ k f is. elim (cases_lt k p) [ inl lt ↦ lt | inr ge ↦ absurd (none-some f (sym (none k ge) ∙ is)) ])
