-- Numbers of 8 bytes changed one by one.
use Rattle.mig_pvtables.proofs.Common.{Bool, true, false, ◌≡◌, ◌≢◌, ℕ, ◌+◌, ◌*◌, ◌^◌, ◌<◌, List, length, get_or, cond, sym, ap, subst, ◌∙◌, inl, inr, arith, cases_lt, cases_eq, lt-ltb, le-ltb, nat_lt, long_at, each_long, long_of_longs, each_stays, put_long, little_bytes, with_field, Bytes, bytes_from, long_below, same_longs}

-- ---- all numbers changed

module _ (n : ℕ) (g : ℕ → ℕ → ℕ) (bytes : List ℕ) (small : (i : ℕ) → i < n → g i (long_at bytes i) < 2 ^ 64) where
  pub long_of_each : (i : ℕ) → i < n → long_at (each_long n g bytes) i ≡ g i (long_at bytes i)
  long_of_each i lt = long_of_longs n (λ i. g i (long_at bytes i)) i lt (small i lt)

  -- and changed again
  pub each_twice : (f : ℕ → ℕ → ℕ) → each_long n f (each_long n g bytes) ≡ each_long n (λ i e. f i (g i e)) bytes
  each_twice f = same_longs n _ _ (λ i lt. ap (f i) (long_of_each i lt))

-- ---- the numbers of some places changed

-- the number of one place more is changed: of i
pub record OneMore (i : ℕ) (some more : ℕ → Bool) : Type 0 where
  pub before : some i ≡ false
  pub after : more i ≡ true
  pub others : (j : ℕ) → j ≢ i → some j ≡ more j

-- the numbers are those of bytes, of which f changes some
pub record ChangedWhere (n : ℕ) (f : ℕ → ℕ → ℕ) (bytes : List ℕ) (some : ℕ → Bool) (now : List ℕ) : Type 0 where
  pub all : Bytes bytes
  pub size : length bytes ≡ 8 * n
  pub done : now ≡ each_long n (λ i e. cond (some i) (f i e) e) bytes

module _ {n : ℕ} {f : ℕ → ℕ → ℕ} {bytes : List ℕ} {some : ℕ → Bool} where
  pub none_changed : ((i : ℕ) → get_or bytes i 0 < 256) → length bytes ≡ 8 * n → ((i : ℕ) → some i ≡ false) → ChangedWhere n f bytes some bytes
  none_changed fits size none =
      let all = bytes_from bytes fits in
      record { all = all; size = size; done = sym (each_stays n (λ i e. cond (some i) (f i e) e) bytes all size (λ i lt. ap (λ b. cond b (f i (long_at bytes i)) (long_at bytes i)) (none i))) }

  module _ {now : List ℕ} (is : ChangedWhere n f bytes some now) where
    pub all_changed : ((i : ℕ) → i < n → cond (some i) (f i (long_at bytes i)) (long_at bytes i) ≡ f i (long_at bytes i)) → now ≡ each_long n f bytes
    all_changed all = is.done ∙ same_longs n _ _ all

    -- a number that isn't changed yet is what it was
    pub still : (i : ℕ) → i < n → some i ≡ false → long_at now i ≡ long_at bytes i
    still i lt un =
        let here = ap (λ b. cond b (f i (long_at bytes i)) (long_at bytes i)) un in
        ap (λ l. long_at l i) is.done ∙ long_of_longs n (λ i. cond (some i) (f i (long_at bytes i)) (long_at bytes i)) i lt (subst (λ e. e < 2 ^ 64) (sym here) (long_below (8 * i) bytes is.all)) ∙ here

    module _ {i : ℕ} {more : ℕ → Bool} (lt : i < n) (step : OneMore i some more) where
      abbrev as_told : ℕ → Bool → ℕ
      as_told j b = cond b (f j (long_at bytes j)) (long_at bytes j)

      -- the next one is written
      pub one_changed : {new : List ℕ} {x : ℕ} → new ≡ with_field now (8 * i) (little_bytes 8 x) → x ≡ f i (long_at bytes i) → ChangedWhere n f bytes more new
      one_changed {x = x} put told = record {
        all = is.all;
        size = is.size;
        done = put ∙ (λ k. with_field (is.done k) (8 * i) (little_bytes 8 ((told ∙ sym (ap (as_told i) step.after)) k)))
            ∙ put_long n (λ j. as_told j (some j)) (λ j. as_told j (more j)) i lt (λ j less ne. ap (as_told j) (step.others j ne));
      }

      -- or it stays
      pub one_stays : {new : List ℕ} → new ≡ now → f i (long_at bytes i) ≡ long_at bytes i → ChangedWhere n f bytes more new
      one_stays same stays = record {
        all = is.all;
        size = is.size;
        done = same ∙ is.done ∙ same_longs n _ _ (λ j less. elim (cases_eq j i) [
          | inl e ↦ subst (λ k. as_told k (some k) ≡ as_told k (more k)) (sym e) (ap (as_told i) step.before ∙ sym stays ∙ sym (ap (as_told i) step.after))
          | inr ne ↦ ap (as_told j) (step.others j ne)
        ]);
      }

-- ---- from the first place on

abbrev pub below : ℕ → ℕ → Bool
below n i = nat_lt i n

pub none_below : (i : ℕ) → below 0 i ≡ false
none_below i = le-ltb i 0 (omega arith)

pub one_more_below : (n i : ℕ) → (i ≡ n → ⊥) → below n i ≡ below (n + 1) i
one_more_below n i ne = elim (cases_lt i n) [
  | inl lt ↦ lt-ltb i n lt ∙ sym (lt-ltb i (n + 1) (omega (arith, lt)))
  | inr ge ↦ le-ltb i n ge ∙ sym (le-ltb i (n + 1) (omega (arith, ge, ne)))
]

pub next_below : (n : ℕ) → OneMore n (below n) (below (n + 1))
next_below n = record { before = le-ltb n n (omega arith); after = lt-ltb n (n + 1) (omega arith); others = λ i ne. one_more_below n i ne }

-- a walk from the first number to the last
abbrev pub ChangedBelow : (n : ℕ) (f : ℕ → ℕ → ℕ) (bytes : List ℕ) → ℕ → List ℕ → Type 0
ChangedBelow n f bytes k now = ChangedWhere n f bytes (below k) now

module _ {n : ℕ} {f : ℕ → ℕ → ℕ} {bytes : List ℕ} where
  pub walk_start : ((i : ℕ) → get_or bytes i 0 < 256) → length bytes ≡ 8 * n → ChangedBelow n f bytes 0 bytes
  walk_start fits size = none_changed fits size none_below

  pub walk_end : (k : ℕ) {now : List ℕ} → ChangedBelow n f bytes k now → k ≡ n → now ≡ each_long n f bytes
  walk_end k is end = all_changed is (λ i lt. ap (λ b. cond b (f i (long_at bytes i)) (long_at bytes i)) (lt-ltb i k (omega (arith, lt, end))))
