-- A part of so many bytes, the cause that stands in it, and what it says.
use Rattle.mig_bytes.proofs.Common.{◌≡◌, ℕ, List, ◌++◌, length, Option, Some, None, Ok, Err, refl, sym, ap, subst, ◌∙◌, Refused, ◌>>=◌, part, tried, said_at, plain_at, AgreesWithJudging, Passes}
use Rattle.mig_bytes.proofs.Joins.{both_pass, part_passes, part_whole, same_passes, then_passes, tried_none, tried_passes}

-- so many bytes without a cause, which say this
pub record Said {C X : Type 0} (fault : List ℕ → Option C) (says : List ℕ → X) (n : ℕ) (i : List ℕ) (x : X) (rest : List ℕ) : Type 0 where
  pub bytes : List ℕ
  pub whole : i ≡ bytes ++ rest
  pub size : length bytes ≡ n
  pub fine : fault bytes ≡ None
  pub value : says bytes ≡ x

module _ {C X : Type 0} (truncated : C) (fault : List ℕ → Option C) (says : List ℕ → X) where
  pub said_passes : (n : ℕ) (i : List ℕ) (x : X) (rest : List ℕ) → said_at truncated fault says n i ≡ Passes x rest → Said fault says n i x rest
  said_passes n i x rest h =
      let b = both_pass (part truncated n i) (λ p. tried (fault p.0) p.1 >>= λ _. Passes (says p.0) p.1) x rest h in
      let p = part_passes truncated n i b.x b.mid b.first in
      let t = both_pass (tried (fault b.x) b.mid) (λ _. Passes (says b.x) b.mid) x rest b.second in
      let e = same_passes _ _ _ _ t.second in
      record { bytes = b.x; whole = p.0 ∙ ap (λ l. b.x ++ l) e.1; size = p.1; fine = (tried_passes (fault b.x) b.mid t.mid t.x t.first).0; value = e.0 }

  pub said_goes : (n : ℕ) (bytes rest : List ℕ) → length bytes ≡ n → fault bytes ≡ None → said_at truncated fault says n (bytes ++ rest) ≡ Passes (says bytes) rest
  said_goes n bytes rest size fine =
      then_passes (part truncated n (bytes ++ rest)) (λ p. tried (fault p.0) p.1 >>= λ _. Passes (says p.0) p.1) bytes rest _ (part_whole truncated n bytes rest size) (tried_none (fault bytes) rest _ fine)

-- bytes that pass as they stand
pub bytes_pass : {C : Type 0} (truncated : C) (fault : List ℕ → Option C) (n : ℕ) (i bytes rest : List ℕ) → said_at truncated fault (λ l. l) n i ≡ Passes bytes rest → (i ≡ bytes ++ rest) × (length bytes ≡ n) × (fault bytes ≡ None)
bytes_pass truncated fault n i bytes rest h =
    let s = said_passes truncated fault (λ l. l) n i bytes rest h in
    (s.whole ∙ ap (λ l. l ++ rest) s.value, ap length (sym s.value) ∙ s.size, ap fault (sym s.value) ∙ s.fine)

-- ---- a reader of such a part, of n bytes, which are m

module _ {C X V Y : Type 0} (truncated : C) (R : X → List ℕ → Type 0) (Q : V → Y → Type 0) (n m : ℕ) (same : n ≡ m) (says : List ℕ → Y) (x : X) where
  pub plain_read : (a b : Option (List ℕ)) (v : V) → AgreesWithJudging R a b (part truncated n) (Ok x) → ((bytes : List ℕ) → R x bytes → Q v (says bytes)) → AgreesWithJudging Q a b (plain_at truncated says m) (Ok v)
  plain_read None b v h turn = tt
  plain_read (Some i) b v (bytes, rest, is, left, r) turn = let is' = subst (λ k. part truncated k i ≡ Passes bytes rest) same is in (says bytes, rest, rw is' refl, left, turn bytes r)

  pub said_read : (fault : List ℕ → Option C) (a b : Option (List ℕ)) (v : V) → AgreesWithJudging R a b (part truncated n) (Ok x)
      → ((bytes : List ℕ) → R x bytes → (fault bytes ≡ None) × Q v (says bytes)) → AgreesWithJudging Q a b (said_at truncated fault says m) (Ok v)
  said_read fault None b v h turn = tt
  said_read fault (Some i) b v (bytes, rest, is, left, r) turn =
      let is' = subst (λ k. part truncated k i ≡ Passes bytes rest) same is in
      let (none, q) = turn bytes r in (says bytes, rest, rw (is', none) refl, left, q)

  pub said_refused : (fault : List ℕ → Option C) (a b : Option (List ℕ)) (c : C) → AgreesWithJudging R a b (part truncated n) (Ok x) → ((bytes : List ℕ) → R x bytes → fault bytes ≡ Some c) → AgreesWithJudging Q a b (said_at truncated fault says m) (Err (Refused c))
  said_refused fault None b c h turn = tt
  said_refused fault (Some i) b c (bytes, rest, is, left, r) turn = let is' = subst (λ k. part truncated k i ≡ Passes bytes rest) same is in (rest, rw (is', turn bytes r) refl, left)
