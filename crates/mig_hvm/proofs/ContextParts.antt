-- A context cut behind its end, and zeros written over the end.
use Rattle.std.proofs.Common.{◌≡◌, ◌+◌, ◌≤◌, List, ℕ, [], ◌++◌, take, drop, length, Some, IfSome, is_some, IsSome, ap, ◌∙◌, arith, append-nil, length-take-le}
use Rattle.std.specs.FinMap as maps
use Rattle.std.proofs.lemmas.List.{drop_all}
use Rattle.mig_guest.specs.declared.part_key.PartKey.{PartKey}
use Rattle.mig_guest.specs.Guests.{GuestOf}
use Rattle.mig_guest.specs.Parts.{PartMap}
use Rattle.mig_guest.proofs.PartSets.{put_again, put_there}
use Rattle.std.proofs.lemmas.List.{take-take}

module _ (g s : GuestOf) (key : PartKey) (part : List ℕ) (set : s ≡ record g { parts = maps.insert g.parts key part }) where
  pub found : maps.get s.parts key ≡ Some part
  found = ap (λ (x : GuestOf). maps.get x.parts key) set ∙ put_there g.parts key part

  pub there : IsSome (maps.get s.parts key)
  there = ap is_some found

  pub within : (o : ℕ) → o ≤ length part → IfSome (maps.get s.parts key) (λ p. o ≤ length p)
  within o fits = rw found fits

  pub written : (n : GuestOf) (over : List ℕ → List ℕ) (bytes : List ℕ) → IfSome (maps.get s.parts key) (λ p. n ≡ record s { parts = maps.insert s.parts key (over p) }) → over part ≡ bytes
      → n ≡ record g { parts = maps.insert g.parts key bytes }
  written n over bytes wrote is =
      (rw found at wrote)
      ∙ ap (λ (x : GuestOf). record x { parts = maps.insert x.parts key (over part) }) set
      ∙ ap (λ (m : PartMap). record g { parts = m }) (put_again g.parts key part (over part))
      ∙ ap (λ (l : List ℕ). record g { parts = maps.insert g.parts key l }) is

-- the first bytes of a body, where the last of them are written anew
pub ended : (body end : List ℕ) (o k : ℕ) → k ≡ o + length end → k ≤ length body → take o (take k body) ++ end ++ drop (o + length end) (take k body) ≡ take o body ++ end
ended body end o k is fits =
    let none : drop (o + length end) (take k body) ≡ [] = drop_all (o + length end) (take k body) (omega (arith, length-take-le k body fits)) in
    ap (λ l. take o (take k body) ++ end ++ l) none ∙ append-nil (take o (take k body) ++ end) ∙ ap (λ l. l ++ end) (take-take o k body (omega arith))
