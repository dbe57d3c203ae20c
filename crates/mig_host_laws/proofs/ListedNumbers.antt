-- What is listed in a list of P2M frames.
use Rattle.std.specs.FinMap as maps
use Rattle.mig_host_laws.proofs.Common.{◌≡◌, ℕ, ◌/◌, ◌^◌, ◌<◌, ◌≤◌, Bool, cond, length, nat_lt, Option, Some, None, ap, ◌∙◌, arith, lt-ltb, PartMap, p2m_key, listed, long_at, long_of_longs, longs, le-ltb, listed_in}
use Rattle.mig_guest.proofs.Longs.{length_longs}

module _ (parts : PartMap) (n : ℕ) (pfn_at : ℕ → ℕ) (is : maps.get parts p2m_key ≡ Some (longs n pfn_at)) where
  counted : length (longs n pfn_at) / 8 ≡ n
  counted = omega (arith, length_longs n pfn_at)

  -- what is listed, by whether there are so many numbers
  abbrev told : ℕ → Bool → Option ℕ
  told k within = cond within (Some (long_at (longs n pfn_at) k)) None

  told_at : (k : ℕ) → listed parts k ≡ told k (nat_lt k n)
  told_at k = ap (λ o. listed_in o k) is ∙ ap (λ m. told k (nat_lt k m)) counted

  pub lists : (k : ℕ) → k < n → pfn_at k < 2 ^ 64 → listed parts k ≡ Some (pfn_at k)
  lists k lt small = told_at k ∙ ap (told k) (lt-ltb k n lt) ∙ ap (λ m. Some m) (long_of_longs n pfn_at k lt small)

  pub ends : (k : ℕ) → n ≤ k → listed parts k ≡ None
  ends k le = told_at k ∙ ap (told k) (le-ltb k n le)
