-- What the slots of a P2M frame say.
use Rattle.mig_guest.proofs.Longs.{long_of_longs}
use Rattle.mig_machine_laws.proofs.Common.{long_at, p2m_page, ◌≡◌, ℕ, ◌+◌, ◌-◌, ◌*◌, ◌^◌, ◌<◌, Option, Some, None, ap, sym, subst, ◌∙◌, arith, unwrap_or}

-- what the slot is filled with
abbrev filled : (ℕ → Option ℕ) → ℕ → ℕ → ℕ
filled mfn_of k slot = unwrap_or (mfn_of (512 * k + slot)) (2 ^ 64 - 1)

said : (mfn_of : ℕ → Option ℕ) (k slot n : ℕ) → slot < 512 → filled mfn_of k slot ≡ n → n < 2 ^ 64 → long_at (p2m_page mfn_of k) slot ≡ n
said mfn_of k slot n lt is small = long_of_longs 512 (filled mfn_of k) slot lt (subst (λ m. m < 2 ^ 64) (sym is) small) ∙ is

pub there : (mfn_of : ℕ → Option ℕ) (k slot mfn : ℕ) → slot < 512 → mfn_of (512 * k + slot) ≡ Some mfn → mfn < 2 ^ 64 → long_at (p2m_page mfn_of k) slot ≡ mfn
there mfn_of k slot mfn lt is small = said mfn_of k slot mfn lt (ap (λ o. unwrap_or o (2 ^ 64 - 1)) is) small

pub none : (mfn_of : ℕ → Option ℕ) (k slot : ℕ) → slot < 512 → mfn_of (512 * k + slot) ≡ None → long_at (p2m_page mfn_of k) slot ≡ 2 ^ 64 - 1
none mfn_of k slot lt is = said mfn_of k slot (2 ^ 64 - 1) lt (ap (λ o. unwrap_or o (2 ^ 64 - 1)) is) (omega arith)
