-- What the calls do to a set of frame numbers (PFN).
use Rattle.std.specs.Prelude.{◌≡◌, ℕ, ◌≤◌, ◌==◌, Bool, false, if◌then◌else◌}
use Rattle.mig_guest.specs.Pfns.{Pfns}

-- the set, of which q is a member or isn't
abbrev pub put_pfn : ℕ → Bool → Pfns → Pfns
put_pfn q inside set p = if p == q then inside else set p

-- the set without q
abbrev pub without_pfn : ℕ → Pfns → Pfns
without_pfn q set = put_pfn q false set

-- all members are below the width
abbrev pub IsBelow : ℕ → Pfns → Type 0
IsBelow width set = (p : ℕ) → width ≤ p → set p ≡ false
