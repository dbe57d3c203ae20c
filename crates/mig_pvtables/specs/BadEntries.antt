-- The entry of a machine's table that has no form in a stream.
use Rattle.std.specs.Prelude.{◌≡◌, ◌<◌, ℕ, ⊤, Bool, false, List, Option, None, IsSome, is_none, find}
use Rattle.mig_pvtables.specs.Common.{option_map, option_or, Entry, Frame, entry}
use Rattle.mig_guest.specs.declared.table.Entry.TheVariants as entries
use Rattle.mig_pvtables.specs.Faults.{slots}
use Rattle.mig_pvtables.specs.Tables.{first_superpage}
use Rattle.mig_pvtables.specs.declared.rename.BadEntry.{BadEntry}
use Rattle.mig_pvtables.specs.declared.rename.Why.TheVariants.{Superpage, NoFrame}

-- it names a machine frame for which pfn_of gives nothing
abbrev pub is_unknown : (ℕ → Option ℕ) → Entry → Bool
is_unknown pfn_of (Frame mfn) = is_none (pfn_of mfn)
is_unknown pfn_of _ = false

-- the first slot that names one
abbrev pub first_unknown : (ℕ → Option ℕ) → ℕ → List ℕ → Option ℕ
first_unknown pfn_of level page = find (λ slot. is_unknown pfn_of (entry level page slot)) slots

-- the first superpage, and where there is none, the first entry whose machine frame isn't known
abbrev pub bad_entry : (ℕ → Option ℕ) → ℕ → List ℕ → Option BadEntry
bad_entry pfn_of level page =
    option_or (option_map (λ slot. record { slot = slot; why = Superpage }) (first_superpage level page))
    (option_map (λ slot. record { slot = slot; why = NoFrame }) (first_unknown pfn_of level page))

-- ---- where one stands

-- no superpage, and no machine frame for which pfn_of gives nothing
abbrev pub NamesKnown : (ℕ → Option ℕ) → Entry → Type 0
NamesKnown pfn_of entries.Blank = ⊤
NamesKnown pfn_of entries.NotPresent = ⊤
NamesKnown pfn_of entries.Superpage = ⊥
NamesKnown pfn_of (entries.Frame mfn) = IsSome (pfn_of mfn)

-- this slot of a table of this level holds a superpage
abbrev pub HasSuperpage : ℕ → List ℕ → ℕ → Type 0
HasSuperpage level page slot = entry level page slot ≡ entries.Superpage

-- this slot names a machine frame for which pfn_of gives nothing
abbrev pub HasUnknown : (ℕ → Option ℕ) → ℕ → List ℕ → ℕ → Type 0
HasUnknown pfn_of level page slot = (mfn : ℕ) × (entry level page slot ≡ entries.Frame mfn) × (pfn_of mfn ≡ None)

-- P holds of this slot of a table, and of no slot below
pub record IsFirstSlot (P : ℕ → Type 0) (slot : ℕ) : Type 0 where
  pub inside : slot < 512
  pub here : P slot
  pub below : (other : ℕ) → other < slot → P other → ⊥
