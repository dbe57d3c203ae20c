-- Which entry of a table has no form in a stream, and where it stands.
use Rattle.mig_pvtables.proofs.Common.{◌≡◌, ℕ, ◌<◌, Bool, true, false, List, Option, Some, None, is_none, refl, sym, ap, ◌∙◌, ◌↔◌, false_from_ne_true, find, option_map, option_or, Entry, Blank, NotPresent, Superpage, Frame, entry, first_superpage, is_superpage, both_none, is_unknown, neither_some, first_unknown, bad_entry, NamesKnown, HasSuperpage, HasUnknown, IsFirstSlot}
use Rattle.mig_pvtables.specs.Faults.{slots}
use Rattle.mig_pvtables.specs.declared.rename.BadEntry.{BadEntry}
use Rattle.mig_pvtables.specs.declared.rename.Why.{Why}
use Rattle.mig_pvtables.proofs.PvGuests.{some_is}
use Rattle.mig_pvtables.proofs.Searches.{none_mapped}
use Rattle.mig_pvtables.proofs.Slots.{slot_found, first_slot, no_slot}
use Rattle.mig_pvtables.specs.declared.rename.Why.TheVariants as causes

-- ---- one entry

module _ (pfn_of : ℕ → Option ℕ) where
  -- an entry that passes neither test has a form in a stream
  pub named : (e : Entry) → ((is_superpage e ≡ false) × (is_unknown pfn_of e ≡ false)) ↔ NamesKnown pfn_of e
  named Blank = (λ h. tt, λ h. (refl, refl))
  named NotPresent = (λ h. tt, λ h. (refl, refl))
  named Superpage = (λ h. let no : true ≡ false = h.0 in cc, λ h. absurd h)
  named (Frame mfn) = (λ h. (some_is (pfn_of mfn)).0 h.1, λ h. (refl, (some_is (pfn_of mfn)).1 h))

  large : (e : Entry) → (is_superpage e ≡ true) ↔ (e ≡ Superpage)
  large Blank = (λ h. let no : false ≡ true = h in cc, λ e. let no : Blank ≡ Superpage = e in cc)
  large NotPresent = (λ h. let no : false ≡ true = h in cc, λ e. let no : NotPresent ≡ Superpage = e in cc)
  large Superpage = (λ h. refl, λ e. refl)
  large (Frame mfn) = (λ h. let no : false ≡ true = h in cc, λ e. let no : Frame mfn ≡ Superpage = e in cc)

  none_there : (o : Option ℕ) → (is_none o ≡ true) ↔ (o ≡ None)
  none_there None = (λ h. refl, λ e. refl)
  none_there (Some n) = (λ h. let no : false ≡ true = h in cc, λ e. let no : Some n ≡ None = e in cc)

  unknown : (e : Entry) → (is_unknown pfn_of e ≡ true) ↔ ((mfn : ℕ) × (e ≡ Frame mfn) × (pfn_of mfn ≡ None))
  unknown Blank = (λ h. let no : false ≡ true = h in cc, λ (mfn, e, _). let no : Blank ≡ Frame mfn = e in cc)
  unknown NotPresent = (λ h. let no : false ≡ true = h in cc, λ (mfn, e, _). let no : NotPresent ≡ Frame mfn = e in cc)
  unknown Superpage = (λ h. let no : false ≡ true = h in cc, λ (mfn, e, _). let no : Superpage ≡ Frame mfn = e in cc)
  unknown (Frame n) = (λ h. (n, refl, (none_there (pfn_of n)).0 h), λ (mfn, e, none). let same : n ≡ mfn = cc in (none_there (pfn_of n)).1 (ap pfn_of same ∙ none))

-- ---- the slot that a search finds

module _ (p : ℕ → Bool) (P : ℕ → Type 0) (told : (slot : ℕ) → (p slot ≡ true) ↔ P slot) where
  pub first_told : (slot : ℕ) → (find p slots ≡ Some slot) ↔ IsFirstSlot P slot
  first_told slot = (
    λ is. let (inside, passes, before) = slot_found p slot is in
        record { inside = inside; here = (told slot).0 passes; below = λ other under holds. let no : true ≡ false = sym ((told other).1 holds) ∙ before other under in cc },
    λ first. sym (first_slot p slot first.inside ((told slot).1 first.here) (λ other under. false_from_ne_true (p other) (λ passes. first.below other under ((told other).0 passes)))),
  )

  pub none_told : (find p slots ≡ None) ↔ ((slot : ℕ) → slot < 512 → P slot → ⊥)
  none_told = (
    λ none slot lt holds. let no : true ≡ false = sym ((told slot).1 holds) ∙ (no_slot p).0 none slot lt in cc,
    λ fails. (no_slot p).1 (λ slot lt. false_from_ne_true (p slot) (λ passes. fails slot lt ((told slot).0 passes))),
  )

-- ---- of two searches the first that finds something

abbrev bad : Why → ℕ → BadEntry
bad why slot = record { slot = slot; why = why }

abbrev either : Option ℕ → Option ℕ → Option BadEntry
either s u = option_or (option_map (bad causes.Superpage) s) (option_map (bad causes.NoFrame) u)

same_slot : (why : Why) (j k : ℕ) → Some (bad why j) ≡ Some (bad why k) → Some j ≡ Some k
same_slot why j k is = let same : bad why j ≡ bad why k = cc in ap (λ (b : BadEntry). Some b.slot) same

other_cause : (j k : ℕ) → Some (bad causes.Superpage j) ≡ Some (bad causes.NoFrame k) → ⊥
other_cause j k is =
    let same : bad causes.Superpage j ≡ bad causes.NoFrame k = cc in
    let no : causes.Superpage ≡ causes.NoFrame = ap (λ (b : BadEntry). b.why) same in cc

first_is : (s u : Option ℕ) (slot : ℕ) → (either s u ≡ Some (bad causes.Superpage slot)) ↔ (s ≡ Some slot)
first_is (Some k) u slot = (λ is. same_slot causes.Superpage k slot is, λ is. ap (option_map (bad causes.Superpage)) is)
first_is None (Some k) slot = (λ is. absurd (other_cause slot k (sym is)), λ is. let no : None ≡ Some slot = is in cc)
first_is None None slot = (λ is. let no : None ≡ Some (bad causes.Superpage slot) = is in cc, λ is. let no : None ≡ Some slot = is in cc)

second_is : (s u : Option ℕ) (slot : ℕ) → (either s u ≡ Some (bad causes.NoFrame slot)) ↔ ((s ≡ None) × (u ≡ Some slot))
second_is (Some k) u slot = (λ is. absurd (other_cause k slot is), λ (none, is). let no : Some k ≡ None = none in cc)
second_is None (Some k) slot = (λ is. (refl, same_slot causes.NoFrame k slot is), λ (none, is). ap (option_map (bad causes.NoFrame)) is)
second_is None None slot = (λ is. let no : None ≡ Some (bad causes.NoFrame slot) = is in cc, λ (none, is). let no : None ≡ Some slot = is in cc)

neither_is : (s u : Option ℕ) → (either s u ≡ None) ↔ ((s ≡ None) × (u ≡ None))
neither_is s u = (
  λ none. let both = both_none _ _ none in ((none_mapped _ s).0 both.0, (none_mapped _ u).0 both.1),
  λ (one, two). neither_some _ _ ((none_mapped _ s).1 one) ((none_mapped _ u).1 two),
)

-- ---- a table

module _ (pfn_of : ℕ → Option ℕ) (level : ℕ) (page : List ℕ) where
  abbrev pub HasNoSuperpage : Type 0
  HasNoSuperpage = (slot : ℕ) → slot < 512 → HasSuperpage level page slot → ⊥

  is_large : (slot : ℕ) → (is_superpage (entry level page slot) ≡ true) ↔ HasSuperpage level page slot
  is_large slot = large pfn_of (entry level page slot)

  is_not_known : (slot : ℕ) → (is_unknown pfn_of (entry level page slot) ≡ true) ↔ HasUnknown pfn_of level page slot
  is_not_known slot = unknown pfn_of (entry level page slot)

  pub superpage_refused : (slot : ℕ) → (bad_entry pfn_of level page ≡ Some (record { slot = slot; why = causes.Superpage })) ↔ IsFirstSlot (HasSuperpage level page) slot
  superpage_refused slot =
      let found = first_is (first_superpage level page) (first_unknown pfn_of level page) slot in
      let told = first_told _ (HasSuperpage level page) is_large slot in
      (λ is. told.0 (found.0 is), λ first. found.1 (told.1 first))

  pub unknown_refused : (slot : ℕ) → (bad_entry pfn_of level page ≡ Some (record { slot = slot; why = causes.NoFrame })) ↔ (HasNoSuperpage × IsFirstSlot (HasUnknown pfn_of level page) slot)
  unknown_refused slot =
      let found = second_is (first_superpage level page) (first_unknown pfn_of level page) slot in
      let none = none_told _ (HasSuperpage level page) is_large in
      let told = first_told _ (HasUnknown pfn_of level page) is_not_known slot in
      (λ is. let both = found.0 is in (none.0 both.0, told.0 both.1), λ both. found.1 (none.1 both.0, told.1 both.1))

  pub nothing_refused : (bad_entry pfn_of level page ≡ None) ↔ ((slot : ℕ) → slot < 512 → NamesKnown pfn_of (entry level page slot))
  nothing_refused =
      let found = neither_is (first_superpage level page) (first_unknown pfn_of level page) in
      let superpages = no_slot (λ slot. is_superpage (entry level page slot)) in
      let unknowns = no_slot (λ slot. is_unknown pfn_of (entry level page slot)) in (
        (λ none. let both = found.0 none in λ slot lt. (named pfn_of (entry level page slot)).0 (superpages.0 both.0 slot lt, unknowns.0 both.1 slot lt)),
        (λ all. found.1 (
          superpages.1 (λ slot lt. ((named pfn_of (entry level page slot)).1 (all slot lt)).0),
          unknowns.1 (λ slot lt. ((named pfn_of (entry level page slot)).1 (all slot lt)).1),
        )),
      )
