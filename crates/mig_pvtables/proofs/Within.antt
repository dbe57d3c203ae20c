-- A table without fault has no superpage and names no frame above top.
use Rattle.mig_pvtables.proofs.Common.{◌≡◌, ℕ, ◌<◌, true, false, List, None, refl, ◌↔◌, ltb-false, le-ltb, Entry, Blank, NotPresent, Superpage, Frame, entry, IsWithin, is_superpage, names_above, first_superpage, both_none, first_outside, fault_of_page_table}
use Rattle.mig_pvtables.proofs.Searches.{none_mapped}
use Rattle.mig_pvtables.proofs.Slots.{no_slot}

within : (top : ℕ) (e : Entry) → ((is_superpage e ≡ false) × (names_above top e ≡ false)) ↔ IsWithin top e
within top Blank = (λ h. tt, λ is. (refl, refl))
within top NotPresent = (λ h. tt, λ is. (refl, refl))
within top Superpage = (λ h. let no : true ≡ false = h.0 in cc, λ is. absurd is)
within top (Frame n) = (λ h. ltb-false top n h.1, λ is. (refl, le-ltb top n is))

module _ (place top level : ℕ) (page : List ℕ) where
  pub table_within : (fault_of_page_table place top level page ≡ None) ↔ ((slot : ℕ) → slot < 512 → IsWithin top (entry level page slot))
  table_within = (
    (λ none. let both = both_none _ _ none in
        let large = (no_slot (λ slot. is_superpage (entry level page slot))).0 ((none_mapped _ (first_superpage level page)).0 both.0) in
        let outside = (no_slot (λ slot. names_above top (entry level page slot))).0 ((none_mapped _ (first_outside top level page)).0 both.1) in
        λ slot lt. (within top (entry level page slot)).0 (large slot lt, outside slot lt)),
    (λ is.
        let large : first_superpage level page ≡ None = (no_slot (λ slot. is_superpage (entry level page slot))).1 (λ slot lt. ((within top (entry level page slot)).1 (is slot lt)).0) in
        let outside : first_outside top level page ≡ None = (no_slot (λ slot. names_above top (entry level page slot))).1 (λ slot lt. ((within top (entry level page slot)).1 (is slot lt)).1) in
        rw (large, outside) refl),
  )
