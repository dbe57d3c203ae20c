-- What is wrong with the words of a PAGE_DATA.
use Rattle.mig_records.proofs.Common.{Kind, BadPageType, PfnOutside, first_fault, has_reserved_type, names_outside, IsFirst, fault_of_words}
use Rattle.std.proofs.Common.{◌≡◌, ℕ, Bool, true, false, List, [], ◌∷◌, Some, None, All, position, slice_index, refl, sym, ap, subst, ◌∙◌}
use Rattle.std.proofs.lemmas.List.Folds.{list_any_none}
use Rattle.mig_pagetypes.specs.FrameWords.{word_type, word_pfn}
use Rattle.mig_records.proofs.Places.{position_some, position_none, place_is_first, none_pass}

pub reserved_found : (kind : Kind) (top : ℕ) (ws : List ℕ) (entry n : ℕ) → Some entry ≡ position has_reserved_type ws → n ≡ word_type (slice_index ws entry)
    → Some (BadPageType entry n) ≡ fault_of_words kind top ws
reserved_found kind top ws entry n is names =
    let found = position_some has_reserved_type ws entry (sym is) in rw (found.0, found.1, names) refl

pub outside_found : (kind : Kind) (top : ℕ) (ws : List ℕ) (entry n : ℕ) → None ≡ position has_reserved_type ws → Some entry ≡ position (names_outside kind top) ws
    → n ≡ word_pfn (slice_index ws entry) → Some (PfnOutside entry n) ≡ fault_of_words kind top ws
outside_found kind top ws entry n none is names =
    let found = position_some (names_outside kind top) ws entry (sym is) in
    rw (position_none has_reserved_type ws (sym none), found.0, found.1, names) refl

pub none_found : (kind : Kind) (top : ℕ) (ws : List ℕ) → None ≡ position has_reserved_type ws → None ≡ position (names_outside kind top) ws → None ≡ fault_of_words kind top ws
none_found kind top ws none nowhere =
    rw (position_none has_reserved_type ws (sym none), position_none (names_outside kind top) ws (sym nowhere)) refl

-- which of two rows answered
first_row : (a b : Bool) (i t j q e n : ℕ) → first_fault ((a, BadPageType i t) ∷ (b, PfnOutside j q) ∷ []) ≡ Some (BadPageType e n) → (a ≡ true) × (e ≡ i) × (n ≡ t)
first_row true b i t j q e n h = (refl, cc, cc)
first_row false true i t j q e n h = cc
first_row false false i t j q e n h = cc

second_row : (a b : Bool) (i t j q e n : ℕ) → first_fault ((a, BadPageType i t) ∷ (b, PfnOutside j q) ∷ []) ≡ Some (PfnOutside e n) → (a ≡ false) × (b ≡ true) × (e ≡ j) × (n ≡ q)
second_row true b i t j q e n h = cc
second_row false true i t j q e n h = (refl, refl, cc, cc)
second_row false false i t j q e n h = cc

no_row : (a b : Bool) (i t j q : ℕ) → first_fault ((a, BadPageType i t) ∷ (b, PfnOutside j q) ∷ []) ≡ None → (a ≡ false) × (b ≡ false)
no_row true b i t j q h = cc
no_row false true i t j q h = cc
no_row false false i t j q h = (refl, refl)

pub reserved_is_first : (kind : Kind) (top : ℕ) (ws : List ℕ) (entry n : ℕ) → fault_of_words kind top ws ≡ Some (BadPageType entry n) → IsFirst has_reserved_type ws entry × (n ≡ word_type (slice_index ws entry))
reserved_is_first kind top ws entry n h =
    let row = first_row _ _ _ _ _ _ entry n h in (
      subst (IsFirst has_reserved_type ws) (sym row.1) (place_is_first has_reserved_type ws row.0),
      row.2 ∙ ap (λ k. word_type (slice_index ws k)) (sym row.1),
    )

pub outside_is_first : (kind : Kind) (top : ℕ) (ws : List ℕ) (entry n : ℕ) → fault_of_words kind top ws ≡ Some (PfnOutside entry n)
    → IsFirst (names_outside kind top) ws entry × (n ≡ word_pfn (slice_index ws entry)) × All (λ w. has_reserved_type w ≡ false) ws
outside_is_first kind top ws entry n h =
    let row = second_row _ _ _ _ _ _ entry n h in (
      subst (IsFirst (names_outside kind top) ws) (sym row.2) (place_is_first (names_outside kind top) ws row.1),
      row.3 ∙ ap (λ k. word_pfn (slice_index ws k)) (sym row.2),
      none_pass has_reserved_type ws row.0,
    )

pub none_is_wrong : (kind : Kind) (top : ℕ) (ws : List ℕ) → fault_of_words kind top ws ≡ None → All (λ w. (has_reserved_type w ≡ false) × (names_outside kind top w ≡ false)) ws
none_is_wrong kind top ws h k d lt =
    let row = no_row _ _ _ _ _ _ h in
    (none_pass has_reserved_type ws row.0 k d lt, none_pass (names_outside kind top) ws row.1 k d lt)

pub nothing_found : (kind : Kind) (top : ℕ) (ws : List ℕ) → All (λ w. (has_reserved_type w ≡ false) × (names_outside kind top w ≡ false)) ws → fault_of_words kind top ws ≡ None
nothing_found kind top ws fine =
    rw (list_any_none has_reserved_type ws (λ k d lt. (fine k d lt).0), list_any_none (names_outside kind top) ws (λ k d lt. (fine k d lt).1)) refl
