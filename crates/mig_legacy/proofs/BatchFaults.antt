-- What is wrong with the words of a batch.
use Rattle.mig_legacy.proofs.ChunkCommon.{◌≡◌, ℕ, List, Some, None, slice_index, refl, sym, subst, BadPageType, WordHigh, legacy_type, IsFirst, position_some, position_none, place_is_first, none_pass, is_reserved, is_high, fault_of_batch, IsBatchFault}
use Rattle.std.proofs.Common.{position}

pub reserved_found : (ws : List ℕ) (entry n : ℕ) → Some entry ≡ position is_reserved ws → n ≡ legacy_type (slice_index ws entry) → Some (BadPageType entry n) ≡ fault_of_batch ws
reserved_found ws entry n is names = let found = position_some is_reserved ws entry (sym is) in rw (found.0, found.1, names) refl

pub high_found : (ws : List ℕ) (entry : ℕ) → None ≡ position is_reserved ws → Some entry ≡ position is_high ws → Some (WordHigh entry) ≡ fault_of_batch ws
high_found ws entry none is = let found = position_some is_high ws entry (sym is) in rw (position_none is_reserved ws (sym none), found.0, found.1) refl

pub none_found : (ws : List ℕ) → None ≡ position is_reserved ws → None ≡ position is_high ws → None ≡ fault_of_batch ws
none_found ws none nowhere = rw (position_none is_reserved ws (sym none), position_none is_high ws (sym nowhere)) refl

-- ---- in words

pub reserved_said : (ws : List ℕ) (entry n : ℕ) → Some entry ≡ position is_reserved ws → n ≡ legacy_type (slice_index ws entry) → IsBatchFault ws (Some (BadPageType entry n))
reserved_said ws entry n is names = let found = position_some is_reserved ws entry (sym is) in (subst (IsFirst is_reserved ws) found.1 (place_is_first is_reserved ws found.0), names)

pub high_said : (ws : List ℕ) (entry : ℕ) → None ≡ position is_reserved ws → Some entry ≡ position is_high ws → IsBatchFault ws (Some (WordHigh entry))
high_said ws entry none is =
    let found = position_some is_high ws entry (sym is) in
    (subst (IsFirst is_high ws) found.1 (place_is_first is_high ws found.0), none_pass is_reserved ws (position_none is_reserved ws (sym none)))

pub none_said : (ws : List ℕ) → None ≡ position is_reserved ws → None ≡ position is_high ws → IsBatchFault ws None
none_said ws none nowhere k d lt = (none_pass is_reserved ws (position_none is_reserved ws (sym none)) k d lt, none_pass is_high ws (position_none is_high ws (sym nowhere)) k d lt)
