-- One entry less.
use Rattle.mig_legacy.proofs.ChunkCommon.{◌≡◌, ℕ, suc, zero, ◌+◌, ◌-◌, ◌<◌, ◌≤◌, false, List, [], ◌∷◌, ◌++◌, length, take, drop, nat_eq, Option, Some, None, refl, sym, ap, ◌∙◌, arith, append_assoc, if◌then◌else◌, flat_map, common_steps, entry_fault, entry_len, entry_in, entries_fault, physmaps_in, fault_or, text_of_physmaps, pairs_of_physmap, text_of_pair}
use Rattle.std.proofs.Common.{append-nil}
use Rattle.mig_legacy.proofs.Names.{whole_entry}

all_behind : (bytes : List ℕ) (n : ℕ) → drop n bytes ≡ take (length bytes - n) (drop n bytes)
all_behind bytes n = grind (arith, common_steps)

left : (count counter : ℕ) → counter < count → count - counter ≡ suc (count - (counter + 1))
left count counter less = omega (arith, less)

none_left : (count counter : ℕ) → count ≤ counter → count - counter ≡ zero
none_left count counter less = omega (arith, less)

-- what stands behind the entry at the front
abbrev pub behind : List ℕ → List ℕ
behind rest = take (length rest - entry_len rest) (drop (entry_len rest) rest)

further : (n rest len : ℕ) → rest ≤ n → len ≤ rest → (n - rest) + len ≡ n - (rest - len)
further n rest len within whole = omega (arith, within, whole)

len_behind : (rest : List ℕ) → length (behind rest) ≡ length rest - entry_len rest
len_behind rest = grind (arith, common_steps)

pub faultless_first : (n at : ℕ) (rest : List ℕ) → entry_fault rest ≡ None → entries_fault (suc n) at rest ≡ entries_fault n (at + entry_len rest) (drop (entry_len rest) rest)
unfolding entries_fault
faultless_first n at rest e = ap (λ f. fault_or at f (entries_fault n (at + entry_len rest) (drop (entry_len rest) rest))) e

pub faulty_first : (n at field : ℕ) (rest : List ℕ) → entry_fault rest ≡ Some field → entries_fault (suc n) at rest ≡ Some (at + field)
unfolding entries_fault
faulty_first n at field rest e = ap (λ f. fault_or at f (entries_fault n (at + entry_len rest) (drop (entry_len rest) rest))) e

pub nothing_left : (at : ℕ) (rest : List ℕ) → entries_fault zero at rest ≡ (if nat_eq (length rest) 0 then None else Some at)
unfolding entries_fault
nothing_left at rest = refl

pub entries_step : (count counter n : ℕ) (rest : List ℕ) → counter < count → entry_fault rest ≡ None → length rest ≤ n
    → entries_fault (count - counter) (n - length rest) rest ≡ entries_fault (count - (counter + 1)) (n - length (behind rest)) (behind rest)
entries_step count counter n rest less e within =
    ap (λ k. entries_fault k (n - length rest) rest) (left count counter less)
    ∙ faultless_first (count - (counter + 1)) (n - length rest) rest e
    ∙ ap (λ at. entries_fault (count - (counter + 1)) at (drop (entry_len rest) rest)) (further n (length rest) (entry_len rest) within (whole_entry rest e) ∙ ap (λ l. n - l) (sym (len_behind rest)))
    ∙ ap (λ b. entries_fault (count - (counter + 1)) (n - length (behind rest)) b) (all_behind rest (entry_len rest))

pub entries_stop : (count counter at field : ℕ) (rest : List ℕ) → counter < count → entry_fault rest ≡ Some field → entries_fault (count - counter) at rest ≡ Some (at + field)
entries_stop count counter at field rest less e = ap (λ k. entries_fault k at rest) (left count counter less) ∙ faulty_first (count - (counter + 1)) at field rest e

pub entries_end : (count counter at : ℕ) (rest : List ℕ) → count ≤ counter → entries_fault (count - counter) at rest ≡ (if nat_eq (length rest) 0 then None else Some at)
entries_end count counter at rest less = ap (λ k. entries_fault k at rest) (none_left count counter less) ∙ nothing_left at rest

pub faultless_all : (n at : ℕ) (rest : List ℕ) → entries_fault (suc n) at rest ≡ None → entry_fault rest ≡ None
unfolding entries_fault
faultless_all n at rest e = first (entry_fault rest) (entries_fault n (at + entry_len rest) (drop (entry_len rest) rest)) e
  where
    first : (f g : Option ℕ) → fault_or at f g ≡ None → f ≡ None
    first None g e = refl
    first (Some x) g e = cc

pub faultless_rest : (n at : ℕ) (rest : List ℕ) → entries_fault (suc n) at rest ≡ None → entries_fault n (at + entry_len rest) (drop (entry_len rest) rest) ≡ None
faultless_rest n at rest e = sym (faultless_first n at rest (faultless_all n at rest e)) ∙ e

-- behind the last entry nothing stands
pub nothing_behind : (at : ℕ) (bytes : List ℕ) → entries_fault zero at bytes ≡ None → bytes ≡ []
nothing_behind at [] e = refl
nothing_behind at (b ∷ bytes) e = some (sym (ap (λ t. if t then None else Some at) (some_length (length bytes))) ∙ sym (nothing_left at (b ∷ bytes)) ∙ e)
  where
    some_length : (n : ℕ) → nat_eq (suc n) 0 ≡ false
    some_length n = grind (arith, common_steps)

    some : Some at ≡ None → (b ∷ bytes) ≡ []
    some e = cc

pub faultless_next : (count counter at : ℕ) (rest : List ℕ) → counter < count → entries_fault (count - counter) at rest ≡ None → entry_fault rest ≡ None
faultless_next count counter at rest less e = faultless_all (count - (counter + 1)) at rest (ap (λ k. entries_fault k at rest) (sym (left count counter less)) ∙ e)

more_texts : (n : ℕ) (rest : List ℕ) → text_of_physmaps (physmaps_in (suc n) rest) ≡ flat_map text_of_pair (pairs_of_physmap (entry_in rest)) ++ text_of_physmaps (physmaps_in n (drop (entry_len rest) rest))
unfolding physmaps_in
more_texts n rest = refl

no_texts : (rest : List ℕ) → text_of_physmaps (physmaps_in zero rest) ≡ []
unfolding physmaps_in
no_texts rest = refl

pub texts_step : (count counter : ℕ) (rest before : List ℕ) → counter < count
    → before ++ text_of_physmaps (physmaps_in (count - counter) rest) ≡ (before ++ flat_map text_of_pair (pairs_of_physmap (entry_in rest))) ++ text_of_physmaps (physmaps_in (count - (counter + 1)) (behind rest))
texts_step count counter rest before less =
    ap (λ k. before ++ text_of_physmaps (physmaps_in k rest)) (left count counter less)
    ∙ ap (λ t. before ++ t) (more_texts (count - (counter + 1)) rest ∙ ap (λ b. flat_map text_of_pair (pairs_of_physmap (entry_in rest)) ++ text_of_physmaps (physmaps_in (count - (counter + 1)) b)) (all_behind rest (entry_len rest)))
    ∙ sym (append_assoc before (flat_map text_of_pair (pairs_of_physmap (entry_in rest))) _)

pub texts_end : (count counter : ℕ) (rest before : List ℕ) → count ≤ counter → before ++ text_of_physmaps (physmaps_in (count - counter) rest) ≡ before
texts_end count counter rest before less = ap (λ k. before ++ text_of_physmaps (physmaps_in k rest)) (none_left count counter less) ∙ ap (λ t. before ++ t) (no_texts rest) ∙ append-nil before
