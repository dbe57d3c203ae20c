-- What is to be shown of each row.
use Rattle.mig_records.proofs.Common.{◌≡◌, ℕ, zero, suc, ◌+◌, ◌*◌, ◌%◌, ◌<◌, ◌^◌, Bool, true, false, not, List, [], ◌∷◌, length, drop, None, Option, Some, refl, subst, arith, rules, ◌==◌, and_parts, not-false, ltb-true, first_fault, Cause, rows_fine, neither_some, PartCode, P2mFrames, CpuidLeaf, Msr, code_number, small_number, Layout, layout, entry_width, front_width, fault_of_key, fault_of_entries, entry_count, fault_of_table, shape_of, IsRow, HasBodyLength, fault_of_body, vcpu_limit, record_row_of, type_of_number}
use Rattle.std.specs.Prelude.{nat_lt}
use Rattle.mig_headers.specs.declared.record_type.RecordType.{RecordType}
use Rattle.mig_records.proofs.TableSpelled.{length_passes}

pub small_keys : (key1 key2 : ℕ) (c : Cause) → first_fault ((not (small_number key1 key2), c) ∷ []) ≡ None → small_number key1 key2 ≡ true
small_keys key1 key2 c fine = not-false (small_number key1 key2) (rows_fine ((not (small_number key1 key2), c) ∷ []) fine).0

low_name : (key1 key2 : ℕ) (c : Cause) → first_fault ((not (small_number key1 key2), c) ∷ []) ≡ None → key1 < 2 ^ 32
low_name key1 key2 c fine = let low = ltb-true key1 vcpu_limit (and_parts (nat_lt key1 vcpu_limit) (key2 == 0) (small_keys key1 key2 c fine)).0 in omega (arith, low)

pub all_rows : (code : PartCode) → IsRow code (shape_of code)
all_rows P2mFrames = tt
all_rows _ = search (rules, arith, low_name)

-- ---- tables of which no key is refused

pub no_key_fault : (code : PartCode) (l : Layout) → ((key1 key2 : ℕ) → fault_of_key code key1 key2 ≡ None) → (n : ℕ) (bytes : List ℕ) → fault_of_entries code l n bytes ≡ None
no_key_fault code l none zero bytes = refl
no_key_fault code l none (suc n) bytes = neither_some _ _ (none _ _) (no_key_fault code l none n (drop (entry_width l) bytes))

whole_table : (code : PartCode) (l : Layout) → ((key1 key2 : ℕ) → fault_of_key code key1 key2 ≡ None) → (body : List ℕ) → length body ≡ front_width l + entry_width l * entry_count l body → fault_of_table code l body ≡ None
whole_table code l none body size = neither_some _ _ (length_passes _ _ size) (no_key_fault code l none (entry_count l body) (drop (front_width l) body))

pub whole_leaves : (body : List ℕ) → length body % 24 ≡ 0 → fault_of_body CpuidLeaf body ≡ None
whole_leaves body h = whole_table CpuidLeaf (layout false 4 4 16) (λ _ _. refl) body (omega (arith, h))

pub whole_msrs : (body : List ℕ) → length body % 16 ≡ 0 → fault_of_body Msr body ≡ None
whole_msrs body h = whole_table Msr (layout false 4 0 12) (λ _ _. refl) body (omega (arith, h))

-- ---- the lengths of the records

-- whether the record of a code's type may have this length
abbrev pub allowed_in : Option RecordType → ℕ → Bool
allowed_in None len = true
allowed_in (Some type) len = (record_row_of type).allows len

abbrev pub record_allows : PartCode → ℕ → Bool
record_allows code len = allowed_in (type_of_number (code_number code)) len

pub is_allowed : (code : PartCode) (len : ℕ) → HasBodyLength code len → record_allows code len ≡ true
is_allowed code len has = elim (type_of_number (code_number code)) as (λ o. type_of_number (code_number code) ≡ o → allowed_in o len ≡ true) [ None ↦ λ _. refl | Some type ↦ λ is. has type is ] refl

pub has_allowed : (code : PartCode) (len : ℕ) → record_allows code len ≡ true → HasBodyLength code len
has_allowed code len allowed type is = subst (λ o. allowed_in o len ≡ true) is allowed
