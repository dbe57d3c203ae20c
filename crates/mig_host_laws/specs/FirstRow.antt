-- What is in the way of seeing a guest where it is, looked for row by row: each row's first cause, and the first of the rows.
use Rattle.std.specs.Prelude.{◌≡◌, ◌<◌, ℕ, Bool, List, [], ◌∷◌, Option, find}
use Rattle.mig_host_laws.specs.Common.{range_with_len, option_map, Unsound, Entry, NotPresent, p2m_key, first_some, first_cause, slots, find_misplaced, find_in_contexts, misses, needed_keys, absent, find_gdt, find_context_fault}
use Rattle.std.specs.FinMap as maps
use Rattle.mig_headers.specs.declared.unsound.Unsound.TheVariants.{P2mFrame, Superpage, NoFrame, GdtEnts, VcpuFrame, BadContext}
use Rattle.mig_pvtables.specs.BadEntries.{is_unknown}
use Rattle.mig_pvtables.specs.Tables.{is_superpage}
use Rattle.mig_host_laws.specs.Standing.{Standing, type_named}

-- the least index at which the list of the P2M frames is wrong
abbrev pub find_ill_listed : Standing → Option ℕ
find_ill_listed s = find_misplaced s.types (maps.get s.parts p2m_key)

-- the first slot of a PFN below the width whose entry passes a test
abbrev pub find_said : ℕ → (Entry → Bool) → (ℕ → ℕ → Entry) → Option (ℕ × ℕ)
find_said width bad says = first_some (λ pfn. option_map (λ slot. (pfn, slot)) (find (λ slot. bad (says pfn slot)) slots)) (range_with_len 0 width)

-- the field is used, and names no frame of its type
abbrev pub names_ill : Standing → ℕ → List ℕ → ℕ → Bool
names_ill s id context field = misses s.used (type_named s) id context field

-- ---- the rows, by their numbers

-- a part that no guest of the kind goes without
abbrev pub row_1 : Standing → Option Unsound
row_1 s = first_some (absent s.parts) (needed_keys s.kind)

-- a P2M frame
abbrev pub row_2 : Standing → Option Unsound
row_2 s = option_map (λ k. P2mFrame k) (find_ill_listed s)

-- an entry for a large page
abbrev pub row_3 : ℕ → Standing → Option Unsound
row_3 width s = option_map (λ at. Superpage at.0 at.1) (find_said width is_superpage s.says)

-- an entry that names no frame of the guest
abbrev pub row_4 : ℕ → Standing → Option Unsound
row_4 width s = option_map (λ at. NoFrame at.0 at.1) (find_said width (is_unknown s.names) s.says)

-- a vCPU with too many descriptors
abbrev pub row_5 : Standing → Option Unsound
row_5 s = option_map (λ at. GdtEnts at.0 at.1) (find_gdt s.parts)

-- a field of a vCPU's context
abbrev pub row_6 : Standing → Option Unsound
row_6 s = option_map (λ at. VcpuFrame at.0 at.1) (find_in_contexts (names_ill s) s.parts)

-- the context of an HVM guest
abbrev pub row_7 : Standing → Option Unsound
row_7 s = option_map (λ fault. BadContext fault) (find_context_fault s.parts)

-- the first of the rows, where no PFN from the width on has a table
abbrev pub first_row : ℕ → Standing → Option Unsound
first_row width s = first_cause (row_1 s ∷ row_2 s ∷ row_3 width s ∷ row_4 width s ∷ row_5 s ∷ row_6 s ∷ row_7 s ∷ [])

-- no PFN from the width on has a table
abbrev pub IsWide : ℕ → Standing → Type 0
IsWide width s = (pfn slot : ℕ) → ((pfn < width) → ⊥) → s.says pfn slot ≡ NotPresent
