-- In which order the records of a canonical stream stand.
use Rattle.std.specs.Prelude.{⊤, ◌≤◌, ℕ, ◌+◌, ◌*◌, ◌^◌, List, [], ◌∷◌, ◌==◌, if◌then◌else◌}
use Rattle.std.specs.List.{AllByRecursion}
use Rattle.mig_machine_laws.specs.Common.{Record, le32}

-- where a record stands among the others: X86_PV_INFO, the policies, STATIC_DATA_END, X86_PV_P2M_FRAMES, PAGE_DATA, X86_TSC_INFO,
-- SHARED_INFO, HVM_PARAMS, HVM_CONTEXT; then those of a vCPU, by its id, with which their bodies begin, and of one vCPU BASIC,
-- EXTENDED, XSAVE, MSRS; and END
abbrev pub record_rank : Record → ℕ
record_rank r =
    if r.0 == 2 then 0
    else if r.0 == 17 then 1
    else if r.0 == 18 then 2
    else if r.0 == 16 then 3
    else if r.0 == 3 then 4
    else if r.0 == 1 then 5
    else if r.0 == 8 then 6
    else if r.0 == 7 then 7
    else if r.0 == 10 then 8
    else if r.0 == 9 then 9
    else if r.0 == 4 then 10 + 4 * le32 r.1 0
    else if r.0 == 5 then 11 + 4 * le32 r.1 0
    else if r.0 == 6 then 12 + 4 * le32 r.1 0
    else if r.0 == 12 then 13 + 4 * le32 r.1 0
    else 2 ^ 40

-- no record is behind one that comes after it
abbrev pub AscendByRank : List Record → Type 0
AscendByRank [] = ⊤
AscendByRank (r ∷ rs) = AllByRecursion (λ s. record_rank r ≤ record_rank s) rs × AscendByRank rs
