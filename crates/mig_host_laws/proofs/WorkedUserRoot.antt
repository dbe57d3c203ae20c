-- What the worked host's ctrlreg[1] is seen as.
use Rattle.std.specs.FinMap as maps
use Rattle.mig_host_laws.proofs.Common.{HostFrame, pfn_in, ◌≡◌, ℕ, ◌%◌, ◌^◌, ◌<◌, Bool, true, false, cond, List, [], ◌∷◌, Option, Some, None, refl, ap, ◌∙◌, arith, ◌==◌, find, option_map, long_at, long_of_longs, gdt_ents, vcpu_key, part_cmp, part_total, part_exact, nat_cmp, blanked_part, blanked_context, each_value, value_blanked, is_used_somewhere, to_each, long_of_each, renamed_part, field_named, value_renamed, renamed_context, view}
use Rattle.mig_pvtables.specs.VcpuContexts.{blanked_value}
use Rattle.mig_host_view.specs.RenamedContexts.{renamed_value}
use Rattle.mig_host_laws.specs.WorkedUserRoot.{user_table, user_root_context, user_root_host, user_root_seen}

abbrev names : ℕ → ℕ → Option ℕ
names v = pfn_in (user_root_host v).frames

abbrev test : ℕ → ℕ × HostFrame → Bool
test mfn e = e.1.machine == mfn

-- machine frame 5006 is that of PFN 7, and there is no other
only_pfn : (v mfn : ℕ) → names v mfn ≡ cond (5006 == mfn) (Some 7) None
only_pfn v mfn =
    ap (λ (es : List (ℕ × HostFrame)). option_map (λ (e : ℕ × HostFrame). e.0) (find (test mfn) es)) (maps.entries-from_sorted nat_cmp ((7, user_table) ∷ []) tt)
    ∙ elim (5006 == mfn) as (λ b. option_map (λ (e : ℕ × HostFrame). e.0) (cond b (Some (7, user_table)) (find (test mfn) [])) ≡ cond b (Some 7) None) [ true ↦ refl | false ↦ refl ]

-- the vCPU's context in the guest
abbrev seen : ℕ → List ℕ
seen v = blanked_context (renamed_context is_used_somewhere (names v) 0 (user_root_context v))

context_seen : (v : ℕ) → maps.get (view (user_root_host v)).parts (vcpu_key 0) ≡ Some (seen v)
context_seen v =
    to_each part_total part_exact blanked_part (each_value (renamed_part is_used_somewhere (names v)) (user_root_host v).parts) (vcpu_key 0) (renamed_context is_used_somewhere (names v) 0 (user_root_context v))
    (to_each part_total part_exact (renamed_part is_used_somewhere (names v)) (user_root_host v).parts (vcpu_key 0) (user_root_context v)
    (maps.get-from_sorted part_cmp ((vcpu_key 0, user_root_context v) ∷ []) (vcpu_key 0) tt))

-- what becomes of ctrlreg[1], once its frame is named by PFN and it is in blank form
abbrev root_of : ℕ → ℕ
root_of v = value_blanked (Some 18) (value_renamed is_used_somewhere (names v) 0 0 (Some 18) v % 2 ^ 64) % 2 ^ 64

number_there : (v i : ℕ) → v < 2 ^ 64 → i < 646 → long_at (user_root_context v) i ≡ cond (i == 624) v 0
number_there v i small lt = long_of_longs 646 (λ i. cond (i == 624) v 0) i lt (elim (i == 624) as (λ b. cond b v 0 < 2 ^ 64) [ true ↦ small | false ↦ omega arith ])

number_seen : (v : ℕ) → v < 2 ^ 64 → long_at (seen v) 624 ≡ root_of v
unfolding blanked_value renamed_value
number_seen v small =
    let renamed : List ℕ = renamed_context is_used_somewhere (names v) 0 (user_root_context v) in
    long_of_each 646 blanked_value renamed 624 (omega arith)
    ∙ ap (λ n. value_blanked (Some 18) n % 2 ^ 64)
    (long_of_each 646 (renamed_value is_used_somewhere (names v) 0 (gdt_ents (user_root_context v))) (user_root_context v) 624 (omega arith)
    ∙ (λ i. value_renamed is_used_somewhere (names v) 0 (number_there v 620 small (omega arith) i) (Some 18) (number_there v 624 small (omega arith) i) % 2 ^ 64))

root_seen : (v w : ℕ) → v < 2 ^ 64 → root_of v ≡ w → user_root_seen v ≡ Some w
root_seen v w small is = ap (λ (o : Option (List ℕ)). option_map (λ context. long_at context 624) o) (context_seen v) ∙ ap Some (number_seen v small ∙ is)

pub unmarked_seen : user_root_seen 0x138e000 ≡ Some 0x7001
unmarked_seen = root_seen 0x138e000 0x7001 (omega arith) (ap (λ o. value_blanked (Some 18) (field_named 18 0x138e000 o % 2 ^ 64) % 2 ^ 64) (only_pfn 0x138e000 5006))

pub marked_seen : user_root_seen 0x138e001 ≡ Some 0x7001
marked_seen = root_seen 0x138e001 0x7001 (omega arith) (ap (λ o. value_blanked (Some 18) (field_named 18 0x138e001 o % 2 ^ 64) % 2 ^ 64) (only_pfn 0x138e001 5006))

pub zero_seen : user_root_seen 0 ≡ Some 0
zero_seen = root_seen 0 0 (omega arith) refl
