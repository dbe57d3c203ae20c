-- A host whose PFN 7 is a level 4 table with machine frame 5006, and whose vCPU 0 says one number in ctrlreg[1].
use Rattle.std.specs.Prelude.{ℕ, List, [], ◌∷◌, Option, Some, ◌==◌, if◌then◌else◌}
use Rattle.mig_host_laws.specs.Common.{option_map, Pv, L4Tab, HostOf, HostFrame, long_at, longs, vcpu_key, view}
use Rattle.std.specs.FinMap as maps

-- the table, all of whose slots are empty
abbrev pub user_table : HostFrame
user_table = record { type = L4Tab; machine = 5006; page = Some (longs 512 (λ _. 0)) }

-- the context of a vCPU: ctrlreg[1] stands at place 624, and all else is 0
abbrev pub user_root_context : ℕ → List ℕ
user_root_context v = longs 646 (λ i. if i == 624 then v else 0)

-- the host whose ctrlreg[1] is v
abbrev pub user_root_host : ℕ → HostOf
user_root_host v = record { kind = Pv; width = 8; frames = maps.from_sorted ((7, user_table) ∷ []); parts = maps.from_sorted ((vcpu_key 0, user_root_context v) ∷ []) }

-- ctrlreg[1] in the guest that this host is seen as
abbrev pub user_root_seen : ℕ → Option ℕ
user_root_seen v = option_map (λ context. long_at context 624) (maps.get (view (user_root_host v)).parts (vcpu_key 0))
