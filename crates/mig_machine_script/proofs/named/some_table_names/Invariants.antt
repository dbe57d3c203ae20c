use Rattle.mig_machine_script.proofs.Common.{◌≡◌, length, list_any, level_of, table_in, names_machine, table_names, entries_from}
use Rattle.std.specs.FinMap as maps
use Rattle.mig_machine_script.proofs.named.some_table_names.Given as goal

abbrev pub invariant-loop-pfn : goal.invariant-loop-pfn
invariant-loop-pfn l = names_machine l.host.host.frames l.mfn ≡ list_any (λ e. table_names l.mfn (table_in (level_of e.1.type) e.1.page)) (entries_from l.from (maps.entries l.host.host.frames))

abbrev pub decreases-loop-pfn : goal.decreases-loop-pfn
decreases-loop-pfn l = length (entries_from l.from (maps.entries l.host.host.frames))
