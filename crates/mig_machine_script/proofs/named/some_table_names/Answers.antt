use Rattle.mig_machine_script.proofs.Common.{ap, sym, ℕ, List, list_any, HostFrame, level_of, table_in, table_names}
use Rattle.mig_guest.proofs.NextEntries.{from_zero}
use Rattle.std.specs.FinMap as maps
use Rattle.mig_machine_script.proofs.named.some_table_names.Goals as goal

pub loop-pfn-init : goal.loop-pfn-init
loop-pfn-init c = ap (λ (es : List (ℕ × HostFrame)). list_any (λ e. table_names c.args.mfn (table_in (level_of e.1.type) e.1.page)) es) (sym (from_zero (maps.entries c.args.host.now.host.frames)))
