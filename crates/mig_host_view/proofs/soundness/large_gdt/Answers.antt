use Rattle.mig_host_view.proofs.Common.{large_in, contexts_start}
use Rattle.mig_host_view.proofs.soundness.large_gdt.Goals as goal

pub loop-key-init : goal.loop-key-init
loop-key-init c = record { code = tt; so = contexts_start large_in c.args.parts.now }
