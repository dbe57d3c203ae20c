use Rattle.mig_pvtables.proofs.BlankCodes.{code_start, code_next, code_size, code_fewer, code_end}
use Rattle.mig_pvtables.proofs.walking.each_context.Goals as goal

pub loop-key-init : goal.loop-key-init
loop-key-init g c = code_start

pub change_vcpu-requires-clause-long : goal.change_vcpu-requires-clause-long
change_vcpu-requires-clause-long g c = code_size c.loop-key.invariant c.in-Some.ensures.next 5168 c.requires.long

pub loop-key-preserved : goal.loop-key-preserved
loop-key-preserved g c = code_next c.loop-key.invariant c.in-Some.ensures.next c.change_vcpu.ensures

pub loop-key-smaller : goal.loop-key-smaller
loop-key-smaller g c = code_fewer c.loop-key.invariant c.in-Some.ensures.next

pub returns : goal.returns
returns g c = code_end c.loop-key.invariant c.in_default.ensures.next
