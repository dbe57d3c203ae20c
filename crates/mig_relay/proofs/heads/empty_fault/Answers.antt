use Rattle.mig_relay.proofs.Common.{[], arith, fault_of_record_body}
use Rattle.mig_relay.proofs.HeadParts.{empty_told}
use Rattle.mig_relay.proofs.heads.empty_fault.Goals as goal

pub returns : goal.returns
returns c = empty_told c.args.head c.fault.result (omega (arith, c.if-head-gt0.false)) c.if-head-eq-PAGE_DATA.false (c.fault.ensures (fault_of_record_body c.args.head.kind) [] c.of_record.ensures.begun)
