use Rattle.mig_libxl.proofs.Common.{arith, refl, rules, is_libxl_ended, IsLibxlSeen, FollowsLibxl, libxl_record_at, ended_more, found}
use Rattle.mig_bytes.proofs.Arrivals.{arrived_first, arrived_next, arrived_end, arrived_ends}
use Rattle.mig_libxl.proofs.Arrivals.{is_last}
use Rattle.mig_libxl.proofs.read.take_records.Goals as goal

pub loop-seen-init : goal.loop-seen-init
loop-seen-init g c = record {
  arrived = arrived_first is_libxl_ended libxl_record_at (IsLibxlSeen g.I.KeptImage.is_of) _ c.new-seen.result c.new-seen.ensures.seen refl;
  begun = c.new-seen.ensures.begun;
  few = omega (arith, c.new-seen.ensures.seen.count);
  quiet = search rules;
}

pub loop-seen-preserved : goal.loop-seen-preserved
loop-seen-preserved g c = record {
  arrived = arrived_next is_libxl_ended libxl_record_at (IsLibxlSeen g.I.KeptImage.is_of) is_last ended_more _ _ _ c.loop-seen.seen c.take_record.new.self c.in_ok-take_record.field-0 (search rules) c.loop-seen.invariant.arrived c.in_ok-take_record.ensures.read;
  begun = c.in_ok-take_record.ensures.begun;
  few = search rules;
  quiet = search rules;
}

pub returns-in_err-take_record-clause-read : goal.returns-in_err-take_record-clause-read
returns-in_err-take_record-clause-read g c =
    arrived_ends is_libxl_ended libxl_record_at (IsLibxlSeen g.I.KeptImage.is_of) is_last ended_more FollowsLibxl found _ _ _ c.loop-seen.seen c.take_record.new.self c.in_err-take_record.field-0.0 c.from_residual.result (search rules) c.loop-seen.invariant.arrived c.in_err-take_record.ensures.read

pub returns-clause-read : goal.returns-clause-read
returns-clause-read g c =
    arrived_end is_libxl_ended libxl_record_at (IsLibxlSeen g.I.KeptImage.is_of) is_last ended_more FollowsLibxl found _ _ _ c.loop-seen.seen c.take_record.new.self c.in_ok-take_record.field-0 (search rules) c.loop-seen.invariant.arrived c.in_ok-take_record.ensures.read
