use Rattle.mig_dirtysave_rounds.proofs.Common.{arith, ap, MachineState, Looks, LookedUp}
use Rattle.mig_dirtysave_rounds.proofs.table.rename_slot.Goals as goal

looked : (s t : MachineState) → LookedUp s t → Looks 1 s t
looked s t l = record {
  ran = l.ran;
  paused = l.paused;
  taken = ap (λ h. h.taken) l.history;
  live = ap (λ h. h.live) l.history;
  read = ap (λ h. h.since.read) l.history;
  twice = ap (λ h. h.since.twice) l.history;
  least = omega (arith, ap (λ h. h.since.calls) l.history);
  most = omega (arith, ap (λ h. h.since.calls) l.history);
}

pub returns-in-Ok-Some-clause-looks : goal.returns-in-Ok-Some-clause-looks
returns-in-Ok-Some-clause-looks g c = looked _ _ c.in-Ok-Some.ensures.ok

pub returns-in-Ok-None-clause-looks : goal.returns-in-Ok-None-clause-looks
returns-in-Ok-None-clause-looks g c = looked _ _ c.in-Ok-None.ensures.ok
