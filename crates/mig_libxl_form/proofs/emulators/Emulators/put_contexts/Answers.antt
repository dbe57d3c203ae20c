use Rattle.mig_libxl_form.proofs.Common.{ap, subst, Some, EmulatorsOf, PartMap, NextBehind}
use Rattle.mig_libxl_form.proofs.Begun.{one_more, still_leads}
use Rattle.std.specs.FinMap as maps
use Rattle.mig_libxl_form.proofs.emulators.Emulators.put_contexts.Goals as goal

pub loop-key-preserved : goal.loop-key-preserved
loop-key-preserved c =
    let first = subst (λ (m : PartMap). NextBehind c.loop-key.after (maps.entries m) (Some (c.in-Some.key, c.in-Some.bytes.now))) (ap (λ (e : EmulatorsOf). e.contexts) c.self.view_is) c.in-Some.ensures in
    let is = c.in_ok-set_part.ensures.ok in
    record { leads = still_leads _ _ _ _ _ first is _ c.loop-key.invariant.leads; begun = one_more _ _ _ _ _ first is _ _ c.loop-key.invariant.begun }
