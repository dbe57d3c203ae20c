use Rattle.mig_host.proofs.Common.{◌≡◌, sym, subst, arith, refl, MachinesAndSpare, AreBelowLimit, removed, removed_other}
use Rattle.mig_host.proofs.MachineMaps.{taken_none, inverse_taken, below_taken}
use Rattle.std.specs.FinMap as maps
use Rattle.mig_host.proofs.machine_frames.MachineFrames.remove.Goals as goal

pub invariant_of-self : goal.invariant_of-self
invariant_of-self c =
    let f = c.self.inside in let machine = c.in-Some.machine in (
      rw (c.remove.ensures.values, c.remove-in-Some.ensures.values)
          (inverse_taken f.there.values (maps.get f.back.values) (maps.get (maps.remove f.back.values machine)) c.args.pfn machine c.self.invariant.0 (sym c.in-Some.ensures.value)
          (removed f.back.values machine machine refl) (λ n ne. removed_other f.back.values machine n (λ e. ne (sym e)))),
      omega (arith, c.self.invariant.1, c.remove.ensures.spare),
      omega (arith, c.self.invariant.2, c.remove-in-Some.ensures.spare),
      subst AreBelowLimit (sym c.remove.ensures.values) (below_taken f.there.values c.args.pfn c.self.invariant.3),
    )

pub returns-in_default-clause-machines : goal.returns-in_default-clause-machines
returns-in_default-clause-machines c =
    subst (λ (x : MachinesAndSpare). x.machines ≡ maps.remove x.machines c.args.pfn) c.self.view_is (sym (taken_none c.self.inside.there.values c.args.pfn (sym c.in_default.ensures.value)))
