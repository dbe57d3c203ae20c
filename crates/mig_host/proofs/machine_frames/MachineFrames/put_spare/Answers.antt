use Rattle.mig_host.proofs.Common.{sym, ap, subst, ◌∙◌, arith, MachinesAndSpare, refl, AreBelowLimit, inserted, inserted_other}
use Rattle.mig_host.proofs.MachineMaps.{inverse_put, below_put}
use Rattle.std.specs.FinMap as maps
use Rattle.mig_host.proofs.machine_frames.MachineFrames.put_spare.Goals as goal

pub invariant_of-self : goal.invariant_of-self
invariant_of-self c =
    let f = c.self.inside in let pfn = c.args.pfn in let machine = c.args.machine in
    let spare = ap (λ (x : MachinesAndSpare). x.spare) c.self.view_is in (
      rw (c.put_spare.ensures.values, c.put_spare-2.ensures.values)
          (inverse_put f.there.values (maps.get f.back.values) (maps.get (maps.insert f.back.values machine pfn)) pfn machine c.self.invariant.0
          (ap (λ (x : MachinesAndSpare). maps.get x.machines pfn) c.self.view_is ∙ c.requires.absent)
          (λ q has. c.requires.unused q (sym (ap (λ (x : MachinesAndSpare). maps.get x.machines q) c.self.view_is) ∙ has))
          (inserted f.back.values machine machine pfn refl) (λ n ne. inserted_other f.back.values machine n pfn (λ e. ne (sym e)))),
      omega (arith, c.self.invariant.1, c.put_spare.ensures.taken),
      omega (arith, c.self.invariant.2, c.put_spare-2.ensures.taken),
      subst AreBelowLimit (sym c.put_spare.ensures.values) (below_put f.there.values pfn machine c.self.invariant.3 c.requires.below),
    )
