use Rattle.mig_host.proofs.Common.{◌≡◌, IsSome, Some, is_some, sym, ap, subst, ◌∙◌, arith, MachinesAndSpare, AreBelowLimit}
use Rattle.mig_host.proofs.MachineMaps.{inverse_moved, below_put}
use Rattle.std.specs.FinMap as maps
use Rattle.mig_host.proofs.machine_frames.MachineFrames.replace.Goals as goal

pub invariant_of-self : goal.invariant_of-self
invariant_of-self c =
    let f = c.self.inside in let pfn = c.args.pfn in let machine = c.args.machine in
    let has : maps.get f.there.values pfn ≡ Some c.in-Some.old = sym c.in-Some.ensures.value in
    let back : IsSome (maps.get f.back.values c.in-Some.old) = ap is_some (c.self.invariant.0.0 pfn c.in-Some.old has) in (
      rw (c.put_spare-in-Some.ensures.values, c.put_spare.ensures.values, c.remove.ensures.values)
          (inverse_moved f.there.values f.back.values pfn c.in-Some.old machine c.self.invariant.0 has
          (λ q there. c.requires.unused q (sym (ap (λ (x : MachinesAndSpare). maps.get x.machines q) c.self.view_is) ∙ there))),
      omega (arith, c.self.invariant.1, c.put_spare-in-Some.ensures.in_place (ap is_some has)),
      omega (arith, c.self.invariant.2, c.remove.ensures.freed back, c.put_spare.ensures.taken),
      subst AreBelowLimit (sym c.put_spare-in-Some.ensures.values) (below_put f.there.values pfn machine c.self.invariant.3 c.requires.below),
    )
