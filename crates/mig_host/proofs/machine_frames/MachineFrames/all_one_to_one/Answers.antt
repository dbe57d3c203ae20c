use Rattle.mig_host.proofs.Common.{◌≡◌, ℕ, ◌<◌, Some, subst, MachinesAndSpare, machine_limit, pfn_of_machine_in}
use Rattle.mig_host.proofs.OneToOne.{map_there, map_back}
use Rattle.std.specs.FinMap as maps
use Rattle.mig_host.proofs.machine_frames.MachineFrames.all_one_to_one.Goals as goal

pub returns : goal.returns
returns c =
    let f = c.self.inside in record {
      there = subst (λ (x : MachinesAndSpare). (machine pfn : ℕ) → pfn_of_machine_in x.machines machine ≡ Some pfn → maps.get x.machines pfn ≡ Some machine) c.self.view_is (map_there f.there.values (maps.get f.back.values) c.self.invariant.0);
      back = subst (λ (x : MachinesAndSpare). (machine pfn : ℕ) → maps.get x.machines pfn ≡ Some machine → pfn_of_machine_in x.machines machine ≡ Some pfn) c.self.view_is (map_back f.there.values (maps.get f.back.values) c.self.invariant.0);
      small = subst (λ (x : MachinesAndSpare). (machine pfn : ℕ) → maps.get x.machines pfn ≡ Some machine → machine < machine_limit) c.self.view_is (λ machine pfn is. c.self.invariant.3 pfn machine is);
    }
