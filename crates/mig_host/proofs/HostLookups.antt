-- The machine frame of a PFN of a host, and the PFN of a machine frame.
use Rattle.mig_host.proofs.Common.{◌≡◌, ℕ, Option, Some, None, IfSome, IfNone, sym, ap, subst, ◌∙◌, option_map, FrameMap, HostFrame, IsOneToOne, MachineMap, AreMatched, pfn_in}
use Rattle.mig_host.proofs.HostMaps.{joined, machine_joined, machine_found}
use Rattle.mig_host.proofs.Machines.{pfn_of_machine, no_pfn}
use Rattle.std.specs.FinMap as maps

module _ (frames : FrameMap) (machines : MachineMap) (matched : AreMatched frames machines) where
  abbrev machine_at : ℕ → Option ℕ
  machine_at pfn = option_map (λ (f : HostFrame). f.machine) (maps.get (joined frames machines) pfn)

  pub machine_there : (machine : ℕ) (r : Option ℕ) → IfSome r (λ pfn. maps.get machines pfn ≡ Some machine) → IfSome r (λ pfn. machine_at pfn ≡ Some machine)
  machine_there machine None some = tt
  machine_there machine (Some pfn) some = sym (machine_joined frames machines matched pfn) ∙ some

  module _ (one : IsOneToOne (joined frames machines)) where
    goes_back : (pfn machine : ℕ) → maps.get machines pfn ≡ Some machine → pfn_in (joined frames machines) machine ≡ Some pfn
    goes_back pfn machine is =
        let (f, found, same) = machine_found frames machines matched (maps.get (joined frames machines) pfn) machine (sym is ∙ machine_joined frames machines matched pfn) in
        subst (λ (m : ℕ). pfn_in (joined frames machines) m ≡ Some pfn) same (pfn_of_machine (joined frames machines) one pfn f found)

    pub host_machine_back : (pfn : ℕ) (r : Option ℕ) → r ≡ maps.get machines pfn → IfSome r (λ machine. pfn_in (joined frames machines) machine ≡ Some pfn)
    host_machine_back pfn None is = tt
    host_machine_back pfn (Some machine) is = goes_back pfn machine (sym is)

    pub host_pfn_found : (machine : ℕ) (r : Option ℕ) → IfSome r (λ pfn. maps.get machines pfn ≡ Some machine) → IfNone r ((pfn : ℕ) → maps.get machines pfn ≡ Some machine → ⊥) → r ≡ pfn_in (joined frames machines) machine
    host_pfn_found machine (Some pfn) some none = sym (goes_back pfn machine some)
    host_pfn_found machine None some none =
        sym (no_pfn (λ (f : HostFrame). f.machine) machine (joined frames machines) (λ q f at same.
        none q (machine_joined frames machines matched q ∙ ap (option_map (λ (f : HostFrame). f.machine)) at ∙ ap Some same)))
