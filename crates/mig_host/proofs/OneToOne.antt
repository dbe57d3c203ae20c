-- The frame numbers of a host and their machine frames are one to one.
use Rattle.mig_host.proofs.Common.{◌≡◌, ℕ, ◌<◌, Bool, true, false, cond, ◌==◌, List, [], ◌∷◌, Option, Some, None, refl, sym, ap, subst, ◌∙◌, All, All-head, eqb-true, none-some, same_Some, option_map, nat_cmp_total, nat_cmp-IsAntisymmetric, HostFrame, HostOf, IsValid, MachineMap, AreInverse, All-tail, machine_limit, pfn_in, pfn_of_machine_in}
use Rattle.mig_host.proofs.InOrder.{all_there, found_passes}
use Rattle.mig_host.proofs.MachineMaps.{machine_back, pfn_looked_up}
use Rattle.mig_host.proofs.Machines.{pfn_of_machine}
use Rattle.std.specs.List as list
use Rattle.std.specs.FinMap as maps

found_holds : {A : Type 0} (P : A → Type 0) (p : A → Bool) (xs : List A) (x : A) → All P xs → list.find p xs ≡ Some x → P x
found_holds P p [] x all is = absurd (none-some x is)
found_holds P p (y ∷ ys) x all is = elim (p y) as (λ b. cond b (Some y) (list.find p ys) ≡ Some x → P x) [
  | true ↦ λ at. subst P (same_Some y x at) (All-head P y ys all)
  | false ↦ λ at. found_holds P p ys x (All-tail P y ys all) at
] is

-- ---- a host

module _ (h : HostOf) (valid : IsValid h) where
  abbrev machine_at : ℕ → Option ℕ
  machine_at pfn = option_map (λ (f : HostFrame). f.machine) (maps.get h.frames pfn)

  pub host_there : (mfn pfn : ℕ) → pfn_in h.frames mfn ≡ Some pfn → machine_at pfn ≡ Some mfn
  host_there mfn pfn is = by_case (list.find test (maps.entries h.frames)) refl is
    where
      test : ℕ × HostFrame → Bool
      test e = e.1.machine == mfn

      by_case : (o : Option (ℕ × HostFrame)) → list.find test (maps.entries h.frames) ≡ o → option_map (λ (e : ℕ × HostFrame). e.0) o ≡ Some pfn → machine_at pfn ≡ Some mfn
      by_case None found same = absurd (none-some pfn same)
      by_case (Some e) found same =
          let there : maps.get h.frames e.0 ≡ Some e.1 = found_holds (λ (e : ℕ × HostFrame). maps.get h.frames e.0 ≡ Some e.1) test (maps.entries h.frames) e (all_there nat_cmp_total nat_cmp-IsAntisymmetric h.frames) found in
          let passes = eqb-true e.1.machine mfn (found_passes test (maps.entries h.frames) e found) in
          ap machine_at (sym (same_Some e.0 pfn same)) ∙ ap (option_map (λ (f : HostFrame). f.machine)) there ∙ ap Some passes

  -- a frame of this machine frame
  has_frame : (mfn : ℕ) (o : Option HostFrame) → option_map (λ (f : HostFrame). f.machine) o ≡ Some mfn → (f : HostFrame) × (o ≡ Some f) × (f.machine ≡ mfn)
  has_frame mfn None is = absurd (none-some mfn is)
  has_frame mfn (Some f) is = (f, refl, same_Some f.machine mfn is)

  pub host_back : (mfn pfn : ℕ) → machine_at pfn ≡ Some mfn → pfn_in h.frames mfn ≡ Some pfn
  host_back mfn pfn is =
      let (f, found, says) = has_frame mfn (maps.get h.frames pfn) is in
      ap (pfn_in h.frames) (sym says) ∙ pfn_of_machine h.frames valid.one_to_one pfn f found

  pub host_small : (mfn pfn : ℕ) → machine_at pfn ≡ Some mfn → mfn < machine_limit
  host_small mfn pfn is =
      let (f, found, says) = has_frame mfn (maps.get h.frames pfn) is in
      subst (λ n. n < machine_limit) says (valid.frames pfn f found).machine

-- ---- machine frames by PFN, and a map back

module _ (there : MachineMap) (back : ℕ → Option ℕ) (inverse : AreInverse there back) where
  pub map_there : (machine pfn : ℕ) → pfn_of_machine_in there machine ≡ Some pfn → maps.get there pfn ≡ Some machine
  map_there machine pfn is = inverse.1 machine pfn (pfn_looked_up there back inverse machine (back machine) refl ∙ is)

  pub map_back : (machine pfn : ℕ) → maps.get there pfn ≡ Some machine → pfn_of_machine_in there machine ≡ Some pfn
  map_back machine pfn is = machine_back there back inverse pfn (Some machine) (sym is)
