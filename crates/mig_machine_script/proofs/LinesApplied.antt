-- What a line needs where it applies, and the order in which it is tested.
use Rattle.mig_machine_script.proofs.Common.{◌≡◌, ℕ, ◌<◌, Bool, true, not, length, Option, Some, None, subst, option_map, ltb-true, HostOf, HostFrame, HostFrames, Add, Exchange, applies, is_unnamed, names_machine, and_parts, len-entries}
use Rattle.mig_pagetypes.specs.Limits.{most_frames}
use Rattle.mig_machine_script.proofs.NamedMachines.{IsUnused, unused}
use Rattle.std.specs.FinMap as maps

pub add_unused : (h : HostOf) (pfn mfn : ℕ) → applies h (Add pfn mfn) ≡ true → IsUnused h.frames mfn
add_unused h pfn mfn is = unused h mfn (and_parts _ _ (and_parts _ _ is).0).1

pub add_few : (h : HostOf) (pfn mfn : ℕ) → applies h (Add pfn mfn) ≡ true → length (maps.entries h.frames) < most_frames
add_few h pfn mfn is = subst (λ (n : ℕ). n < most_frames) (len-entries h.frames) (ltb-true (maps.len h.frames) most_frames (and_parts _ _ is).1)

pub exchange_unused : (h : HostOf) (pfn mfn : ℕ) → applies h (Exchange pfn mfn) ≡ true → IsUnused h.frames mfn
exchange_unused h pfn mfn is = unused h mfn (and_parts _ _ is).1

-- the machine frame of a frame that may go
pub own_unnamed : (frames : HostFrames) (o : Option HostFrame) (own : ℕ) (named : Bool) → Some own ≡ option_map (λ (f : HostFrame). f.machine) o → named ≡ names_machine frames own → not named ≡ is_unnamed frames o
own_unnamed frames None own named is same = cc
own_unnamed frames (Some f) own named is same = cc
