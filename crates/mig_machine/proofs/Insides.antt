-- A frame number that has a machine frame is below the width.
use Rattle.mig_machine.proofs.Common.{◌≡◌, ℕ, ◌<◌, Option, Some, None, refl, option_map, HostOf, IsValid, IfSome, HostFrame}
use Rattle.std.specs.FinMap as maps

has_frame : (h : HostOf) (p mfn : ℕ) (frame : Option HostFrame) → IsValid h → maps.get h.frames p ≡ frame → option_map (λ (f : HostFrame). f.machine) frame ≡ Some mfn → p < h.width
has_frame h p mfn None valid at is = cc
has_frame h p mfn (Some frame) valid at is = (valid.frames p frame at).inside

pub inside : (h : HostOf) (mfn : ℕ) (r : Option ℕ) → IsValid h → IfSome r (λ p. option_map (λ (f : HostFrame). f.machine) (maps.get h.frames p) ≡ Some mfn) → IfSome r (λ p. p < h.width)
inside h mfn None valid back = tt
inside h mfn (Some p) valid back = has_frame h p mfn (maps.get h.frames p) valid refl back
