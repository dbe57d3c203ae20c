-- Where nothing is wrong, a host is sound, and a PV guest that is well formed is whole; and the other way round.
use Rattle.mig_host_laws.proofs.Common.{number_of_cause, Cause, Unsound, number_of_unsound, HostOf, ◌≡◌, ℕ, ◌↔◌, GuestOf, Pv, fault_of_guest, IsSound, unsoundness, UnsoundHas, IsWrongAtEnd, IsFormed, IsWhole}
use Rattle.mig_host_view.proofs.SoundRows.{sound_is_faultless}
use Rattle.mig_host_laws.proofs.AtEnd.{fault_named}
use Rattle.mig_host_laws.proofs.Instances.{unsoundness_named}
use Rattle.mig_host_laws.proofs.NamedFirst.{none_named}

pub nothing_unsound : (h : HostOf) → IsSound h ↔ ((place : ℕ) (cause : Unsound) → UnsoundHas h place cause → ⊥)
nothing_unsound h =
    let sound = sound_is_faultless h in
    let none = none_named number_of_unsound (UnsoundHas h) (unsoundness h) (unsoundness_named h) in
    (λ is. none.0 (sound.0 is), λ nothing. sound.1 (none.1 nothing))

pub nothing_at_end : (g : GuestOf) → g.kind ≡ Pv → IsWhole g ↔ (IsFormed g × ((place : ℕ) (cause : Cause) → IsWrongAtEnd g place cause → ⊥))
nothing_at_end g pv =
    let none = none_named number_of_cause (IsWrongAtEnd g) (fault_of_guest g) (fault_named g pv) in
    (λ is. (is.formed, none.0 is.faultless), λ has. record { formed = has.0; faultless = none.1 has.1 })
