-- What a guest is: a kind, a number, a finite map of frames and a finite map of parts.
use Rattle.std.specs.Prelude.{ℕ, refl}
use Rattle.mig_guest.specs.Common.{Coded, code_by, coded×, coded_ℕ, Kind}
use Rattle.mig_headers.specs.contracts.kind.Kind as kind
use Rattle.mig_guest.specs.Frames.{FrameMap, frames_code}
use Rattle.mig_guest.specs.Parts.{PartMap, parts_code}

pub record GuestOf : Type 0 where
  pub kind : Kind
  pub top : ℕ
  pub frames : FrameMap
  pub parts : PartMap

-- a guest is stored as its fields
abbrev pub guest_code : Coded GuestOf
guest_code =
    code_by (Kind × (ℕ × (FrameMap × PartMap))) (coded× kind.the_row.coded (coded× coded_ℕ (coded× frames_code parts_code)))
    (λ g. (g.kind, (g.top, (g.frames, g.parts)))) (λ p. record { kind = p.0; top = p.1.0; frames = p.1.1.0; parts = p.1.1.1 }) (λ _. refl)
