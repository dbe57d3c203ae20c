-- The canonical stream of a guest whose frames come from elsewhere: all else is this guest's.
use Rattle.std.specs.Prelude.{ℕ, List, [], ◌++◌}
use Rattle.mig_canon.specs.Common.{GuestOf, spelled, text_of, FrameMap}
use Rattle.mig_canon.specs.Canon.{headers, info_records, static_bodies, p2m_records, last_records}

-- the guest with other frames
abbrev pub with_frames : GuestOf → FrameMap → GuestOf
with_frames g frames = record { kind = g.kind; top = g.top; frames = frames; parts = g.parts }

-- ---- what is around the frames

unfoldable pub before_the_frames : GuestOf → List ℕ
before_the_frames g = headers g.kind ++ (text_of (info_records g.kind) ++ (text_of (static_bodies g) ++ text_of (p2m_records g.kind g)))

unfoldable pub behind_the_frames : GuestOf → List ℕ
behind_the_frames g = text_of (last_records g.kind g) ++ spelled 0 []
