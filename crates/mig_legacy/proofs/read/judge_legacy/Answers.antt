use Rattle.mig_legacy.proofs.Common.{IsLegacyTaken, legacy_at, weakened, outline_frames, mean_legacy}
use Rattle.mig_legacy.proofs.Streams.{frames_meant}
use Rattle.std.specs.FinMap as maps
use Rattle.mig_legacy.proofs.Common.{◌≡◌}
use Rattle.mig_legacy.proofs.read.judge_legacy.Goals as goal

pub returns-in-Ok-clause-read : goal.returns-in-Ok-clause-read
returns-in-Ok-clause-read g c =
    weakened (IsLegacyTaken outline_frames) (λ frames s. frames ≡ maps.len (mean_legacy s).frames) _ _ legacy_at c.in-Ok.seen _
    (λ s taken. frames_meant c.in-Ok.seen s _ taken c.frames.ensures.count) c.in-Ok.ensures.read
