use Rattle.mig_legacy.proofs.Common.{◌≡◌, IsLegacyTaken, legacy_at, mean_legacy, weakened}
use Rattle.mig_legacy.proofs.Streams.{guest_meant}
use Rattle.mig_legacy.proofs.read.read_legacy.Goals as goal

pub returns-in-Ok-finish-clause-read : goal.returns-in-Ok-finish-clause-read
returns-in-Ok-finish-clause-read g c =
    weakened (IsLegacyTaken (λ frames. frames)) (λ guest s. guest ≡ mean_legacy s) _ _ legacy_at c.in-Ok.seen _
    (λ s taken. guest_meant c.in-Ok.seen s _ taken c.in-Ok.ensures.plain c.in-Ok-finish.ensures.ok) c.in-Ok.ensures.read
