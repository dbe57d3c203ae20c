-- A page that nobody looks at.
use Rattle.std.specs.Prelude.{◌≡◌, ℕ, List, length, Option, Result}
use Rattle.mig_bytes.specs.Bytes.{TakesFew}
use Rattle.mig_bytes.specs.Judged.{AgreesWithJudging, part}
use Rattle.mig_relay.specs.Common.{Cause, Truncated, Stop}

-- some page stood there and was taken, or no whole one did
pub record TakesUnseenPage (old new : Option (List ℕ)) (result : Result (Unit {0}) (Stop Cause)) : Type 0 where
  pub page : List ℕ
  pub whole : length page ≡ 4096
  pub read : AgreesWithJudging (λ _ bytes. bytes ≡ page) old new (part Truncated 4096) result
  pub few : TakesFew 4096 old new
