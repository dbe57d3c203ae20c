use Rattle.mig_show.proofs.Common.{refl}
use Rattle.std.specs.Fmt.{digits}
use Rattle.serde_json.proofs.OnLiterals.{serde_json_on_literals}
use Rattle.mig_show.proofs.laws.smallest_stream_is_shown.Goals as goal

pub returns : goal.returns
unfolding serde_json_on_literals digits
returns c = refl
