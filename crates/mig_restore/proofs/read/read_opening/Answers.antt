use Rattle.mig_restore.proofs.Common.{ImageHeader, marker_at, placed_then, placed_ends}
use Rattle.mig_restore_form.specs.Stream.{opening_at}
use Rattle.mig_restore_form.proofs.Laws.{behind_marker}
use Rattle.mig_restore.proofs.read.read_opening.Goals as goal

pub returns-in-Err-clause-read : goal.returns-in-Err-clause-read
unfolding opening_at
returns-in-Err-clause-read g c = placed_ends _ _ ImageHeader marker_at behind_marker _ _ c.in-Err.stop c.at.result c.at.ensures c.in-Err.ensures.read

pub returns-clause-read : goal.returns-clause-read
unfolding opening_at
returns-clause-read g c =
    placed_then _ _ ImageHeader marker_at behind_marker _ _ _ _ _ c.in_default.ensures.read (λ _ _. c.read_headers.ensures.read)
