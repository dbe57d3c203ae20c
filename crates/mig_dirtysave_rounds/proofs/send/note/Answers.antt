use Rattle.mig_dirtysave_rounds.proofs.Common.{found_as}
use Rattle.mig_dirtysave_rounds.proofs.Noted.{noted_now}
use Rattle.mig_dirtysave_rounds.proofs.send.note.Goals as goal

pub returns : goal.returns
returns c = λ page. noted_now _ _ _ _ _ _ (found_as c.args.found page) c.requires.place c.put.ensures (c.is_left_out.ensures page) (c.kind_found.ensures page)
