use Rattle.mig_dirtysave.proofs.Written as lemmas
use Rattle.mig_dirtysave.proofs.unended_law.unended_image_is_no_stream.Goals as goal

pub returns-clause-headers : goal.returns-clause-headers
returns-clause-headers c = lemmas.bare_headers

pub returns-clause-all : goal.returns-clause-all
returns-clause-all c = lemmas.bare_all

pub returns-clause-some : goal.returns-clause-some
returns-clause-some c = lemmas.bare_some
