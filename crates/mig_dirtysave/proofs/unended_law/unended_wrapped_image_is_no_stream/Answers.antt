use Rattle.mig_dirtysave.proofs.Written as lemmas
use Rattle.mig_dirtysave.proofs.unended_law.unended_wrapped_image_is_no_stream.Goals as goal

pub returns-clause-opening : goal.returns-clause-opening
returns-clause-opening c = lemmas.wrapped_opening

pub returns-clause-headers : goal.returns-clause-headers
returns-clause-headers c = lemmas.wrapped_headers

pub returns-clause-all : goal.returns-clause-all
returns-clause-all c = lemmas.wrapped_all

pub returns-clause-some : goal.returns-clause-some
returns-clause-some c = lemmas.wrapped_some
