use Rattle.mig_dirtysave.proofs.Written as lemmas
use Rattle.mig_dirtysave.proofs.unended_law.unended_libxl_stream_is_no_stream.Goals as goal

pub returns-clause-all : goal.returns-clause-all
returns-clause-all c = lemmas.wrapped_all_behind

pub returns-clause-some : goal.returns-clause-some
returns-clause-some c = lemmas.wrapped_behind
