use Rattle.mig_machine_laws.proofs.LinesLeave.{retype_drops, retype_keeps, retype_zeros}
use Rattle.mig_machine_laws.proofs.script_law.lines_leave_what_they_say.Goals as goal

pub returns-clause-retype_keeps : goal.returns-clause-retype_keeps
returns-clause-retype_keeps c = retype_keeps

pub returns-clause-retype_zeros : goal.returns-clause-retype_zeros
returns-clause-retype_zeros c = retype_zeros

pub returns-clause-retype_drops : goal.returns-clause-retype_drops
returns-clause-retype_drops c = retype_drops
