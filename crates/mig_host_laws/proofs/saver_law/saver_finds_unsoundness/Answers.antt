use Rattle.mig_host_laws.proofs.Savers.{saver_names, saver_finds, row_stands}
use Rattle.mig_host_laws.proofs.saver_law.saver_finds_unsoundness.Goals as goal

pub returns : goal.returns
returns c = record { named = saver_names; row = saver_finds; stands = row_stands }
