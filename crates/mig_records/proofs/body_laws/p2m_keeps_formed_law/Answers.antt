use Rattle.mig_records.proofs.P2mFormed.{p2m_keeps}
use Rattle.mig_records.proofs.body_laws.p2m_keeps_formed_law.Goals as goal

pub returns : goal.returns
returns c = λ g last frames body pv none_yet all is formed. p2m_keeps g pv formed none_yet last frames body all is
