use Rattle.mig_walk.proofs.AddressBits.{same_answer}
use Rattle.mig_walk.proofs.law.one_page_has_one_answer.Goals as goal

pub returns : goal.returns
returns c = λ s vcpu one other answer page walked. same_answer one other page s vcpu answer walked
