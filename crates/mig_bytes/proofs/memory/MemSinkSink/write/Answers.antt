use Rattle.mig_bytes.proofs.Common.{rules, inl, IsListed}
use Rattle.mig_bytes.proofs.memory.MemSinkSink.write.Goals as goal

pub returns-then-is_listed-clause-failed : goal.returns-then-is_listed-clause-failed
returns-then-is_listed-clause-failed c =
    let listed : IsListed c.deref.result.now c.self.inside.number = search rules in
    inl (search rules)

pub returns-then-is_listed-clause-starved : goal.returns-then-is_listed-clause-starved
returns-then-is_listed-clause-starved c =
    let inside : IsListed c.deref.result.now c.self.inside.number = search rules in
    let listed : IsListed c.args.self.now.failing c.args.self.now.number = search rules in
    λ other. absurd (other listed)
