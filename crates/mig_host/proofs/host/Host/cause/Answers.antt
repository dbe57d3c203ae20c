use Rattle.mig_host.proofs.Common.{◌≤◌, ◌^◌, sym, ap, ◌∙◌, subst, PartMap, p2m_key, count_in}
use Rattle.mig_host.proofs.SoundHosts.{few_listed, contexts_long, cause_found}
use Rattle.std.specs.FinMap as maps
use Rattle.mig_host.proofs.host.Host.cause.Goals as goal

pub unsoundness-requires-clause-list : goal.unsoundness-requires-clause-list
unsoundness-requires-clause-list c = subst (λ (m : PartMap). count_in (maps.get m p2m_key) ≤ 2 ^ 43) (sym c.parts.ensures.value) (few_listed c.args.self.now.host c.parts.ensures.valid)

pub unsoundness-requires-clause-contexts : goal.unsoundness-requires-clause-contexts
unsoundness-requires-clause-contexts c key context is code =
    contexts_long c.args.self.now.host c.parts.ensures.valid key context (ap (λ (m : PartMap). maps.get m key) (sym c.parts.ensures.value) ∙ is) code

pub returns : goal.returns
returns c =
    cause_found c.args.self.now.host c.kind.result c.frame_store.result.now.frames c.parts.result.now c.unsoundness.result c.kind.ensures c.frame_store.ensures c.parts.ensures.value c.unsoundness.ensures
