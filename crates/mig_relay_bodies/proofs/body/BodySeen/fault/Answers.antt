use Rattle.mig_relay_bodies.proofs.Common.{sym, ◌∙◌, Entries, Texts, Params, Verdict}
use Rattle.mig_relay_bodies.proofs.NextPieces.{known_as, entries_end, texts_end, params_end, verdict_end}
use Rattle.mig_relay_bodies.proofs.body.BodySeen.fault.Goals as goal

pub returns-in-Entries : goal.returns-in-Entries
returns-in-Entries c = λ fault body is.
    let seen = c.args.self.now in
    entries_end seen.len fault body (sym is.taken ∙ c.requires) c.in-Entries.chain _ c.chain_fault.ensures (known_as seen (Entries c.in-Entries.chain) fault body c.in-Entries.is is)

pub returns-in-Texts : goal.returns-in-Texts
returns-in-Texts c = λ fault body is.
    let seen = c.args.self.now in
    texts_end seen.len fault body (sym is.taken ∙ c.requires) c.in-Texts.named c.pairs_fault.result _ c.in-Texts.pairs c.pairs_fault.ensures c.or.ensures (known_as seen (Texts c.in-Texts.named c.in-Texts.pairs) fault body c.in-Texts.is is)

pub returns-in-Params : goal.returns-in-Params
returns-in-Params c = λ fault body is.
    let seen = c.args.self.now in
    params_end seen.len fault body (sym is.taken ∙ c.requires) c.in-Params.first (known_as seen (Params c.in-Params.first) fault body c.in-Params.is is)

pub returns-in-Verdict : goal.returns-in-Verdict
returns-in-Verdict c = λ fault body is.
    let seen = c.args.self.now in
    verdict_end seen.len fault body (sym is.taken ∙ c.requires) c.in-Verdict.fault (known_as seen (Verdict c.in-Verdict.fault) fault body c.in-Verdict.is is)
