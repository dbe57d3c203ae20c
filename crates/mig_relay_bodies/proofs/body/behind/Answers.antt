use Rattle.mig_relay_bodies.proofs.Common.{arith, Nothing, Texts, Params, Basic, Verdict}
use Rattle.mig_relay_bodies.proofs.NextPieces.{known_as, size_as, first_behind, texts_behind, params_behind, basic_behind, verdict_behind}
use Rattle.mig_relay_bodies.proofs.body.behind.Goals as goal

pub returns-in-Nothing : goal.returns-in-Nothing
returns-in-Nothing c = λ fault begun is.
    let seen = c.args.seen in let piece = c.args.piece.now in let knows = Nothing c.in-Nothing.form in
    first_behind seen.len fault begun piece c.in-Nothing.form _ c.behind_first.ensures (known_as seen knows fault begun c.in-Nothing.is is) (size_as seen knows fault begun piece c.in-Nothing.is is c.requires.whole)

pub returns-in-Texts : goal.returns-in-Texts
returns-in-Texts c = λ fault begun is.
    let seen = c.args.seen in let piece = c.args.piece.now in let knows = Texts c.in-Texts.named c.in-Texts.pairs in
    texts_behind seen.len fault begun piece c.in-Texts.named c.in-Texts.pairs _ (omega arith) (omega (arith, is.taken, c.requires.some)) c.behind_bytes.ensures
    (known_as seen knows fault begun c.in-Texts.is is) (size_as seen knows fault begun piece c.in-Texts.is is c.requires.whole)

pub returns-in-Params : goal.returns-in-Params
returns-in-Params c = λ fault begun is.
    let seen = c.args.seen in let piece = c.args.piece.now in let knows = Params c.in-Params.first in
    params_behind seen.len fault begun piece c.in-Params.first c.params_fault.result _ c.params_fault.ensures c.or.ensures
    (known_as seen knows fault begun c.in-Params.is is) (size_as seen knows fault begun piece c.in-Params.is is c.requires.whole)

pub returns-in-Basic : goal.returns-in-Basic
returns-in-Basic c = λ fault begun is.
    let seen = c.args.seen in let piece = c.args.piece.now in let knows = Basic c.in-Basic.named in
    basic_behind seen.len fault begun piece c.in-Basic.named c.gdt_fault.result _ c.gdt_fault.ensures c.or-in-Basic.ensures
    (known_as seen knows fault begun c.in-Basic.is is) (size_as seen knows fault begun piece c.in-Basic.is is c.requires.whole)

pub returns-in-Verdict : goal.returns-in-Verdict
returns-in-Verdict c = λ fault begun is.
    verdict_behind c.args.seen.len fault begun c.args.piece.now c.in-Verdict.fault (known_as c.args.seen (Verdict c.in-Verdict.fault) fault begun c.in-Verdict.is is)
