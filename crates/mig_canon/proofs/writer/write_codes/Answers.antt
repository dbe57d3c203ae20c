use Rattle.mig_canon.proofs.Common.{take, ap, sym, ◌∙◌, ◌++◌, drop-cons, take-append-drop, records_of, text_of, P2mFrames, done_stop, get_or}
use Rattle.mig_canon.proofs.writer.write_codes.Goals as goal

pub returns-in_err-write_parts-clause-bytes : goal.returns-in_err-write_parts-clause-bytes
returns-in_err-write_parts-clause-bytes g c =
    let codes = c.args.codes.now in let i = c.loop-code.code-index in
    let split = sym (take-append-drop i codes) ∙ ap (λ l. take i codes ++ l) (drop-cons codes i P2mFrames c.loop-code-test.true) in
    done_stop (λ code. text_of (records_of code c.args.guest.now)) (take i codes) (get_or codes i P2mFrames) codes _ _ _ _ _ c.from_residual.result split c.loop-code.invariant.bytes c.from_residual.ensures.1 c.in_err-write_parts.ensures.bytes
