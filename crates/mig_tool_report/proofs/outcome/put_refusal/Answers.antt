use Rattle.mig_tool_report.proofs.Common.{puts_then, puts_stop}
use Rattle.mig_tool_report.proofs.outcome.put_refusal.Goals as goal

pub returns-in_err-put_all-clause-bytes : goal.returns-in_err-put_all-clause-bytes
returns-in_err-put_all-clause-bytes g c = puts_stop _ _ _ _ _ _ c.from_residual.result c.from_residual.ensures.1 c.in_err-put_all.ensures.bytes

pub returns-in_err-put_refusal_place-clause-bytes : goal.returns-in_err-put_refusal_place-clause-bytes
returns-in_err-put_refusal_place-clause-bytes g c =
    let r = c.from_residual-in_err-put_refusal_place.result in
    puts_then _ _ _ _ _ r c.in_ok-put_all.ensures.bytes (puts_stop _ _ _ _ _ _ r c.from_residual-in_err-put_refusal_place.ensures.1 c.in_err-put_refusal_place.ensures.bytes)

pub returns-in_err-put_all-2-clause-bytes : goal.returns-in_err-put_all-2-clause-bytes
returns-in_err-put_all-2-clause-bytes g c =
    let r = c.from_residual-in_err-put_all-2.result in
    puts_then _ _ _ _ _ r c.in_ok-put_all.ensures.bytes (puts_then _ _ _ _ _ r c.in_ok-put_refusal_place.ensures.bytes (puts_stop _ _ _ _ _ _ r c.from_residual-in_err-put_all-2.ensures.1 c.in_err-put_all-2.ensures.bytes))

pub returns-in_err-put_refusal_cause-clause-bytes : goal.returns-in_err-put_refusal_cause-clause-bytes
returns-in_err-put_refusal_cause-clause-bytes g c =
    let r = c.from_residual-in_err-put_refusal_cause.result in
    puts_then _ _ _ _ _ r c.in_ok-put_all.ensures.bytes (puts_then _ _ _ _ _ r c.in_ok-put_refusal_place.ensures.bytes (puts_then _ _ _ _ _ r c.in_ok-put_all-2.ensures.bytes
    (puts_stop _ _ _ _ _ _ r c.from_residual-in_err-put_refusal_cause.ensures.1 c.in_err-put_refusal_cause.ensures.bytes)))

pub returns-clause-bytes : goal.returns-clause-bytes
returns-clause-bytes g c =
    let r = c.put_all-3.result in
    puts_then _ _ _ _ _ r c.in_ok-put_all.ensures.bytes (puts_then _ _ _ _ _ r c.in_ok-put_refusal_place.ensures.bytes (puts_then _ _ _ _ _ r c.in_ok-put_all-2.ensures.bytes
    (puts_then _ _ _ _ _ r c.in_ok-put_refusal_cause.ensures.bytes c.put_all-3.ensures.bytes)))
