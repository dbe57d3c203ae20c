use Rattle.mig_tool_report.proofs.Common.{puts_then, puts_stop}
use Rattle.mig_tool_report.proofs.outcome.put_stream.Goals as goal

pub returns-in_err-put_field-clause-bytes : goal.returns-in_err-put_field-clause-bytes
returns-in_err-put_field-clause-bytes g c =
    let r = c.from_residual.result in
    puts_stop _ _ _ _ _ _ r c.from_residual.ensures.1 c.in_err-put_field.ensures.bytes

pub returns-in_err-put_all-clause-bytes : goal.returns-in_err-put_all-clause-bytes
returns-in_err-put_all-clause-bytes g c =
    let r = c.from_residual-in_err-put_all.result in
    puts_then _ _ _ _ _ r c.in_ok-put_field.ensures.bytes (puts_stop _ _ _ _ _ _ r c.from_residual-in_err-put_all.ensures.1 c.in_err-put_all.ensures.bytes)

pub returns-in_err-put_kind-clause-bytes : goal.returns-in_err-put_kind-clause-bytes
returns-in_err-put_kind-clause-bytes g c =
    let r = c.from_residual-in_err-put_kind.result in
    puts_then _ _ _ _ _ r c.in_ok-put_field.ensures.bytes (puts_then _ _ _ _ _ r c.in_ok-put_all.ensures.bytes (puts_stop _ _ _ _ _ _ r c.from_residual-in_err-put_kind.ensures.1 c.in_err-put_kind.ensures.bytes))

pub returns-in_err-put_field-2-clause-bytes : goal.returns-in_err-put_field-2-clause-bytes
returns-in_err-put_field-2-clause-bytes g c =
    let r = c.from_residual-in_err-put_field-2.result in
    puts_then _ _ _ _ _ r c.in_ok-put_field.ensures.bytes (puts_then _ _ _ _ _ r c.in_ok-put_all.ensures.bytes (puts_then _ _ _ _ _ r c.in_ok-put_kind.ensures.bytes (puts_stop _ _ _ _ _ _ r c.from_residual-in_err-put_field-2.ensures.1 c.in_err-put_field-2.ensures.bytes)))

pub returns-clause-bytes : goal.returns-clause-bytes
returns-clause-bytes g c =
    let r = c.put_field-3.result in
    puts_then _ _ _ _ _ r c.in_ok-put_field.ensures.bytes (puts_then _ _ _ _ _ r c.in_ok-put_all.ensures.bytes (puts_then _ _ _ _ _ r c.in_ok-put_kind.ensures.bytes (puts_then _ _ _ _ _ r c.in_ok-put_field-2.ensures.bytes c.put_field-3.ensures.bytes)))
