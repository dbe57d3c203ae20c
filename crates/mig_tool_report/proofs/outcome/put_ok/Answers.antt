use Rattle.mig_tool_report.proofs.Common.{puts_then, puts_stop}
use Rattle.mig_tool_report.proofs.outcome.put_ok.Goals as goal

pub returns-in_err-put_stream-clause-bytes : goal.returns-in_err-put_stream-clause-bytes
returns-in_err-put_stream-clause-bytes g c = puts_stop _ _ _ _ _ _ c.from_residual.result c.from_residual.ensures.1 c.in_err-put_stream.ensures.bytes

pub returns-in_err-put_differs-clause-bytes : goal.returns-in_err-put_differs-clause-bytes
returns-in_err-put_differs-clause-bytes g c =
    let r = c.from_residual-in_err-put_differs.result in
    puts_then _ _ _ _ _ r c.in_ok-put_stream.ensures.bytes (puts_stop _ _ _ _ _ _ r c.from_residual-in_err-put_differs.ensures.1 c.in_err-put_differs.ensures.bytes)

pub returns-clause-bytes : goal.returns-clause-bytes
returns-clause-bytes g c =
    let r = c.put_all.result in
    puts_then _ _ _ _ _ r c.in_ok-put_stream.ensures.bytes (puts_then _ _ _ _ _ r c.in_ok-put_differs.ensures.bytes c.put_all.ensures.bytes)
