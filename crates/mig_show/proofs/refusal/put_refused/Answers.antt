use Rattle.mig_bytes.proofs.Texts.{puts_then, puts_stop}
use Rattle.mig_show.proofs.refusal.put_refused.Goals as goal

pub returns-in_err-put_all : goal.returns-in_err-put_all
returns-in_err-put_all g c =
    let r = c.from_residual-in_err-put_all.result in
    puts_then _ _ _ _ _ r c.in_ok-put_place.ensures.bytes (puts_stop _ _ _ _ _ _ r c.from_residual-in_err-put_all.ensures.1 c.in_err-put_all.ensures.bytes)
