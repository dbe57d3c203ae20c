use Rattle.mig_canon.proofs.Common.{sym, puts_then, puts_stop, puts_same, record_text}
use Rattle.mig_canon.proofs.Spelling.{named_len}
use Rattle.mig_canon.proofs.parts.write_named.Goals as goal

pub returns-in_err-write_head-clause-bytes : goal.returns-in_err-write_head-clause-bytes
returns-in_err-write_head-clause-bytes g c =
    let r = c.from_residual.result in
    puts_same _ _ _ _ r (record_text c.args.number _ _ (sym (named_len c.args.key.key1 c.args.key.key2 c.args.second c.args.ignored c.args.value.now))) (puts_stop _ _ _ _ _ _ r c.from_residual.ensures.1 c.in_err-write_head.ensures.bytes)

pub returns-in_err-write_keyed-clause-bytes : goal.returns-in_err-write_keyed-clause-bytes
returns-in_err-write_keyed-clause-bytes g c =
    let r = c.from_residual-in_err-write_keyed.result in
    puts_same _ _ _ _ r (record_text c.args.number _ _ (sym (named_len c.args.key.key1 c.args.key.key2 c.args.second c.args.ignored c.args.value.now)))
    (puts_then _ _ _ _ _ r c.in_ok-write_head.ensures.bytes (puts_stop _ _ _ _ _ _ r c.from_residual-in_err-write_keyed.ensures.1 c.in_err-write_keyed.ensures.bytes))

pub returns-clause-bytes : goal.returns-clause-bytes
returns-clause-bytes g c =
    let r = c.write_padding.result in
    puts_same _ _ _ _ r (record_text c.args.number _ _ (sym (named_len c.args.key.key1 c.args.key.key2 c.args.second c.args.ignored c.args.value.now)))
    (puts_then _ _ _ _ _ r c.in_ok-write_head.ensures.bytes (puts_then _ _ _ _ _ r c.in_ok-write_keyed.ensures.bytes c.write_padding.ensures.bytes))
