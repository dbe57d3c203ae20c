use Rattle.mig_canon.proofs.Common.{puts_then, puts_stop, puts_same}
use Rattle.mig_canon.proofs.Spelling.{code_table}
use Rattle.mig_canon.proofs.Wholes.{table_size}
use Rattle.mig_canon.proofs.parts.write_table.Goals as goal

pub returns-in_err-write_head-clause-bytes : goal.returns-in_err-write_head-clause-bytes
returns-in_err-write_head-clause-bytes g c =
    let r = c.from_residual.result in
    puts_same _ _ _ _ r (code_table c.args.code c.args.layout c.args.guest.now _ _ c.requires.shape c.count_parts-count.ensures c.if-count-eq0.false (table_size c.args.code c.args.layout c.args.guest.now c.requires.shape c.requires.formed c.count_parts-count.result c.front_width.result c.entry_width.result c.count_parts-count.ensures c.if-count-eq0.false c.front_width.ensures c.entry_width.ensures.value))
    (puts_stop _ _ _ _ _ _ r c.from_residual.ensures.1 (rw (c.number.ensures) at c.in_err-write_head.ensures.bytes))

pub returns-in_err-write_front-clause-bytes : goal.returns-in_err-write_front-clause-bytes
returns-in_err-write_front-clause-bytes g c =
    let r = c.from_residual-in_err-write_front.result in
    puts_same _ _ _ _ r (code_table c.args.code c.args.layout c.args.guest.now _ _ c.requires.shape c.count_parts-count.ensures c.if-count-eq0.false (table_size c.args.code c.args.layout c.args.guest.now c.requires.shape c.requires.formed c.count_parts-count.result c.front_width.result c.entry_width.result c.count_parts-count.ensures c.if-count-eq0.false c.front_width.ensures c.entry_width.ensures.value))
    (puts_then _ _ _ _ _ r (rw (c.number.ensures) at c.in_ok-write_head.ensures.bytes) (puts_stop _ _ _ _ _ _ r c.from_residual-in_err-write_front.ensures.1 c.in_err-write_front.ensures.bytes))

pub returns-in_err-write_pieces-clause-bytes : goal.returns-in_err-write_pieces-clause-bytes
returns-in_err-write_pieces-clause-bytes g c =
    let r = c.from_residual-in_err-write_pieces.result in
    puts_same _ _ _ _ r (code_table c.args.code c.args.layout c.args.guest.now _ _ c.requires.shape c.count_parts-count.ensures c.if-count-eq0.false (table_size c.args.code c.args.layout c.args.guest.now c.requires.shape c.requires.formed c.count_parts-count.result c.front_width.result c.entry_width.result c.count_parts-count.ensures c.if-count-eq0.false c.front_width.ensures c.entry_width.ensures.value))
    (puts_then _ _ _ _ _ r (rw (c.number.ensures) at c.in_ok-write_head.ensures.bytes) (puts_then _ _ _ _ _ r c.in_ok-write_front.ensures.bytes (puts_stop _ _ _ _ _ _ r c.from_residual-in_err-write_pieces.ensures.1 c.in_err-write_pieces.ensures.bytes)))

pub returns-clause-bytes : goal.returns-clause-bytes
returns-clause-bytes g c =
    let r = c.write_padding.result in
    puts_same _ _ _ _ r (code_table c.args.code c.args.layout c.args.guest.now _ _ c.requires.shape c.count_parts-count.ensures c.if-count-eq0.false (table_size c.args.code c.args.layout c.args.guest.now c.requires.shape c.requires.formed c.count_parts-count.result c.front_width.result c.entry_width.result c.count_parts-count.ensures c.if-count-eq0.false c.front_width.ensures c.entry_width.ensures.value))
    (puts_then _ _ _ _ _ r (rw (c.number.ensures) at c.in_ok-write_head.ensures.bytes) (puts_then _ _ _ _ _ r c.in_ok-write_front.ensures.bytes (puts_then _ _ _ _ _ r c.in_ok-write_pieces.ensures.bytes (c.write_padding.ensures.bytes))))
