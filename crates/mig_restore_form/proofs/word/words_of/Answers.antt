use Rattle.mig_restore_form.proofs.Common.{◌*◌, arith, rules, common_steps, le64, map-range_with_len_more}
use Rattle.mig_restore_form.proofs.word.words_of.Goals as goal

pub loop-k-preserved : goal.loop-k-preserved
loop-k-preserved c = (rw (map-range_with_len_more (λ k. le64 c.args.bytes.now (8 * k)) 0 c.loop-k.k c.loop-k.k (omega arith)) (grind (arith, common_steps)), search rules)
