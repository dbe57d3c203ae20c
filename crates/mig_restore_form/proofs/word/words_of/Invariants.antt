use Rattle.mig_restore_form.proofs.Common.{◌≡◌, words, vec_len}
use Rattle.mig_restore_form.proofs.word.words_of.Given as goal

abbrev pub invariant-loop-k : goal.invariant-loop-k
invariant-loop-k l = (l.list.items ≡ words l.k l.bytes) × (vec_len l.list ≡ l.k)
