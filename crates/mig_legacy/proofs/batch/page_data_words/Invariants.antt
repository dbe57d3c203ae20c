use Rattle.mig_legacy.proofs.ChunkCommon.{◌≡◌, take, flat_map, page_data_words_of}
use Rattle.mig_legacy.proofs.batch.page_data_words.Given as goal

abbrev pub invariant-loop-word : goal.invariant-loop-word
invariant-loop-word l = l.list.items ≡ flat_map page_data_words_of (take l.word-index l.words)
