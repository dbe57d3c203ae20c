use Rattle.mig_records.proofs.WordFaults.{none_is_wrong, nothing_found}
use Rattle.mig_records.proofs.laws.faultless_words.Goals as goal

pub returns : goal.returns
returns c = λ kind top ws. (none_is_wrong kind top ws, nothing_found kind top ws)
