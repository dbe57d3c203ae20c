use Rattle.mig_records.proofs.Common.{length, replicate, refl, length-replicate, padding_len}
use Rattle.mig_records.specs.Records.{head_of, spelled}
use Rattle.mig_records.proofs.HeadBytes.{type_in_head, len_in_head}
use Rattle.mig_records.proofs.laws.spelled_is_record.Goals as goal

pub returns : goal.returns
unfolding spelled head_of
returns c = λ kind body known short. record {
  head = head_of kind (length body);
  padding = replicate (padding_len (length body)) 0;
  whole = refl;
  head_len = refl;
  type_is = type_in_head kind (length body) known;
  len_is = len_in_head kind (length body) short;
  padded = length-replicate (padding_len (length body)) 0;
}
