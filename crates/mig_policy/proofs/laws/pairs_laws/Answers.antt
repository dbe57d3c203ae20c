use Rattle.mig_policy.proofs.KeyLaws.{first_fault_is_computed, pairs_are_read}
use Rattle.mig_policy.proofs.PairMapLaws.{texts_are_canonical, maps_are_of_pairs, some_bytes_are_some_pairs}
use Rattle.mig_policy.proofs.LastValues.{added_pairs_decide}
use Rattle.mig_policy.proofs.laws.pairs_laws.Goals as goal

pub returns : goal.returns
returns c = record { faults = first_fault_is_computed; read = pairs_are_read; canonical = texts_are_canonical; maps = maps_are_of_pairs; some = some_bytes_are_some_pairs; added = added_pairs_decide }
