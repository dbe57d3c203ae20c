use Rattle.mig_host_laws.proofs.FieldLaws.{in_stream_anew, in_host_anew}
use Rattle.mig_host_laws.proofs.field_law.renamed_context_says_names.Goals as goal

pub returns : goal.returns
returns c = record { stream = in_stream_anew; host = in_host_anew }
