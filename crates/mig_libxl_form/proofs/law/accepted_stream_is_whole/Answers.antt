use Rattle.mig_libxl_form.proofs.AcceptedWhole.{accepted_stream_whole, accepted_carried}
use Rattle.mig_libxl_form.proofs.law.accepted_stream_is_whole.Goals as goal

pub returns : goal.returns
returns c = record { whole = accepted_stream_whole; carried = accepted_carried }
