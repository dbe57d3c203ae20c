use Rattle.mig_order.proofs.OrderLaw.{faultless_is_in_order}
use Rattle.mig_order.proofs.law.order_law.Goals as goal

pub returns : goal.returns
returns c = faultless_is_in_order
