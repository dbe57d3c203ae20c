use Rattle.mig_bytes.proofs.Common.{◌+◌, arith, ◌/◌}
use Rattle.mig_bytes.proofs.fields.padding_is_least.Goals as goal

pub returns : goal.returns
returns c len = record {
  fills = ((len + 7) / 8, omega arith);
  least = λ fewer (k, is). omega (arith, is);
}
