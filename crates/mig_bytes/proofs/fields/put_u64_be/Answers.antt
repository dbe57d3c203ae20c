use Rattle.mig_bytes.proofs.Common.{refl, big_bytes}
use Rattle.mig_bytes.proofs.FieldWrites.{put_field}
use Rattle.mig_bytes.proofs.fields.put_u64_be.Goals as goal

pub returns : goal.returns
returns c = put_field c.args.bytes.now (big_bytes 8 c.args.v) _ c.args.at 8 _ refl refl c.write_u64.ensures
