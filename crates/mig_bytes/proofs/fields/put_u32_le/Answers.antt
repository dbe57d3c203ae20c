use Rattle.mig_bytes.proofs.Common.{refl, little_bytes}
use Rattle.mig_bytes.proofs.FieldWrites.{put_field}
use Rattle.mig_bytes.proofs.fields.put_u32_le.Goals as goal

pub returns : goal.returns
returns c = put_field c.args.bytes.now (little_bytes 4 c.args.v) _ c.args.at 4 _ refl refl c.write_u32.ensures
