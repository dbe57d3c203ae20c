use Rattle.mig_pvtables.proofs.Common.{refl, replicate}
use Rattle.mig_pvtables.proofs.BlankParts.{long_put}
use Rattle.mig_pvtables.proofs.blanking.put_long.Goals as goal

pub returns : goal.returns
returns c = long_put c.args.guest.now c.write_part.new.self c.args.key c.args.at c.args.value (replicate 8 0) c.put_u64_le.new.bytes c.requires.there refl c.put_u64_le.ensures c.write_part.ensures
