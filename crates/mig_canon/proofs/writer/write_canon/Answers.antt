use Rattle.std.proofs.Common.{refl}
use Rattle.std.specs.FinMap as maps
use Rattle.mig_guest.proofs.NextEntries.{from_zero}
use Rattle.mig_canon.proofs.writer.write_canon.Goals as goal

pub returns-in-Ok-clause-bytes : goal.returns-in-Ok-clause-bytes
returns-in-Ok-clause-bytes g c = c.in-Ok.ensures.bytes c.args.guest.now.frames (from_zero (maps.entries c.args.guest.now.frames)) refl

pub returns-in-Err-clause-bytes : goal.returns-in-Err-clause-bytes
returns-in-Err-clause-bytes g c = c.in-Err.ensures.bytes c.args.guest.now.frames (from_zero (maps.entries c.args.guest.now.frames)) refl
