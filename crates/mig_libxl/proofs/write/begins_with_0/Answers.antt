use Rattle.mig_libxl.proofs.Common.{sym}
use Rattle.mig_libxl.proofs.FirstParts.{zero_of_first, zero_of_none}
use Rattle.std.specs.FinMap as maps
use Rattle.mig_libxl.proofs.write.begins_with_0.Goals as goal

pub returns-in-Some : goal.returns-in-Some
returns-in-Some c = sym (zero_of_first c.args.code (maps.entries c.args.guest.now.parts) (c.in-Some.key, c.in-Some.field-0-1.now) c.in-Some.ensures.next)

pub returns-in-None : goal.returns-in-None
returns-in-None c = sym (zero_of_none c.args.code (maps.entries c.args.guest.now.parts) c.in-None.ensures.next)
