use Rattle.std.proofs.Common.{sym, subst}
use Rattle.mig_guest.specs.Formed.{IsFormed}
use Rattle.mig_guest.proofs.Kept.{empty_formed}
use Rattle.mig_headers.specs.declared.kind.Kind.TheVariants.{Pv}
use Rattle.mig_test_file.proofs.images.empty.Goals as goal

pub returns : goal.returns
returns c = subst IsFormed (sym c.new.ensures) (empty_formed Pv)
