-- The numbers of page types.
use Rattle.std.proofs.Common.{◌≡◌, ◌<◌, Some, refl, arith}
use Rattle.mig_pagetypes.specs.PageTypes.{number_of, type_of}
use Rattle.mig_pagetypes.specs.declared.page_type.PageType.{PageType}
use Rattle.mig_pagetypes.specs.declared.page_type.PageType.TheVariants.{Xtab}

-- the number of a type names it again
pub type_back : (t : PageType) → type_of (number_of t) ≡ Some t
type_back Xtab = refl
type_back _ = refl

pub number_small : (t : PageType) → number_of t < 16
number_small Xtab = omega arith
number_small _ = omega arith
