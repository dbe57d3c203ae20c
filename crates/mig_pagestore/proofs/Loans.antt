-- Two loans are told alike, where they are under one name and end at the same values.
use Rattle.mig_pagestore.proofs.Common.{◌≡◌, IsSome, Option, Some, None, MutBor, refl, ap, inr, ghost_name_of}
use mathlib.Core.Option as maybe
use borrow.Follows.Closed.{read_of}

-- the ends are compared where something was lent
pub same_loan_if : {D E : Type 0} (r : Option (MutBor E)) (F G : E → D) (v u : D) → (IsSome r → (w : E) → F w ≡ G w) → v ≡ u → read_of (ghost_name_of r) F v ≡ read_of (ghost_name_of r) G u
same_loan_if None F G v u ends stays = ap inr stays
same_loan_if (Some x) F G v u ends stays = λ i. read_of (maybe.some x.ghost_name) (λ w. ends refl w i) (stays i)
