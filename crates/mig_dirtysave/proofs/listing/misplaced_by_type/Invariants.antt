use Rattle.mig_dirtysave.proofs.Common.{Some, None, get_or, types_seen, AreMarked, IsFineTo}
use Rattle.mig_dirtysave.proofs.listing.misplaced_by_type.Given as goal

abbrev pub invariant-loop-index : goal.invariant-loop-index
invariant-loop-index l = record {
  marked : AreMarked (types_seen l.types) (Some l.list) l.index (λ pfn. get_or l.marks pfn None);
  fine : IsFineTo (types_seen l.types) (Some l.list) l.index;
}
