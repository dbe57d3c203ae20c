use Rattle.mig_dirtysave.proofs.Common.{arith, None, get_or_past, sym, ap, ◌+◌, ◌*◌, ◌∙◌, is_some, types_seen, none_has, one_has}
use Rattle.mig_dirtysave.proofs.listing.has_frame.Goals as goal

pub returns-then-index-types : goal.returns-then-index-types
returns-then-index-types c = sym (none_has (types_seen c.args.types.now) c.args.index (λ slot lt. ap is_some (get_or_past c.args.types.now (512 * c.args.index + slot) None (omega (arith, c.if-index-types.true)))))

pub returns-then-is_some : goal.returns-then-is_some
returns-then-is_some c =
    sym (one_has (types_seen c.args.types.now) c.args.index c.loop-slot.slot c.loop-slot-test.true (ap is_some (sym c.noted_at.ensures.value) ∙ sym c.is_some.ensures ∙ c.if-is_some.true))

pub returns : goal.returns
returns c = sym (none_has (types_seen c.args.types.now) c.args.index (λ slot lt. c.loop-slot.invariant slot (omega (arith, lt, c.loop-slot-test.false))))
