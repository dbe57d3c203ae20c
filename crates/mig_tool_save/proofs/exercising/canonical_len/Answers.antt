use Rattle.mig_tool_save.proofs.Common.{view}
use Rattle.mig_tool_save.proofs.exercising.canonical_len.Goals as goal

pub guest_again-requires : goal.guest_again-requires
guest_again-requires c = (view c.args.host.now.host, c.requires.means)

pub one_canonical_len-requires-clause-seen : goal.one_canonical_len-requires-clause-seen
one_canonical_len-requires-clause-seen c = c.in_ok-guest.ensures.guest (view c.args.host.now.host) c.requires.means
