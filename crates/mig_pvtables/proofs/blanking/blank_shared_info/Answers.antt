use Rattle.mig_pvtables.proofs.BlankParts.{no_page, shared_put}
use Rattle.mig_pvtables.proofs.blanking.blank_shared_info.Goals as goal

pub returns-in-Some : goal.returns-in-Some
returns-in-Some c = shared_put c.args.guest.now c.sole_key-key.result c.sole_key-key.ensures c.put_long.new.guest c.in-Some.page.now c.in-Some.ensures c.are_small.ensures c.requires c.put_long.ensures

pub returns-in_default : goal.returns-in_default
returns-in_default c = no_page c.args.guest.now c.sole_key-key.result c.sole_key-key.ensures c.in_default.ensures
