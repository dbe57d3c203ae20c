use Rattle.mig_dirtysave.proofs.Common.{none_of}
use Rattle.mig_dirtysave.proofs.HeldParts.{contexts_there, page_there, all_seen}
use Rattle.mig_dirtysave.proofs.viewing.view_parts.Goals as goal

pub blank_vcpus-requires : goal.blank_vcpus-requires
blank_vcpus-requires g c =
    contexts_there (g.M.Machine.state c.args.machine.now).host c.host_is_valid.ensures.host c.args.guest.now c.requires.held
    (c.in_ok-found.ensures.renamed (none_of c.in_ok-found.found c.if-is_none.ensures))

pub blank_shared_info-requires : goal.blank_shared_info-requires
blank_shared_info-requires g c =
    page_there (g.M.Machine.state c.args.machine.now).host c.host_is_valid.ensures.host c.args.guest.now c.requires.held
    (c.in_ok-found.ensures.renamed (none_of c.in_ok-found.found c.if-is_none.ensures)) c.blank_vcpus.ensures

pub returns-then-is_none-clause-seen : goal.returns-then-is_none-clause-seen
returns-then-is_none-clause-seen g c none =
    all_seen (g.M.Machine.state c.args.machine.now).host c.host_is_valid.ensures.host c.args.guest.now c.requires.held
    (c.in_ok-found.ensures.renamed none) c.blank_vcpus.ensures c.requires.pv c.blank_shared_info.ensures
