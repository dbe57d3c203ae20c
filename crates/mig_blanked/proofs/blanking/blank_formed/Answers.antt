use Rattle.mig_pvtables.proofs.Common.{IsFormed, subst, sym}
use Rattle.mig_pvtables.proofs.BlankGuests.{all_blanked, page_on_way}
use Rattle.mig_pvtables.proofs.BlankFormed.{blank_is_formed}
use Rattle.mig_blanked.proofs.blanking.blank_formed.Goals as goal

pub blank_shared_info-requires : goal.blank_shared_info-requires
blank_shared_info-requires c = page_on_way c.args.guest.now c.requires c.each_table.ensures c.zero_p2m_frames.ensures c.blank_vcpus.ensures

pub returns-in-Pv-clause-blank : goal.returns-in-Pv-clause-blank
returns-in-Pv-clause-blank c = all_blanked c.args.guest.now c.requires (sym c.in-Pv.ensures) c.each_table.ensures c.zero_p2m_frames.ensures c.blank_vcpus.ensures c.blank_shared_info.ensures

pub returns-in-Pv-clause-formed : goal.returns-in-Pv-clause-formed
returns-in-Pv-clause-formed c =
    subst IsFormed (sym (all_blanked c.args.guest.now c.requires (sym c.in-Pv.ensures) c.each_table.ensures c.zero_p2m_frames.ensures c.blank_vcpus.ensures c.blank_shared_info.ensures))
    (blank_is_formed c.args.guest.now c.requires)
