use Rattle.mig_pvtables.proofs.Common.{sym}
use Rattle.mig_pvtables.proofs.BlankGuests.{page_on_way, all_blanked}
use Rattle.mig_pvtables.proofs.blanking.blank.Goals as goal

pub blank_shared_info-requires : goal.blank_shared_info-requires
blank_shared_info-requires c = page_on_way c.args.guest.now c.requires.formed c.each_table.ensures c.zero_p2m_frames.ensures c.blank_vcpus.ensures

pub returns-in-Pv : goal.returns-in-Pv
returns-in-Pv c = all_blanked c.args.guest.now c.requires.formed (sym c.in-Pv.ensures) c.each_table.ensures c.zero_p2m_frames.ensures c.blank_vcpus.ensures c.blank_shared_info.ensures
