use Rattle.mig_host_view.proofs.NormaliseGuests.{contexts_long, page_long, all_normalised}
use Rattle.mig_host_view.proofs.normalising.normalise_guest.Goals as goal

pub blank_vcpus-requires : goal.blank_vcpus-requires
blank_vcpus-requires g c = contexts_long (g.F.Frames.pfns c.args.machines.now) c.args.guest.now c.each_table.ensures c.zero_p2m_frames.ensures c.each_context.ensures

pub blank_shared_info-requires : goal.blank_shared_info-requires
blank_shared_info-requires g c = page_long (g.F.Frames.pfns c.args.machines.now) c.args.guest.now c.each_table.ensures c.zero_p2m_frames.ensures c.each_context.ensures c.blank_vcpus.ensures c.requires.shared

pub returns : goal.returns
returns g c = all_normalised (g.F.Frames.pfns c.args.machines.now) c.args.guest.now c.each_table.ensures c.zero_p2m_frames.ensures c.each_context.ensures c.blank_vcpus.ensures c.requires.sole c.requires.pv c.blank_shared_info.ensures
