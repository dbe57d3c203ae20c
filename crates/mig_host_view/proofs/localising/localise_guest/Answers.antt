use Rattle.mig_host_view.proofs.Common.{sym, arith}
use Rattle.mig_host_view.proofs.LocaliseGuests.{few_listed, contexts_long, all_localised}
use Rattle.mig_host_view.proofs.localising.localise_guest.Goals as goal

pub each_p2m_frame-requires : goal.each_p2m_frame-requires
each_p2m_frame-requires g c k lt = omega (arith, lt, few_listed (g.F.Frames.mfns c.args.frames.now) c.args.guest.now c.requires (sym c.in-Pv.ensures) c.each_table.ensures)

pub each_context-requires-clause-long : goal.each_context-requires-clause-long
each_context-requires-clause-long g c = contexts_long (g.F.Frames.mfns c.args.frames.now) c.args.guest.now c.requires (sym c.in-Pv.ensures) c.each_table.ensures c.each_p2m_frame.ensures

pub returns-in-Pv : goal.returns-in-Pv
returns-in-Pv g c = all_localised (g.F.Frames.mfns c.args.frames.now) c.args.guest.now c.requires (sym c.in-Pv.ensures) c.each_table.ensures c.each_p2m_frame.ensures c.each_context.ensures
