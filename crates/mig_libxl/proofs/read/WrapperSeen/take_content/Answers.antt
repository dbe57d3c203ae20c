use Rattle.mig_libxl.proofs.Common.{◌∙◌, placed, judged_so, body_of_type, libxl_content_at, ne_eqb, placed_stops}
use Rattle.mig_headers.specs.declared.fault.Place.TheVariants.{LibxlRecord as AtRecord}
use Rattle.mig_libxl.proofs.Recorded.{body_is}
use Rattle.mig_libxl.proofs.read.WrapperSeen.take_content.Goals as goal

pub returns-in-Err-clause-read : goal.returns-in-Err-clause-read
returns-in-Err-clause-read g c = λ records seen.
    judged_so _ _ _ (λ i. placed (AtRecord c.from.result) (body_of_type c.args.self.now.emulators c.args.head.kind c.args.head.len i)) (libxl_content_at records c.args.head.kind c.args.head.len) _
    (body_is records c.args.self.now.emulators c.from.result c.args.head.kind c.args.head.len seen.emulators (c.from.ensures ∙ seen.count) (ne_eqb c.args.head.kind 1 c.if-head-eq-LIBXC_CONTEXT.false))
    (placed_stops _ (AtRecord c.from.result) _ _ (body_of_type c.args.self.now.emulators c.args.head.kind c.args.head.len) c.in-Err.stop _ c.at.ensures c.in-Err.ensures.read)
