use Rattle.mig_dirtysave_parts.proofs.Codes.{closing_within, are_within}
use Rattle.mig_dirtysave_parts.proofs.Texts.{part_stops, end_closes, end_stops, on_err}
use Rattle.mig_dirtysave_parts.proofs.write.write_last.Goals as goal

pub returns-in_err-write_behind-clause-stops : goal.returns-in_err-write_behind-clause-stops
returns-in_err-write_behind-clause-stops g c =
    on_err _ c.from_residual.result
    (part_stops _ _ _ (are_within _ (closing_within c.args.settings.now c.requires.formed c.args.front.now c.requires.short)) c.in_err-write_behind.ensures.bytes)

pub returns-clause-closed : goal.returns-clause-closed
returns-clause-closed g c = end_closes _ _ _ _ c.write_end.result c.in_ok-write_behind.ensures.bytes c.write_end.ensures.bytes

pub returns-clause-stops : goal.returns-clause-stops
returns-clause-stops g c =
    end_stops _ _ _ _ c.write_end.result (are_within _ (closing_within c.args.settings.now c.requires.formed c.args.front.now c.requires.short)) c.in_ok-write_behind.ensures.bytes c.write_end.ensures.unended
