use Rattle.mig_tool_report.proofs.Common.{◌≡◌, sym, subst, ◌∙◌, arith, rules, IsFrameNumber, decimal_injective}
use Rattle.mig_tool_report.proofs.command.frames_in.Goals as goal

pub returns-else-is_frame_number-clause-none : goal.returns-else-is_frame_number-clause-none
returns-else-is_frame_number-clause-none c = λ frames is range.
    let some = c.in_ok-frames.ensures.some in
    let it : c.in_ok-frames.frames ≡ frames = decimal_injective c.in_ok-frames.frames frames some.1 (omega (arith, range.1)) (sym some.0 ∙ is) in
    let has : IsFrameNumber c.in_ok-frames.frames = subst IsFrameNumber (sym it) range in
    search rules
