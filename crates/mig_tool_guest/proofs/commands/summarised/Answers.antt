use Rattle.mig_tool_guest.proofs.Common.{◌∙◌, IsStreamReading, rules, stream_at, any_stop, IsSummary}
use Rattle.mig_tool_guest.proofs.Summaries.{of_reading}
use Rattle.std.specs.FinMap as maps
use Rattle.mig_tool_guest.proofs.commands.summarised.Goals as goal

pub returns-in-Ok-clause-read : goal.returns-in-Ok-clause-read
returns-in-Ok-clause-read g c =
    of_reading _ _ c.in-Ok.reading _ (search rules) (search rules) (c.frames.ensures.count ∙ maps.len-entries c.in-Ok.reading.guest.frames) (search rules) (search rules) c.in-Ok.ensures.read

pub returns-in-Err-clause-read : goal.returns-in-Err-clause-read
returns-in-Err-clause-read g c = any_stop IsStreamReading IsSummary _ _ stream_at _ c.in-Err.ensures.read
