use Rattle.mig_dirtysave_rounds.proofs.Common.{sym, subst, ◌∙◌, IsRenamed}
use Rattle.mig_dirtysave_rounds.proofs.Tables.{judged_whole, table_within}
use Rattle.mig_dirtysave_rounds.proofs.Peeks.{no_frame_within}
use Rattle.mig_dirtysave_rounds.proofs.table.read_table.Goals as goal

pub returns-in-Ok-None-clause-right : goal.returns-in-Ok-None-clause-right
returns-in-Ok-None-clause-right g c =
    judged_whole _ _ _ _ _ _ c.requires.level c.in-Ok-None.ensures.raw (sym c.first_slot.ensures.value ∙ c.in-None.is)
    (subst (IsRenamed (g.M.Machine.state c.rename.new.machine) c.args.pfn c.args.level c.args.page.now c.rename.new.page) c.in-Ok-None.field-0-is c.in-Ok-None.ensures.page)

pub returns-in-Ok-None-clause-within : goal.returns-in-Ok-None-clause-within
returns-in-Ok-None-clause-within g c =
    table_within _ _ _ _ _ _ c.requires.level (sym c.first_slot.ensures.value ∙ c.in-None.is)
    (subst (IsRenamed (g.M.Machine.state c.rename.new.machine) c.args.pfn c.args.level c.args.page.now c.rename.new.page) c.in-Ok-None.field-0-is c.in-Ok-None.ensures.page)

pub returns-in-Ok-Some-clause-within : goal.returns-in-Ok-Some-clause-within
returns-in-Ok-Some-clause-within g c = no_frame_within _

pub returns-in-Some-clause-within : goal.returns-in-Some-clause-within
returns-in-Some-clause-within g c = no_frame_within _
