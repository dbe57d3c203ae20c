use Rattle.mig_pvtables.proofs.BlankFrames.{no_frame, no_table, no_table_page, table_written}
use Rattle.mig_pvtables.proofs.walking.change_frame.Goals as goal

pub returns-in_default : goal.returns-in_default
returns-in_default g c = no_frame (g.S.TableStep.tables c.args.step.now) _ _ c.in_default.ensures

pub returns-in_default-table_level : goal.returns-in_default-table_level
returns-in_default-table_level g c = no_table (g.S.TableStep.tables c.args.step.now) _ _ _ c.in-Some.ensures c.in_default-table_level.ensures

pub returns-in_default-page_mut : goal.returns-in_default-page_mut
returns-in_default-page_mut g c = no_table_page (g.S.TableStep.tables c.args.step.now) _ _ c.in_default-page_mut.ensures.value

pub returns-in-Some-page_mut : goal.returns-in-Some-page_mut
returns-in-Some-page_mut g c =
    table_written (g.S.TableStep.tables c.args.step.now) _ _ _ c.in-Some.ensures _ _ _ c.in-Some-table_level.ensures c.in-Some-page_mut.ensures.value c.change_table.ensures.size c.change_table.ensures.table
