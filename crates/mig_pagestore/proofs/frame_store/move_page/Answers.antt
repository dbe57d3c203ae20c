use Rattle.mig_pagestore.proofs.Common.{sym, ◌∙◌}
use Rattle.mig_pagestore.proofs.Led.{moved_some, moved_is}
use Rattle.mig_pagestore.proofs.frame_store.move_page.Goals as goal

pub put_spare-requires-clause-some : goal.put_spare-requires-clause-some
put_spare-requires-clause-some c = moved_some _ _ _ _ _ (sym c.get.ensures.value ∙ c.unwrap-cell.ensures) c.requires.typed c.requires.there c.requires.small.0 c.requires.small.1 (c.write_cell.ensures.kind ∙ c.read_cell.ensures.kind) c.write_cell.ensures.mark

pub returns-clause-moved : goal.returns-clause-moved
returns-clause-moved c = moved_is _ _ _ _ _ (sym c.get.ensures.value ∙ c.unwrap-cell.ensures) c.requires.typed c.requires.there c.requires.small.0 c.requires.small.1 (c.write_cell.ensures.kind ∙ c.read_cell.ensures.kind) c.write_cell.ensures.mark _ c.put_spare.ensures.values
