use Rattle.mig_records_pages.proofs.Common.{refl, rules}
use Rattle.mig_records_pages.proofs.Places.{held_at}
use Rattle.mig_records_pages.proofs.sequence.HeldFramesFrameSequence.frame_from.Goals as goal

pub returns-clause-some : goal.returns-clause-some
returns-clause-some c = record {
  frame = record { type = c.type_told.result; page = _ };
  type = refl;
  size = c.pages_with.ensures.len;
  few = c.pages_with.ensures.most;
  is = held_at c.args.self.now.entries.now c.args.place c.in_ok-entry.entry.now _ _ (search rules) (search rules) c.type_told.ensures c.page_told.ensures;
}
