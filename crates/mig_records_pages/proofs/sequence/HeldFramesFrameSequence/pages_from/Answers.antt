use Rattle.mig_records_pages.proofs.Common.{sym, ◌∙◌, refl, rules, drop-drop}
use Rattle.mig_records_pages.proofs.Copying.{first_page}
use Rattle.mig_records_pages.proofs.Places.{held_at, frames_held}
use Rattle.mig_records_pages.proofs.sequence.HeldFramesFrameSequence.pages_from.Goals as goal

pub returns-in-Some-clause-bytes : goal.returns-in-Some-clause-bytes
returns-in-Some-clause-bytes c = λ told.
    c.put_page.ensures.bytes
    ∙ sym (first_page _ _ _ (held_at c.args.self.now.entries.now c.args.place c.in-Some.entry.now _ _ (search rules) (search rules) refl c.page_told.ensures))

pub returns-in-Some-clause-behind : goal.returns-in-Some-clause-behind
returns-in-Some-clause-behind c = sym (drop-drop 1 c.args.place (frames_held c.args.self.now.entries.now))
