use Rattle.mig_machine.proofs.Common.{rules, ◌+◌}
use Rattle.mig_machine.proofs.LogsKept.{noted}
use Rattle.mig_machine.proofs.notes.Notes.note_log.Goals as goal

pub returns-then-not-paused-clause-history : goal.returns-then-not-paused-clause-history
returns-then-not-paused-clause-history c =
    let x = c.args.self.now in noted x c.args.log.now c.deref.result.now c.keep.new.self c.clear.new.words c.args.paused (x.live + 1) x.room c.requires.few c.deref.ensures.value c.keep.ensures.took (search rules) c.clear.ensures (search rules)

pub returns-else-not-paused-clause-history : goal.returns-else-not-paused-clause-history
returns-else-not-paused-clause-history c =
    let x = c.args.self.now in noted x c.args.log.now c.deref.result.now c.keep.new.self c.clear.new.words c.args.paused x.live x.room c.requires.few c.deref.ensures.value c.keep.ensures.took (search rules) c.clear.ensures (search rules)
