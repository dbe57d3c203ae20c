use Rattle.mig_machine_script.proofs.Common.{length, sym, line_said}
use Rattle.mig_machine_script.proofs.GroupsRun.{logs_inside, word_inside}
use Rattle.mig_machine_script.proofs.LinesLogged.{regular}
use Rattle.mig_machine_script.proofs.group.run_line.Goals as goal

pub insert-requires : goal.insert-requires
insert-requires c =
    let h = c.args.host.now.host in
    word_inside c.in-Some.pfn h.width (length c.args.log.now) (logs_inside h (line_said c.args.line.now) c.in-Some.pfn (regular h c.width-width.ensures.valid) (sym c.in-Some.ensures.logged)) c.requires.words
