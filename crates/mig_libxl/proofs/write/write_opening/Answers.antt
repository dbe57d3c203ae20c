use Rattle.mig_libxl.proofs.Common.{sym, subst, ◌∙◌, Appends, Appends-nil}
use Rattle.mig_libxl.proofs.Around.{opening_none}
use Rattle.mig_libxl.proofs.write.write_opening.Goals as goal

pub returns-else-has_emulators-clause-bytes : goal.returns-else-has_emulators-clause-bytes
returns-else-has_emulators-clause-bytes g c =
    subst (Appends (g.K.Sink.written c.args.sink.now) (g.K.Sink.written c.args.sink.now)) (sym (opening_none c.args.guest.now.parts (sym c.has_emulators.ensures ∙ c.if-has_emulators.false))) (Appends-nil _)
