use Rattle.mig_libxl.proofs.Common.{sym, subst, ◌∙◌, Appends, Appends-nil}
use Rattle.mig_libxl.proofs.Around.{closing_none}
use Rattle.mig_libxl.proofs.write.write_closing.Goals as goal

pub returns-else-has_emulators-clause-bytes : goal.returns-else-has_emulators-clause-bytes
returns-else-has_emulators-clause-bytes g c =
    subst (Appends (g.K.Sink.written c.args.sink.now) (g.K.Sink.written c.args.sink.now)) (sym (closing_none c.args.guest.now.parts (sym c.has_emulators.ensures ∙ c.if-has_emulators.false))) (Appends-nil _)
