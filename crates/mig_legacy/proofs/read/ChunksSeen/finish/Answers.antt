use Rattle.mig_legacy.proofs.Common.{◌≡◌, sym, subst, ◌∙◌, Pv, Hvm, GuestOf, EmulatorsOf, with_emulators, IsStreamedBare, AreEmulators, IsStreamed, guest_done}
use Rattle.mig_legacy.proofs.read.ChunksSeen.finish.Goals as goal

done : (g : GuestOf) (e : EmulatorsOf) → IsStreamedBare g → g.kind ≡ Hvm → AreEmulators e → IsStreamed (with_emulators g e)
done g e plain hvm are = guest_done g e plain are (λ pv. let no : Hvm ≡ Pv = sym hvm ∙ pv in absurd (cc))

pub returns-clause-streamed : goal.returns-clause-streamed
returns-clause-streamed c = subst IsStreamed (sym c.in_ok-put_into.ensures.ok) (done c.args.self.guest c.args.self.emulators c.requires.plain c.requires.hvm c.requires.emulators)
