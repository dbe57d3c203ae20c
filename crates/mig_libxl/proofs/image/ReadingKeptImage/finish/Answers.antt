use Rattle.mig_libxl.proofs.Common.{ap, GuestOf, guest_done}
use Rattle.mig_libxl.proofs.Images.{reading_whole}
use Rattle.mig_libxl.proofs.image.ReadingKeptImage.finish.Goals as goal

pub returns-clause-stream : goal.returns-clause-stream
returns-clause-stream c = reading_whole c.args.self _ c.args.emulators (ap (λ (x : GuestOf). record c.args.self { guest = x }) c.in_ok-put_into.ensures.ok)

pub returns-clause-finished : goal.returns-clause-finished
returns-clause-finished c = rw c.in_ok-put_into.ensures.ok (guest_done c.args.self.guest c.args.emulators c.requires.kept c.requires.are c.requires.alone)
