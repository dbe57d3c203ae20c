use Rattle.mig_libxl.proofs.Common.{ap, GuestOf}
use Rattle.mig_libxl_form.proofs.EmulatorGuests.{guest_formed}
use Rattle.mig_libxl.proofs.Images.{placed_whole}
use Rattle.mig_libxl.proofs.image.PlacedGuestKeptImage.finish.Goals as goal

pub returns-clause-stream : goal.returns-clause-stream
returns-clause-stream g c = placed_whole g.P.PageFile.bytes c.args.self _ c.args.emulators (ap (λ (x : GuestOf). record c.args.self { outline = x }) c.in_ok-put_into.ensures.ok)

pub returns-clause-finished : goal.returns-clause-finished
returns-clause-finished g c = rw c.in_ok-put_into.ensures.ok (guest_formed c.args.self.outline c.args.emulators c.requires.kept.formed c.requires.are c.requires.alone)
