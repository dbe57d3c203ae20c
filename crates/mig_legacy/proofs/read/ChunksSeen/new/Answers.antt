use Rattle.mig_legacy.proofs.Common.{refl, sym, ap, ◌∙◌, subst, Hvm, GuestOf, sent, emulators_of, AreEmulators, empty_begun, none_yet}
use Rattle.std.specs.FinMap as maps
use Rattle.mig_restore.proofs.Kept.{none_kept}
use Rattle.mig_restore_form.specs.Mean.{IsBegun as IsGuestBegun}
use Rattle.mig_legacy.proofs.read.ChunksSeen.new.Goals as goal

pub returns-clause-seen : goal.returns-clause-seen
unfolding sent emulators_of
returns-clause-seen g c = record { count = refl; guest = c.new.ensures ∙ sym (none_kept g.F.KeepsFrames.kept c.goes_on.ensures.none Hvm); many = ap (λ (g : GuestOf). maps.len g.frames) c.new.ensures; emulators = c.new-2.ensures; requests = refl; buffered = refl }

pub returns-clause-begun : goal.returns-clause-begun
returns-clause-begun g c = record {
  hvm = ap (λ (g : GuestOf). g.kind) c.new.ensures;
  guest = subst IsGuestBegun (sym c.new.ensures) (empty_begun Hvm);
  emulators = subst AreEmulators (sym c.new-2.ensures) none_yet;
}
