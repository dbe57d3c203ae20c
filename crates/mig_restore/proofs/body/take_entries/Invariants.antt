use Rattle.mig_restore.proofs.Common.{◌≡◌, take, Ok, AgreesWithJudging, put_entry, put_entries_by, NotesOn, GrewByRecord, with_places, entry_at, AreEntriesSet, each}
use Rattle.mig_restore.proofs.body.take_entries.Given as goal

abbrev pub invariant-loop-place : goal.invariant-loop-place
invariant-loop-place g l = record {
  read : AgreesWithJudging {X = Unit {0}} (λ _ es. l.guest ≡ record l.fn.guest { frames = put_entries_by g.F.KeepsFrames.put l.fn.guest.kind l.fn.guest.frames es })
      (g.S.Source.left l.fn.src) (g.S.Source.left l.src) (each (entry_at l.fn.guest.kind l.fn.guest.top) (take l.place (with_places 0 l.list))) (Ok tt);
  noted : AgreesWithJudging {X = Unit {0}} (λ _ es. NotesOn g.F.KeepsFrames.notes l.fn.keeper l.keeper (g.S.Source.left l.fn.src) (g.S.Source.left l.src) (λ frames. put_entries_by put_entry l.fn.guest.kind frames es))
      (g.S.Source.left l.fn.src) (g.S.Source.left l.src) (each (entry_at l.fn.guest.kind l.fn.guest.top) (take l.place (with_places 0 l.list))) (Ok tt);
  set : AreEntriesSet g.F.KeepsFrames.put l.fn.guest l.guest (take l.place l.list);
  grown : GrewByRecord l.fn.guest l.guest;
  top : l.guest.top ≡ l.fn.guest.top;
  quiet : g.S.Source.faults l.src ≡ g.S.Source.faults l.fn.src;
}
