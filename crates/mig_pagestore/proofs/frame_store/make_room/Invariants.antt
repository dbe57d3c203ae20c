use Rattle.mig_pagestore.proofs.Common.{◌≡◌, ◌-◌, ◌≤◌}
use Rattle.mig_pagestore.proofs.frame_store.make_room.Given as goal

abbrev pub invariant-loop-alloc : goal.invariant-loop-alloc
invariant-loop-alloc l = record { pages : l.arena.pages ≡ l.initial.arena.pages; kept : l.initial.arena.room ≤ l.arena.room }

abbrev pub decreases-loop-alloc : goal.decreases-loop-alloc
decreases-loop-alloc l = l.more - l.arena.room
