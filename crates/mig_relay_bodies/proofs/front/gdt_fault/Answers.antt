use Rattle.mig_relay_bodies.proofs.Fronts.{many_entries, few_entries}
use Rattle.mig_relay_bodies.proofs.front.gdt_fault.Goals as goal

pub returns-then-entries-gt-MOST_GDT_ENTRIES : goal.returns-then-entries-gt-MOST_GDT_ENTRIES
returns-then-entries-gt-MOST_GDT_ENTRIES c = λ front size rest. many_entries front c.args.piece.now _ size rest c.u64_le-entries.ensures c.if-entries-gt-MOST_GDT_ENTRIES.true

pub returns : goal.returns
returns c = λ front size rest. few_entries front c.args.piece.now _ size rest c.u64_le-entries.ensures c.if-entries-gt-MOST_GDT_ENTRIES.false
