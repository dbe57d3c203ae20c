use Rattle.mig_records.proofs.Common.{◌≡◌, ◌*◌, ◌-◌, length, entry_width, fault_of_entries}
use Rattle.mig_records.proofs.table.entries_fault.Given as goal

abbrev pub invariant-loop-i : goal.invariant-loop-i
invariant-loop-i l = record {
  whole : length l.rest ≡ entry_width l.layout * (l.count - l.i);
  same : fault_of_entries l.code l.layout (l.count - l.i) l.rest ≡ fault_of_entries l.code l.layout l.count l.bytes;
}
