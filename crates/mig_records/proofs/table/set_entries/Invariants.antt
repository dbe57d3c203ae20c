use Rattle.mig_records.proofs.Common.{◌≡◌, ◌≢◌, ◌*◌, ◌-◌, length, None, PartKey, code_number, put_parts, entry_width, fault_of_entries, entry_parts}
use Rattle.std.specs.FinMap as maps
use Rattle.mig_records.proofs.table.set_entries.Given as goal

-- with what is left set, the guest is the one with all entries set
abbrev pub invariant-loop-i : goal.invariant-loop-i
invariant-loop-i l = record {
  whole : length l.rest ≡ entry_width l.layout * (l.count - l.i);
  fine : fault_of_entries l.code l.layout (l.count - l.i) l.rest ≡ None;
  parts : record l.guest { parts = put_parts l.guest.parts (entry_parts l.code l.layout (l.count - l.i) l.rest) } ≡ record l.fn.guest { parts = put_parts l.fn.guest.parts (entry_parts l.code l.layout l.count l.bytes) };
  others : (q : PartKey) → q.code ≢ code_number l.code → maps.get l.guest.parts q ≡ maps.get l.fn.guest.parts q;
  frames : l.guest ≡ record l.fn.guest { parts = l.guest.parts };
}
