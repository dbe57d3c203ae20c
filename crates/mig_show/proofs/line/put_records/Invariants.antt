use Rattle.mig_show.proofs.Common.{◌≡◌, ◌++◌, false, take, string_bytes, records_text}
use Rattle.mig_show.proofs.line.put_records.Given as goal

abbrev pub invariant-loop-place : goal.invariant-loop-place
invariant-loop-place l = string_bytes l.line ≡ string_bytes l.fn.line ++ records_text false (take l.place l.list)
