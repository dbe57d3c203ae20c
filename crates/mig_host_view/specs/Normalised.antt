-- The form in a stream of a guest that is in a machine.
use Rattle.std.specs.Prelude.{ℕ, List, Option, Result, Ok, Err, ◌==◌, if◌then◌else◌}
use Rattle.mig_host_view.specs.Common.{ContextFault, Kind, Pv, Hvm, scan, cut_at, PartKey, GuestOf, each_value, blank_of, is_used_somewhere}
use Rattle.mig_host_view.specs.Localised.{renamed}

-- a raw context up to its END entry, and an END of zeros
abbrev pub cut_by : Result ℕ ContextFault → List ℕ → List ℕ
cut_by (Ok end) bytes = cut_at bytes end
cut_by (Err fault) bytes = bytes

-- of the parts, the context is raw in a host
abbrev pub part_seen : PartKey → List ℕ → List ℕ
part_seen key bytes = if key.code == 9 then cut_by (scan bytes) bytes else bytes

abbrev pub normalised_of : Kind → (ℕ → Option ℕ) → GuestOf → GuestOf
normalised_of Hvm pfn_of g = record g { parts = each_value part_seen g.parts }
normalised_of Pv pfn_of g = blank_of Pv (renamed is_used_somewhere pfn_of g)

-- with the PFN that pfn_of gives for each machine frame, in blank form; of an HVM guest the context is cut
abbrev pub normalised : (ℕ → Option ℕ) → GuestOf → GuestOf
normalised pfn_of g = normalised_of g.kind pfn_of g
