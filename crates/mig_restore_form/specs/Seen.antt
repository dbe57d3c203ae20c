-- What the reader keeps of the records before.
use Rattle.std.specs.Prelude.{◌≡◌, ℕ, List, length}
use Rattle.mig_order.specs.Gate.{StandsFor}
use Rattle.mig_restore_form.specs.declared.head.RecordsSeen.{RecordsSeen}
use Rattle.mig_restore_form.specs.Judging.{Opening}

pub record IsSeen (seen : RecordsSeen) (o : Opening) (types : List ℕ) : Type 0 where
  pub count : seen.records ≡ length types
  pub kind : seen.kind ≡ o.kind
  pub gate_version : seen.gate.version ≡ o.version
  pub gate_kind : seen.gate.kind ≡ o.kind
  pub gate : StandsFor seen.gate types
