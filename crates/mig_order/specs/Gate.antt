-- What a gate is seen as, and which lists of types it stands for.
use Rattle.std.specs.Prelude.{◌≡◌, ◌↔◌, ℕ, List, [], ◌∷◌, None, ◌||◌}
use Rattle.mig_headers.specs.declared.kind.Kind.{Kind}
use Rattle.mig_headers.specs.declared.record_type.RecordType.TheVariants.{X86PvInfo, X86PvP2mFrames, Verify, StaticDataEnd}
use Rattle.mig_order.specs.Order.{Earlier, earlier_in, among, content_records, vcpu_records, fault_of_type, IsInOrder}

pub record GateOf : Type 0 where
  pub version : ℕ
  pub kind : Kind
  pub earlier : Earlier

-- the gate's truth values are those of the list
pub record StandsFor (gate : GateOf) (types : List ℕ) : Type 0 where
  pub same : gate.earlier ≡ earlier_in types

-- with one record more
abbrev pub then_type : Earlier → ℕ → Earlier
then_type earlier number = record {
  static_data_end = earlier.static_data_end || among (StaticDataEnd ∷ []) number;
  content = earlier.content || among content_records number;
  pv_info = earlier.pv_info || among (X86PvInfo ∷ []) number;
  p2m_frames = earlier.p2m_frames || among (X86PvP2mFrames ∷ []) number;
  vcpu = earlier.vcpu || among vcpu_records number;
  verify = earlier.verify || among (Verify ∷ []) number;
}

-- a type has no fault exactly where it may come there
abbrev pub FaultlessIsInOrder : Type 0
FaultlessIsInOrder =
    (version : ℕ) (kind : Kind) (types : List ℕ) (number : ℕ) → (fault_of_type version kind types number ≡ None) ↔ IsInOrder version kind types number
