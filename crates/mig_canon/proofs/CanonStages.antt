-- The stages of a canonical stream, and which records may stand at each.
use Rattle.mig_canon.proofs.Common.{true, false, refl, arith, AllByRecursion, Kind, Hvm, Pv, static_codes, last_codes, pv_last_codes, vcpu_codes, pv}
use Rattle.mig_canon.proofs.CanonSteps.{Stage, IsStep, IsWritten}

-- nothing is behind
abbrev pub start : Stage
start = record { info = false; settled = false; listed = false; framed = false }

-- behind X86_PV_INFO, in a PV stream
abbrev pub begun : Kind → Stage
begun kind = record { info = pv kind; settled = false; listed = false; framed = false }

-- behind STATIC_DATA_END
abbrev pub settled : Kind → Stage
settled kind = record { info = pv kind; settled = true; listed = false; framed = false }

-- behind X86_PV_P2M_FRAMES, in a PV stream
abbrev pub listed : Kind → Stage
listed kind = record { info = pv kind; settled = true; listed = pv kind; framed = false }

-- behind all frames
abbrev pub framed : Kind → Stage
framed kind = record { info = pv kind; settled = true; listed = pv kind; framed = true }

-- ---- records that mark a place, and frames

pub info_step : IsStep Pv 2 start (begun Pv)
info_step = record { small = omega arith; ordered = λ c v. refl; leads = λ c v. refl }

pub static_end_step : (kind : Kind) → IsStep kind 0x10 (begun kind) (settled kind)
static_end_step Hvm = record { small = omega arith; ordered = λ c v. refl; leads = λ c v. refl }
static_end_step Pv = record { small = omega arith; ordered = λ c v. refl; leads = λ c v. refl }

pub p2m_step : IsStep Pv 3 (settled Pv) (listed Pv)
p2m_step = record { small = omega arith; ordered = λ c v. refl; leads = λ c v. refl }

pub frames_step : (kind : Kind) → IsStep kind 1 (listed kind) (listed kind)
frames_step Hvm = record { small = omega arith; ordered = λ c v. refl; leads = λ c v. refl }
frames_step Pv = record { small = omega arith; ordered = λ c v. refl; leads = λ c v. refl }

pub end_step : (kind : Kind) → IsStep kind 0 (framed kind) (framed kind)
end_step Hvm = record { small = omega arith; ordered = λ c v. refl; leads = λ c v. refl }
end_step Pv = record { small = omega arith; ordered = λ c v. refl; leads = λ c v. refl }

-- ---- codes whose records may stand at a stage

-- before STATIC_DATA_END
pub static_written : (kind : Kind) → AllByRecursion (IsWritten kind (begun kind)) static_codes
static_written Hvm = (
  record { step = record { small = omega arith; ordered = λ c v. refl; leads = λ c v. refl }; known = refl; no_end = refl },
  (record { step = record { small = omega arith; ordered = λ c v. refl; leads = λ c v. refl }; known = refl; no_end = refl }, tt),
)
static_written Pv = (
  record { step = record { small = omega arith; ordered = λ c v. refl; leads = λ c v. refl }; known = refl; no_end = refl },
  (record { step = record { small = omega arith; ordered = λ c v. refl; leads = λ c v. refl }; known = refl; no_end = refl }, tt),
)

-- behind the frames
pub hvm_written : AllByRecursion (IsWritten Hvm (framed Hvm)) last_codes
hvm_written = (
  record { step = record { small = omega arith; ordered = λ c v. refl; leads = λ c v. refl }; known = refl; no_end = refl },
  (
    record { step = record { small = omega arith; ordered = λ c v. refl; leads = λ c v. refl }; known = refl; no_end = refl },
    (record { step = record { small = omega arith; ordered = λ c v. refl; leads = λ c v. refl }; known = refl; no_end = refl }, tt),
  ),
)

pub pv_written : AllByRecursion (IsWritten Pv (framed Pv)) pv_last_codes
pv_written = (
  record { step = record { small = omega arith; ordered = λ c v. refl; leads = λ c v. refl }; known = refl; no_end = refl },
  (record { step = record { small = omega arith; ordered = λ c v. refl; leads = λ c v. refl }; known = refl; no_end = refl }, tt),
)

pub vcpus_written : AllByRecursion (IsWritten Pv (framed Pv)) vcpu_codes
vcpus_written = (
  record { step = record { small = omega arith; ordered = λ c v. refl; leads = λ c v. refl }; known = refl; no_end = refl },
  (
    record { step = record { small = omega arith; ordered = λ c v. refl; leads = λ c v. refl }; known = refl; no_end = refl },
    (
      record { step = record { small = omega arith; ordered = λ c v. refl; leads = λ c v. refl }; known = refl; no_end = refl },
      (record { step = record { small = omega arith; ordered = λ c v. refl; leads = λ c v. refl }; known = refl; no_end = refl }, tt),
    ),
  ),
)
