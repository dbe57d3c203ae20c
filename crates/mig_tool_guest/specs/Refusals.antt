-- Which refusals an input has, by what is read of it.
use Rattle.std.specs.Prelude.{◌≡◌, ℕ, List}
use Rattle.mig_tool_guest.specs.Common.{Faulty, IsStreamRefused, IsOpenRefused, Refusal}
use Rattle.mig_legacy.specs.Stream.{IsLegacyRefused}
use Rattle.mig_tool_report.specs.declared.outcome.Refusal.TheVariants as refusals
use Rattle.mig_tool_guest.specs.Addresses.{HasUnsoundHost, HostHasNone, StreamHasNone, any_host_at}

-- of a stream, bare or inside a libxl stream
abbrev pub HasStreamRefusal : List ℕ → Refusal → List ℕ → Type 0
HasStreamRefusal input (refusals.Stream place cause) rest = IsStreamRefused input place cause rest
HasStreamRefusal input _ rest = ⊥

-- of a legacy stream
abbrev pub HasLegacyRefusal : List ℕ → Refusal → List ℕ → Type 0
HasLegacyRefusal input (refusals.Legacy place cause) rest = IsLegacyRefused input place cause rest
HasLegacyRefusal input _ rest = ⊥

-- of a stream in which an address means a frame to a vCPU
abbrev pub HasWalkRefusal : ℕ → ℕ → List ℕ → Refusal → List ℕ → Type 0
HasWalkRefusal id at input (refusals.Stream place cause) rest = IsStreamRefused input place cause rest
HasWalkRefusal id at input (refusals.Walk end) rest = StreamHasNone id at input rest end
HasWalkRefusal id at input _ rest = ⊥

-- of the image of a sound host in which it means one
abbrev pub HasWalkImageRefusal : ℕ → ℕ → List ℕ → Refusal → List ℕ → Type 0
HasWalkImageRefusal id at input (refusals.Image place cause) rest = any_host_at input ≡ Faulty (place, cause) rest
HasWalkImageRefusal id at input (refusals.Host unsound) rest = HasUnsoundHost input rest unsound
HasWalkImageRefusal id at input (refusals.Walk end) rest = HostHasNone id at input rest end
HasWalkImageRefusal id at input _ rest = ⊥

-- of a stream that is passed on or shown, of which nothing is asked that needs more than its parts one by one
abbrev pub HasOpenRefusal : List ℕ → Refusal → List ℕ → Type 0
HasOpenRefusal input (refusals.Stream place cause) rest = IsOpenRefused input place cause rest
HasOpenRefusal input _ rest = ⊥
