-- Contexts of vCPUs whose fields say other frames: in a stream frame numbers (PFN), in a machine machine frames (MFN).
use Rattle.std.specs.Prelude.{ℕ, List, Option, Some, None, if◌then◌else◌}
use Rattle.mig_host_view.specs.Common.{gdt_ents, Usage, field_at, frame_of_field, field_of_frame}
use Rattle.mig_guest.specs.Longs.{each_long}

-- the value that says the name; v where there is none
abbrev pub field_named : ℕ → ℕ → Option ℕ → ℕ
field_named field v None = v
field_named field v (Some name) = field_of_frame field name

-- the number v, where a field stands at its place, with the name that f gives for its frame, where vCPU id uses it
abbrev pub value_renamed : Usage → (ℕ → Option ℕ) → ℕ → ℕ → Option ℕ → ℕ → ℕ
value_renamed used f id ents None v = v
value_renamed used f id ents (Some field) v = if used id ents field v then field_named field v (f (frame_of_field field v)) else v

unfoldable pub renamed_value : Usage → (ℕ → Option ℕ) → ℕ → ℕ → ℕ → ℕ → ℕ
renamed_value used f id ents i v = value_renamed used f id ents (field_at i) v

-- the context of vCPU id in which each field that is used and says n says f n, where there is one; all else stays
abbrev pub renamed_context : Usage → (ℕ → Option ℕ) → ℕ → List ℕ → List ℕ
renamed_context used f id context = each_long 646 (renamed_value used f id (gdt_ents context)) context
