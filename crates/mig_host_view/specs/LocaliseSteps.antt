-- The steps by which a context comes to hold machine frames: one field after another.
use Rattle.std.specs.Prelude.{ℕ, Bool, false, Option, Some, None, nat_lt}

-- whether a field below this one stands at a place
abbrev pub is_field_below : ℕ → Option ℕ → Bool
is_field_below n None = false
is_field_below n (Some field) = nat_lt field n
