-- The record types of a libxl stream, by their numbers (libxl migration stream, "Records").
use Rattle.std.specs.Prelude.{ℕ, Bool, ◌==◌, ◌||◌}

abbrev pub libxl_end_type : ℕ
libxl_end_type = 0

abbrev pub libxc_context_type : ℕ
libxc_context_type = 1

abbrev pub emulator_pairs_type : ℕ
emulator_pairs_type = 2

abbrev pub emulator_context_type : ℕ
emulator_context_type = 3

abbrev pub checkpoint_end_type : ℕ
checkpoint_end_type = 4

abbrev pub checkpoint_state_type : ℕ
checkpoint_state_type = 5

-- the two of an emulator
abbrev pub is_emulator_type : ℕ → Bool
is_emulator_type type = (type == emulator_pairs_type) || (type == emulator_context_type)
