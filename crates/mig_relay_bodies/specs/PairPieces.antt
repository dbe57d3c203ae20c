-- Pairs of texts that come in pieces: what is known of them behind their first bytes.
use Rattle.std.specs.Prelude.{ℕ, ◌+◌, false, not, Option, Some, None, ◌==◌, ◌||◌, nat_lt, if◌then◌else◌}
use Rattle.mig_relay_bodies.specs.Common.{option_or, Cause, first_of}
use Rattle.mig_headers.specs.Pairs.{is_key_byte}
use Rattle.mig_relay_bodies.specs.declared.pairs.Pairs.{Pairs}

-- before the first byte
abbrev pub no_bytes : Pairs
no_bytes = record { at = 0; begins = 0; odd = false; bad = None }

-- the place of this byte, where no key has it, or where it ends an empty key
abbrev pub bad_byte : Pairs → ℕ → Option ℕ
bad_byte p b = if p.odd then None else if b == 0 then (if p.begins == p.at then Some p.at else None) else if is_key_byte b then None else Some p.at

-- with one byte more
abbrev pub then_byte : Pairs → ℕ → Pairs
then_byte p b = record {
  at = p.at + 1;
  begins = if b == 0 then p.at + 1 else p.begins;
  odd = if b == 0 then not p.odd else p.odd;
  bad = option_or p.bad (bad_byte p b);
}

-- a text is open, or a value is due
abbrev pub torn_in : Pairs → Option ℕ
torn_in p = if p.odd || nat_lt p.begins p.at then Some p.begins else None

-- the first fault: a text without its end stands before every bad key
abbrev pub fault_in_pairs : Pairs → Option Cause
fault_in_pairs p = first_of (torn_in p) p.bad
