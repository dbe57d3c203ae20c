-- What a save writes around the frames.
use Rattle.std.specs.Prelude.{◌≡◌, ◌≢◌, ℕ, ◌+◌, ◌≤◌, List, [], ◌∷◌, ◌++◌, length, take, replicate, Option, Some, None, Result, Ok, Err}
use Rattle.std.specs.List.{AllByRecursion}
use Rattle.mig_dirtysave_parts.specs.Common.{option_map, Appends, GuestOf, PartMap, Record, text_of, headers, info_records, static_bodies, p2m_records, records_in_order, last_records, view}
use Rattle.std.specs.FinMap as maps
use Rattle.mig_headers.specs.Contexts.{scan}
use Rattle.mig_headers.specs.declared.unsound.Unsound.{Unsound}
use Rattle.mig_headers.specs.declared.unsound.Unsound.TheVariants as unsounds
use Rattle.mig_guest.specs.declared.part_code.PartCode.{PartCode}
use Rattle.mig_guest.specs.declared.part_code.PartCode.TheVariants.{Tsc, HvmParam}
use Rattle.mig_guest.specs.Hosts.{HostOf}
use Rattle.mig_guest.specs.PartKeys.{context_key}
use Rattle.mig_records_pages.specs.Written.{AreRecordsWithin, WroteAll, WroteSome}
use Rattle.mig_pvtables.specs.Faults.{first_cause}
use Rattle.mig_host_view.specs.Sound.{absent, find_context_fault, unsoundness}
use Rattle.mig_dirtysave_parts.specs.KeptParts.{is_setting, kept_parts, parts_alone}

-- the headers, and the records before the frames
abbrev pub text_before : GuestOf → List ℕ
text_before g = headers g.kind ++ text_of (info_records g.kind ++ (static_bodies g ++ p2m_records g.kind g))

-- of an HVM guest the TSC and the parameters
abbrev pub setting_codes : List PartCode
setting_codes = Tsc ∷ HvmParam ∷ []

-- the entries of a context before its END, and an END of zeros
abbrev pub context_record : List ℕ → Record
context_record front = (9, front ++ replicate 8 0)

-- of an HVM guest the settings and the context
abbrev pub closing_records : GuestOf → List ℕ → List Record
closing_records settings front = records_in_order setting_codes settings ++ context_record front ∷ []

-- the settings of the guest that a host is seen as
abbrev pub settings_seen : HostOf → GuestOf
settings_seen h = parts_alone h.kind h.width (kept_parts is_setting (view h).parts)

-- what is before the END of a context that is there
pub record IsContextFront (parts : PartMap) (front : List ℕ) : Type 0 where
  pub context : List ℕ
  pub there : maps.get parts context_key ≡ Some context
  pub end : ℕ
  pub scanned : scan context ≡ Ok end
  pub is : front ≡ take end context
  pub fits : end + 8 ≤ length context

-- what was found wrong
abbrev pub unsound_in : {X : Type 0} → Result X Unsound → Option Unsound
unsound_in (Ok x) = None
unsound_in (Err unsound) = Some unsound

-- what is wrong with an HVM host, with what was found wrong in its tables between the causes in its parts
abbrev pub judged_with : Option Unsound → PartMap → Option Unsound
judged_with tables parts = first_cause (absent parts context_key ∷ tables ∷ option_map (λ fault. unsounds.BadContext fault) (find_context_fault parts) ∷ [])

-- whatever records were written before, some may come behind them now, and a part of one more, perhaps none
abbrev pub StopsBehind : Option (List ℕ) → Option (List ℕ) → Type 0
StopsBehind old new = (start : Option (List ℕ)) (rs : List Record) → WroteAll start old rs → (more : List Record) × WroteSome start new (rs ++ more)

-- a record that is none of PAGE_DATA, VERIFY and END
pub record IsOtherRecord (r : Record) : Type 0 where
  pub no_pages : r.0 ≢ 1
  pub no_verify : r.0 ≢ 13
  pub no_end : r.0 ≢ 0

-- Records were written that are none of PAGE_DATA, VERIFY and END, and END behind them. Where nothing is in the way of seeing the
-- host as a guest, they are those that the canonical image of this guest has behind its frames.
pub record ClosesStream (h : HostOf) (old new : Option (List ℕ)) : Type 0 where
  pub behind : List Record
  pub others : AllByRecursion IsOtherRecord behind
  pub within : AreRecordsWithin behind
  pub seen : unsoundness h ≡ None → behind ≡ last_records h.kind (view h)
  pub appended : Appends old new (text_of (behind ++ (0, []) ∷ []))
