-- What a relay keeps behind the first parts of a stream.
use Rattle.mig_relay.proofs.Common.{◌≡◌, ℕ, ◌≤◌, List, [], ◌++◌, length, take, true, false, cond, Option, None, Some, Ok, Err, refl, sym, ap, ◌∙◌, arith, leb-true, AgreesWithJudging, part, Stop, part_passes, fault_of_marker, Cause, Truncated, ImageHeader, Kind, before, opening_of, IsSeen, KeepsRecords, KeepsWrapper, AtVersion, Alone, AtLibxlHeader, InImage, spot, is_ident, fault_of_first, IsNotRefused, answer_of, Relay, begins_with_ident}
use Rattle.std.specs.Prelude.{nat_le}
use Rattle.std.proofs.Math.Seq.{take-append_seam}
use Rattle.std.proofs.lemmas.Bool.{and_parts}
use Rattle.mig_restore_form.specs.Mean.{sent}
use Rattle.mig_relay.proofs.Moves.{Buffered, short_is}
use Rattle.mig_relay.proofs.SpotParts.{start_follows}
use Rattle.mig_bytes.specs.declared.stop.Stop.TheVariants as stops

-- the form that the first 8 bytes tell
pub wrapped_form : (bytes : List ℕ) → is_ident bytes ≡ true → (more : List ℕ) → start_follows bytes more ≡ spot AtLibxlHeader more
wrapped_form bytes is more = ap (λ b. cond b (spot AtLibxlHeader more) (spot (InImage Alone AtVersion) more)) is

pub bare_form : (bytes : List ℕ) → is_ident bytes ≡ false → (more : List ℕ) → start_follows bytes more ≡ spot (InImage Alone AtVersion) more
bare_form bytes is more = ap (λ b. cond b (spot AtLibxlHeader more) (spot (InImage Alone AtVersion) more)) is

-- no record of a libxl stream stands yet
pub none_behind : (t : Relay) → t.wrapper ≡ Some (record { records = 0; emulated = false; image = None }) → KeepsWrapper t []
none_behind t is = record { behind = record { records = 0; emulated = false; image = None }; is = is; are = record { count = refl; emulated = refl; image = refl }; number = tt }

-- no record of an image stands yet
pub no_records : (t : Relay) (version : ℕ) (kind : Kind) → IsSeen t.seen (opening_of version kind) [] → t.top ≡ 0 → KeepsRecords t (opening_of version kind) [] [] (before (opening_of version kind) []).top
unfolding sent
no_records t version kind seen top = record { seen = seen; top = top; going = refl }

-- ---- an input that begins with the ident

-- has its 8 bytes
pub begun_long : (left : List ℕ) → begins_with_ident left ≡ true → 8 ≤ length left
begun_long left begins = leb-true 8 (length left) (and_parts (nat_le 8 (length left)) (is_ident (take 8 left)) begins).0

-- which can be taken
pub whole_not_short : (buf : List ℕ) (e : Stop Cause) (left : List ℕ) (new : Option (List ℕ)) → length buf ≤ length left → AgreesWithJudging (Buffered buf) (Some left) new (part Truncated (length buf)) (Err e) → IsNotRefused (Err (answer_of ImageHeader e))
whole_not_short buf (stops.Refused c) left new fits (rest, is, now) = absurd (omega (arith, fits, (short_is (length buf) left c rest is).less))
whole_not_short buf stops.ReadFault left new fits h = tt
whole_not_short buf stops.Memory left new fits h = tt

-- and have no fault
pub ident_is_fine : (buf left : List ℕ) (new : Option (List ℕ)) (c : Cause) → length buf ≡ 8 → begins_with_ident left ≡ true → AgreesWithJudging (Buffered buf) (Some left) new (part Truncated (length buf)) (Ok tt) → Some c ≡ fault_of_first buf → ⊥
ident_is_fine buf left new c size begins (bytes, rest, is, now, same) stands =
    let p = part_passes Truncated (length buf) left bytes rest is in
    let whole : left ≡ buf ++ rest = p.0 ∙ ap (λ l. l ++ rest) same in
    let first : take 8 left ≡ buf = ap (take 8) whole ∙ ap (λ n. take n (buf ++ rest)) (sym size) ∙ take-append_seam buf rest in
    let ident : is_ident buf ≡ true = ap is_ident (sym first) ∙ (and_parts (nat_le 8 (length left)) (is_ident (take 8 left)) begins).1 in
    let none : Some c ≡ None = stands ∙ ap (λ b. cond b None (fault_of_marker buf)) ident in
    cc
