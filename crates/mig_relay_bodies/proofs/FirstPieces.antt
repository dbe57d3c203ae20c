-- What is known behind the first piece of a body.
use Rattle.mig_relay_bodies.proofs.Common.{◌≡◌, ◌≢◌, ℕ, ◌+◌, ◌-◌, ◌*◌, ◌≤◌, min, List, ◌++◌, length, take, drop, fold, Option, Some, sym, ap, subst, ◌∙◌, arith, length-drop, option_or, ◌/◌, le32, fault_of_entries, fault_of_pv_info, fault_of_body, fault_of_content, VcpuBasic, VcpuExtended, HvmParam, in32, Cause, BadLength, pairs_fault, piece_of, params, IsKnown, no_bytes, then_byte, BodyForm, PvInfo, P2mFrames, BasicVcpu, OtherVcpu, HvmParams, EmulatorPairs, EmulatorContext, Knows, Nothing, Texts, Params, Basic, Verdict, Pairs, fault_of_p2m, FitsForm, fault_of_form}
use Rattle.mig_libxl_form.specs.Judging.{fault_of_context}
use Rattle.mig_relay_bodies.proofs.Fronts.{none_left, info_told, other_told, basic_told, params_misfit, params_told}

-- ---- behind a first piece

-- what is known of this form, where the first piece has 8 bytes
abbrev pub KnownFirst : BodyForm → Knows → ℕ → List ℕ → Type 0
KnownFirst form knows len piece = FitsForm form len → length piece ≡ piece_of (Nothing form) 0 len → IsKnown knows len (fault_of_form form) piece

pub at_form : (form this : BodyForm) (knows : Knows) (len : ℕ) (piece : List ℕ) → form ≡ this → KnownFirst this knows len piece → KnownFirst form knows len piece
at_form form this knows len piece is known = subst (λ (f : BodyForm). KnownFirst f knows len piece) (sym is) known

pub verdict_first : (form : BodyForm) (len : ℕ) (piece : List ℕ) (v : Option Cause) → ((more : List ℕ) → length (piece ++ more) ≡ len → fault_of_form form (piece ++ more) ≡ v) → KnownFirst form (Verdict v) len piece
verdict_first form len piece v told fits size = record { stands = tt; says = told }

pub info_first : (len : ℕ) (piece : List ℕ) (v : Option Cause) → 8 ≤ length piece → v ≡ fault_of_pv_info (take 8 piece) → KnownFirst PvInfo (Verdict v) len piece
info_first len piece v long is = verdict_first PvInfo len piece v (λ more whole. info_told piece more long ∙ sym is)

pub other_first : (len : ℕ) (piece : List ℕ) (v : Option Cause) → 8 ≤ length piece → v ≡ fault_of_body VcpuExtended (take 8 piece) → KnownFirst OtherVcpu (Verdict v) len piece
other_first len piece v long is = verdict_first OtherVcpu len piece v (λ more whole. other_told piece more long ∙ sym is)

pub basic_first : (len : ℕ) (piece : List ℕ) (v : Option Cause) → 8 ≤ length piece → v ≡ fault_of_body VcpuBasic (take 8 piece) → KnownFirst BasicVcpu (Basic v) len piece
basic_first len piece v long is fits size = record {
  stands = (omega (arith, fits, size), fits);
  says = λ more whole. basic_told piece more long ∙ ap (λ o. option_or o (fault_of_content VcpuBasic (drop 8 (piece ++ more)))) (sym is);
}

-- what holds of each body whose first two words are those of the piece
abbrev pub ByWords : (List ℕ → Option Cause) → ℕ → List ℕ → Option Cause → Type 0
ByWords fault len piece v = (body : List ℕ) → length body ≡ len → le32 body 0 ≡ le32 piece 0 → le32 body 4 ≡ le32 piece 4 → v ≡ fault body

by_words : (fault : List ℕ → Option Cause) (len : ℕ) (piece : List ℕ) (v : Option Cause) → 8 ≤ length piece → ByWords fault len piece v → (more : List ℕ) → length (piece ++ more) ≡ len → fault (piece ++ more) ≡ v
by_words fault len piece v long told more whole = sym (told (piece ++ more) whole (in32 piece more 0 (omega (arith, long))) (in32 piece more 4 (omega (arith, long))))

pub frames_first : (len : ℕ) (piece : List ℕ) (v : Option Cause) → 8 ≤ length piece → ByWords fault_of_p2m len piece v → KnownFirst P2mFrames (Verdict v) len piece
frames_first len piece v long told = verdict_first P2mFrames len piece v (by_words fault_of_p2m len piece v long told)

pub context_first : (len : ℕ) (piece : List ℕ) (v : Option Cause) → 8 ≤ length piece → ByWords fault_of_context len piece v → KnownFirst EmulatorContext (Verdict v) len piece
context_first len piece v long told = verdict_first EmulatorContext len piece v (by_words fault_of_context len piece v long told)

pub pairs_first : (len : ℕ) (piece : List ℕ) (v : Option Cause) (pairs : Pairs) → 8 ≤ length piece → ByWords fault_of_context len piece v → pairs ≡ no_bytes → KnownFirst EmulatorPairs (Texts v pairs) len piece
pairs_first len piece v pairs long told none fits size = record {
  stands = (long, none ∙ ap (fold then_byte no_bytes) (sym (none_left (drop 8 piece) (omega (arith, length-drop 8 piece, size)))));
  says = λ more whole. ap (λ o. option_or (pairs_fault (drop 8 (piece ++ more))) o) (by_words fault_of_context len piece v long told more whole);
}

-- ---- HVM parameters

pub params_misfit_first : (len count n : ℕ) (piece : List ℕ) → 8 ≤ length piece → count ≡ le32 piece 0 → len ≢ 8 + 16 * count → n ≡ len → IsKnown (Verdict (Some (BadLength n))) len (fault_of_form HvmParams) piece
params_misfit_first len count n piece long is other same = record {
  stands = tt;
  says = λ more whole. params_misfit len count piece more long is other whole ∙ ap (λ k. Some (BadLength k)) (sym same);
}

-- the first fault of these bytes, where they are whole entries
abbrev pub FirstOf : List ℕ → Option Cause → Type 0
FirstOf bytes first = (n : ℕ) → length bytes ≡ 16 * n → first ≡ fault_of_entries HvmParam params n bytes

pub params_first : (len count : ℕ) (piece : List ℕ) (first : Option Cause) → 8 ≤ length piece → count ≡ le32 piece 0 → len ≡ 8 + 16 * count → FirstOf (drop 8 piece) first → length piece ≡ piece_of (Nothing HvmParams) 0 len
    → IsKnown (Params first) len (fault_of_form HvmParams) piece
params_first len count piece first long is fits told size = record {
  stands = (count - min count 255, omega (arith, fits, size));
  says = λ more whole.
      params_told len count (min count 255) (count - min count 255) piece more long is fits (omega arith) (omega (arith, fits, size)) whole
      ∙ ap (λ o. option_or o (fault_of_entries HvmParam params (length more / 16) more)) (sym (told (min count 255) (omega (arith, length-drop 8 piece, fits, size))));
}
