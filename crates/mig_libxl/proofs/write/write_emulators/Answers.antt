use Rattle.mig_libxl.proofs.Common.{◌≡◌, ◌≢◌, ℕ, true, [], ◌∷◌, ◌++◌, inl, inr, refl, ap, ◌∙◌, rules, ◌==◌, eqb-true, or_cases, is_emulator_code, Part, emulator_record, emulators_in_order, Appends-nil}
use Rattle.mig_records_pages.proofs.ListSteps.{more_done, done_on, done_stop}
use Rattle.mig_libxl.proofs.EmulatorParts.{behind_context, behind_pairs, met_holds, order_is}
use Rattle.mig_libxl.proofs.EmulatorTexts.{short_emulator}
use Rattle.mig_libxl.proofs.write.write_emulators.Goals as goal

pub loop-key-init : goal.loop-key-init
loop-key-init g c = record { pairs = tt; context = tt; bytes = ([], order_is c.args.guest.now.parts, Appends-nil _); quiet = refl }

pub write_emulator-requires-clause-code : goal.write_emulator-requires-clause-code
write_emulator-requires-clause-code g c =
    let (done, split, before) = c.loop-key.invariant.bytes in
    (met_holds c.args.guest.now.parts done _ (c.in-Some.key, c.in-Some.bytes.now) (split ∙ ap (λ l. done ++ l) c.in-Some.ensures.next)).code

pub write_emulator-requires-clause-small : goal.write_emulator-requires-clause-small
write_emulator-requires-clause-small g c =
    let (done, split, before) = c.loop-key.invariant.bytes in
    let is = met_holds c.args.guest.now.parts done _ (c.in-Some.key, c.in-Some.bytes.now) (split ∙ ap (λ l. done ++ l) c.in-Some.ensures.next) in
    short_emulator c.args.guest.now c.in-Some.key c.in-Some.bytes.now c.requires.formed is.code is.there

pub returns-in_err-write_emulator-clause-bytes : goal.returns-in_err-write_emulator-clause-bytes
returns-in_err-write_emulator-clause-bytes g c =
    let e : Part = (c.in-Some.key, c.in-Some.bytes.now) in let (done, split, before) = c.loop-key.invariant.bytes in
    done_stop emulator_record done e (emulators_in_order c.args.guest.now.parts) _ _ _ _ _ c.from_residual.result (split ∙ ap (λ l. done ++ l) c.in-Some.ensures.next) before c.from_residual.ensures.1 c.in_err-write_emulator.ensures.bytes

pub loop-key-preserved-then-key-eq-EMULATOR_PAIRS : goal.loop-key-preserved-then-key-eq-EMULATOR_PAIRS
loop-key-preserved-then-key-eq-EMULATOR_PAIRS g c =
    let parts = c.args.guest.now.parts in let e : Part = (c.in-Some.key, c.in-Some.bytes.now) in let (done, split, before) = c.loop-key.invariant.bytes in
    let more = behind_pairs parts c.loop-key.pairs c.loop-key.context e c.in-Some.ensures.next c.if-key-eq-EMULATOR_PAIRS.true in
    record {
      pairs = c.if-key-eq-EMULATOR_PAIRS.true;
      context = c.loop-key.invariant.context;
      bytes = (done ++ e ∷ [], more_done emulator_record done e (emulators_in_order parts) _ (split ∙ ap (λ l. done ++ l) more), done_on emulator_record done e _ _ _ before c.in_ok-write_emulator.ensures.bytes);
      quiet = search rules;
    }

context_code : (code : ℕ) → is_emulator_code code ≡ true → code ≢ 258 → code ≡ 259
context_code code is other = elim (or_cases (code == 258) (code == 259) is) [ inl a ↦ absurd (other (eqb-true code 258 a)) | inr b ↦ eqb-true code 259 b ]

pub loop-key-preserved : goal.loop-key-preserved
loop-key-preserved g c =
    let parts = c.args.guest.now.parts in let e : Part = (c.in-Some.key, c.in-Some.bytes.now) in let (done, split, before) = c.loop-key.invariant.bytes in
    let more = behind_context parts c.loop-key.pairs c.loop-key.context e c.in-Some.ensures.next c.if-key-eq-EMULATOR_PAIRS.false in
    record {
      pairs = c.loop-key.invariant.pairs;
      context = context_code c.in-Some.key.code (met_holds parts done _ e (split ∙ ap (λ l. done ++ l) more)).code c.if-key-eq-EMULATOR_PAIRS.false;
      bytes = (done ++ e ∷ [], more_done emulator_record done e (emulators_in_order parts) _ (split ∙ ap (λ l. done ++ l) more), done_on emulator_record done e _ _ _ before c.in_ok-write_emulator.ensures.bytes);
      quiet = search rules;
    }
