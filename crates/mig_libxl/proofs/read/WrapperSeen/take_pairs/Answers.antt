use Rattle.mig_libxl.proofs.Common.{◌≡◌, ◌<◌, drop, rules, refl, sym, subst, ◌∙◌, All-drop, AreBytes, Pairs, emulator_key, Truncated, pairs_in, said_read, said_refused, store_small}
use Rattle.mig_libxl_form.specs.Judging.{fault_of_pairs}
use Rattle.mig_libxl.proofs.Begun.{pairs_begun}
use Rattle.mig_libxl.proofs.Taking.{are_read, read_in, pairs_bad, pairs_bad_id, pairs_too_many, pairs_bad_index, pairs_fine, pairs_put, takes_of, behind_front}
use Rattle.mig_libxl.proofs.read.WrapperSeen.take_pairs.Goals as goal

pub returns-in-Some-clause-read : goal.returns-in-Some-clause-read
returns-in-Some-clause-read g c =
    let read = are_read c.in_ok-body.body.items c.deref-2.result.now c.deref-3.result.now c.deref-4.result.now _ c.u32_le-id.result c.u32_le-index.result (search rules) (search rules) (search rules) c.u32_le-id.ensures c.u32_le-index.ensures refl in
    let e = c.args.self.now.emulators in
    said_refused Truncated _ _ c.args.len _ refl (λ b. Pairs (emulator_key 258 b) (pairs_in (drop 8 b))) c.in_ok-body.body (fault_of_pairs e) _ _ _ c.in_ok-body.ensures.read
    (λ bytes is. pairs_bad e bytes _ _ _ (read_in bytes read is) c.in-Some.cause (sym c.pairs_fault.ensures.value ∙ c.in-Some.is))

pub returns-then-id-ge-EMULATOR_IDS-clause-read : goal.returns-then-id-ge-EMULATOR_IDS-clause-read
returns-then-id-ge-EMULATOR_IDS-clause-read g c =
    let read = are_read c.in_ok-body.body.items c.deref-2.result.now c.deref-3.result.now c.deref-4.result.now _ c.u32_le-id.result c.u32_le-index.result (search rules) (search rules) (search rules) c.u32_le-id.ensures c.u32_le-index.ensures refl in
    let e = c.args.self.now.emulators in
    said_refused Truncated _ _ c.args.len _ refl (λ b. Pairs (emulator_key 258 b) (pairs_in (drop 8 b))) c.in_ok-body.body (fault_of_pairs e) _ _ _ c.in_ok-body.ensures.read
    (λ bytes is. pairs_bad_id e bytes _ _ _ (read_in bytes read is) _ (sym c.pairs_fault.ensures.value ∙ c.in_default.is) c.from.ensures c.if-id-ge-EMULATOR_IDS.true)

pub add_pairs-requires-clause-small : goal.add_pairs-requires-clause-small
add_pairs-requires-clause-small g c =
    store_small c.args.self.now.emulators (record { code = 258; key1 = c.u32_le-id.result; key2 = c.u32_le-index.result }) c.requires.begun.emulators

pub returns-in-Err-TooMany-clause-read : goal.returns-in-Err-TooMany-clause-read
returns-in-Err-TooMany-clause-read g c =
    let read = are_read c.in_ok-body.body.items c.deref-2.result.now c.deref-3.result.now c.deref-4.result.now _ c.u32_le-id.result c.u32_le-index.result (search rules) (search rules) (search rules) c.u32_le-id.ensures c.u32_le-index.ensures refl in
    let e = c.args.self.now.emulators in
    said_refused Truncated _ _ c.args.len _ refl (λ b. Pairs (emulator_key 258 b) (pairs_in (drop 8 b))) c.in_ok-body.body (fault_of_pairs e) _ _ _ c.in_ok-body.ensures.read
    (λ bytes is. pairs_too_many e bytes _ _ _ (read_in bytes read is) (sym c.pairs_fault.ensures.value ∙ c.in_default.is) c.if-id-ge-EMULATOR_IDS.false (search rules))

pub returns-then-index-ge-EMULATOR_INDICES-clause-read : goal.returns-then-index-ge-EMULATOR_INDICES-clause-read
returns-then-index-ge-EMULATOR_INDICES-clause-read g c =
    let read = are_read c.in_ok-body.body.items c.deref-2.result.now c.deref-3.result.now c.deref-4.result.now _ c.u32_le-id.result c.u32_le-index.result (search rules) (search rules) (search rules) c.u32_le-id.ensures c.u32_le-index.ensures refl in
    let e = c.args.self.now.emulators in
    said_refused Truncated _ _ c.args.len _ refl (λ b. Pairs (emulator_key 258 b) (pairs_in (drop 8 b))) c.in_ok-body.body (fault_of_pairs e) _ _ _ c.in_ok-body.ensures.read
    (λ bytes is. pairs_bad_index e bytes _ _ _ (read_in bytes read is) _ (sym c.pairs_fault.ensures.value ∙ c.in_default.is) c.if-id-ge-EMULATOR_IDS.false c.in-Ok.ensures.fits c.from-then-index-ge-EMULATOR_INDICES.ensures c.if-index-ge-EMULATOR_INDICES.true)

pub returns-clause-read : goal.returns-clause-read
returns-clause-read g c =
    let read = are_read c.in_ok-body.body.items c.deref-2.result.now c.deref-3.result.now c.deref-4.result.now _ c.u32_le-id.result c.u32_le-index.result (search rules) (search rules) (search rules) c.u32_le-id.ensures c.u32_le-index.ensures refl in
    let e = c.args.self.now.emulators in
    said_read Truncated _ _ c.args.len _ refl (λ b. Pairs (emulator_key 258 b) (pairs_in (drop 8 b))) c.in_ok-body.body (fault_of_pairs e) _ _ tt c.in_ok-body.ensures.read
    (λ bytes is. (
      pairs_fine e bytes _ _ _ (read_in bytes read is) (sym c.pairs_fault.ensures.value ∙ c.in_default.is) c.if-id-ge-EMULATOR_IDS.false c.in-Ok.ensures.fits c.if-index-ge-EMULATOR_INDICES.false,
      takes_of g.I.KeptImage.is_of c.args.self.now _ 2 (Pairs (emulator_key 258 bytes) (pairs_in (drop 8 bytes))) refl refl (c.in-Ok.ensures.ok ∙ pairs_put e bytes _ _ _ (read_in bytes read is)) refl refl refl,
    ))

pub returns-clause-begun : goal.returns-clause-begun
returns-clause-begun g c =
    let body = c.deref-4.result.now in
    let alike : c.deref.result.now ≡ body = search rules in
    pairs_begun g.I.KeptImage.kept c.args.self.now c.add_pairs.new.self _ c.u32_le-id.result c.u32_le-index.result c.requires.begun c.if-id-ge-EMULATOR_IDS.false c.if-index-ge-EMULATOR_INDICES.false
    c.in-Ok.ensures.ok (sym c.pairs_fault.ensures.value ∙ c.in_default.is) c.in-Ok.ensures.fits (subst AreBytes (sym (behind_front body body _ refl refl)) (All-drop (λ b. b < 256) 8 body (subst AreBytes alike c.are_bytes.ensures)))
