use Rattle.mig_libxl.proofs.Common.{◌≡◌, ◌≤◌, ◌<◌, length, drop, rules, refl, sym, ap, subst, ◌∙◌, AreBytes, Context, emulator_key, Truncated, le32, said_read, said_refused, most_body, fine_context}
use Rattle.mig_libxl_form.specs.Judging.{fault_of_context}
use Rattle.mig_libxl.proofs.Begun.{context_begun}
use Rattle.mig_libxl.proofs.Taking.{are_read, read_in, context_bad_id, context_bad_index, context_put, takes_of, behind_front}
use Rattle.mig_libxl.proofs.read.WrapperSeen.take_context.Goals as goal

pub returns-then-id-ge-EMULATOR_IDS-clause-read : goal.returns-then-id-ge-EMULATOR_IDS-clause-read
returns-then-id-ge-EMULATOR_IDS-clause-read g c =
    let same : c.deref-2.result.now ≡ c.in_ok-body.body.items = search rules in
    said_refused Truncated _ _ c.args.len _ refl (λ b. Context (emulator_key 259 b) (drop 8 b)) c.in_ok-body.body fault_of_context _ _ _ c.in_ok-body.ensures.read
    (λ bytes e. context_bad_id bytes c.u32_le-id.result _ (c.u32_le-id.ensures ∙ ap (λ l. le32 l 0) (same ∙ sym e)) c.from.ensures c.if-id-ge-EMULATOR_IDS.true)

pub returns-then-index-ge-EMULATOR_INDICES-clause-read : goal.returns-then-index-ge-EMULATOR_INDICES-clause-read
returns-then-index-ge-EMULATOR_INDICES-clause-read g c =
    let same : c.deref-2.result.now ≡ c.in_ok-body.body.items = search rules in
    let alike : c.deref-3.result.now ≡ c.in_ok-body.body.items = search rules in
    said_refused Truncated _ _ c.args.len _ refl (λ b. Context (emulator_key 259 b) (drop 8 b)) c.in_ok-body.body fault_of_context _ _ _ c.in_ok-body.ensures.read
    (λ bytes e. context_bad_index bytes c.u32_le-id.result c.u32_le-index.result _ (c.u32_le-id.ensures ∙ ap (λ l. le32 l 0) (same ∙ sym e)) (c.u32_le-index.ensures ∙ ap (λ l. le32 l 4) (alike ∙ sym e)) c.from-then-index-ge-EMULATOR_INDICES.ensures c.if-id-ge-EMULATOR_IDS.false c.if-index-ge-EMULATOR_INDICES.true)

pub returns-in-Ok-clause-read : goal.returns-in-Ok-clause-read
returns-in-Ok-clause-read g c =
    let read = are_read c.in_ok-body.body.items c.deref-2.result.now c.deref-3.result.now c.deref-4.result.now _ c.u32_le-id.result c.u32_le-index.result (search rules) (search rules) (search rules) c.u32_le-id.ensures c.u32_le-index.ensures refl in
    said_read Truncated _ _ c.args.len _ refl (λ b. Context (emulator_key 259 b) (drop 8 b)) c.in_ok-body.body fault_of_context _ _ tt c.in_ok-body.ensures.read
    (λ bytes is.
    let r = read_in bytes read is in (
      fine_context bytes (subst (λ k. k < 3) r.id_is c.if-id-ge-EMULATOR_IDS.false) (subst (λ k. k < 256) r.index_is c.if-index-ge-EMULATOR_INDICES.false),
      takes_of g.I.KeptImage.is_of c.args.self.now _ 3 (Context (emulator_key 259 bytes) (drop 8 bytes)) refl refl (c.in-Ok.ensures.ok ∙ context_put c.args.self.now.emulators bytes _ _ _ r) refl refl refl,
    ))

pub returns-in-Ok-clause-begun : goal.returns-in-Ok-clause-begun
returns-in-Ok-clause-begun g c =
    let body = c.deref-4.result.now in
    let alike : c.deref.result.now ≡ body = search rules in
    let size : length body ≡ c.args.len = search rules in
    context_begun g.I.KeptImage.kept c.args.self.now c.set_context.new.self _ c.u32_le-id.result c.u32_le-index.result c.requires.begun c.if-id-ge-EMULATOR_IDS.false c.if-index-ge-EMULATOR_INDICES.false body c.in-Ok.ensures.ok (behind_front body body _ refl refl)
    (subst (λ n. 8 ≤ n) (sym size) c.requires.front) (subst (λ n. n ≤ most_body) (sym size) c.requires.small) (subst AreBytes alike c.are_bytes.ensures)
