use Rattle.mig_legacy.proofs.Common.{◌≡◌, length, rules, sym, ap, subst, arith, All, IsGoodWord, page_data_words, judged_as, words_form, batch_form, stopped, any_stop, stops}
use Rattle.mig_legacy.proofs.Batches.{behind_words, batch_is}
use Rattle.mig_legacy.proofs.BatchFrames.{good_words, few_words, batch_read, batch_stopped}
use Rattle.mig_legacy.proofs.Noted.{batch_noted}
use Rattle.mig_legacy.proofs.body.take_batch.Goals as goal

pub take_entries-requires-clause-good : goal.take_entries-requires-clause-good
take_entries-requires-clause-good g c =
    let ws = c.in_ok-words.words.items in
    let kind = c.args.guest.now.kind in
    let same : c.deref-2.result.now ≡ page_data_words ws = search rules in
    subst (All (IsGoodWord kind c.args.guest.now.top)) (sym same)
    (subst (λ n. All (IsGoodWord kind n) (page_data_words ws)) (sym c.requires.top)
    (subst (λ k. All (IsGoodWord k 0) (page_data_words ws)) (sym c.requires.hvm) (good_words ws c.in_ok-words.ensures.good)))

pub take_entries-requires-clause-few : goal.take_entries-requires-clause-few
take_entries-requires-clause-few g c =
    let ws = c.in_ok-words.words.items in
    let same : c.deref-2.result.now ≡ page_data_words ws = search rules in
    omega (arith, ap length same, few_words ws, c.in_ok-words.ensures.len, c.requires.few)

pub returns-in-Ok-take_entries-clause-read : goal.returns-in-Ok-take_entries-clause-read
returns-in-Ok-take_entries-clause-read g c =
    let ws = c.in_ok-words.words.items in
    let same : c.deref-2.result.now ≡ page_data_words ws = search rules in
    batch_read g.F.KeepsFrames.put c.args.guest.now c.take_entries.new.guest c.args.count c.requires.hvm c.requires.top _ _ _ c.in_ok-words.words (λ v. v.items) c.deref-2.result.now same c.in_ok-words.ensures.read c.in-Ok-take_entries.ensures.read

pub returns-in_err-words-clause-read : goal.returns-in_err-words-clause-read
returns-in_err-words-clause-read g c =
    stopped _ _ _ _ (judged_as (words_form c.args.count)) (judged_as (batch_form c.args.count)) behind_words c.in_err-words.field-0.0 c.from_residual.result (batch_is c.args.count) (search rules) c.in_err-words.ensures.read

pub returns-clause-read : goal.returns-clause-read
returns-clause-read g c =
    let ws = c.in_ok-words.words.items in
    let same : c.deref-2.result.now ≡ page_data_words ws = search rules in
    batch_stopped g.F.KeepsFrames.put c.args.guest.now c.take_entries.new.guest c.args.count c.requires.hvm c.requires.top _ _ _ c.in_ok-words.words (λ v. v.items) c.deref-2.result.now same c.in-Err.stop c.truncated.result c.truncated.ensures c.in_ok-words.ensures.read c.in-Err.ensures.read

pub returns-in-Ok-take_entries-clause-noted : goal.returns-in-Ok-take_entries-clause-noted
returns-in-Ok-take_entries-clause-noted g c =
    let ws = c.in_ok-words.words.items in
    let same : c.deref-2.result.now ≡ page_data_words ws = search rules in
    batch_noted g.F.KeepsFrames.notes c.goes_on.ensures.read_on c.args.keeper.now c.take_entries.new.keeper c.args.guest.now c.args.count c.requires.hvm c.requires.top _ _ _ c.in_ok-words.words (λ v. v.items) c.deref-2.result.now same c.in_ok-words.ensures.read c.in-Ok-take_entries.ensures.noted

pub returns-in_err-words-clause-noted : goal.returns-in_err-words-clause-noted
returns-in_err-words-clause-noted g c = stops _ _ (λ s. s ≡ c.in_err-words.field-0.0) _ _ _ c.from_residual.result (search rules) (returns-in_err-words-clause-read g c)

pub returns-clause-noted : goal.returns-clause-noted
returns-clause-noted g c = any_stop _ _ _ _ _ _ (returns-clause-read g c)
