-- What the words of a batch say, and the words of a PAGE_DATA that say the same.
use Rattle.mig_legacy.proofs.Common.{◌*◌, ◌^◌, ◌⊎◌, inl, inr, rules, word_of, legacy_pfn, legacy_word, placeholder, word_with, number_of, type_of, PageType, page_data_word, IsTyped}
use Rattle.mig_legacy.proofs.ChunkCommon.{◌≡◌, ℕ, ◌+◌, ◌<◌, ◌≤◌, Bool, true, false, cond, List, [], ◌∷◌, Option, Some, None, nat_eq, refl, sym, ap, subst, ◌∙◌, arith, common_steps, All, legacy_type, fault_of_batch, page_data_words_of}
use Rattle.std.specs.Prelude.{nat_le}
use Rattle.mig_pagetypes.specs.declared.frame_word.FrameWord.{FrameWord}
use Rattle.mig_pagetypes.specs.declared.legacy_word.LegacyWord.{LegacyWord}
use Rattle.mig_pagetypes.specs.declared.legacy_word.LegacyWord.TheVariants.{Placeholder, Word, High}
use Rattle.mig_legacy.specs.WordsSaid.{SaysFrame, WordsSayFrames}
use Rattle.mig_legacy.proofs.BatchLaws.{batches_judged}

named : (n : ℕ) (t : PageType) → type_of n ≡ Some t → number_of t ≡ n
named n t is = search rules

nameless : (n : ℕ) → n < 16 → type_of n ≡ None → (5 ≤ n) × (n ≤ 8)
nameless n lt is = grind (arith, common_steps)

without_name : (n : ℕ) → 5 ≤ n → n ≤ 8 → type_of n ≡ None
without_name n low high = grind (arith, common_steps)

-- the word by its type, by whether it is high, and by whether it is the placeholder
abbrev by_tests : ℕ → PageType → Bool → Bool → LegacyWord
by_tests w t high none = cond high High (cond none Placeholder (Word (record { pfn = legacy_pfn w; kind = t })))

-- ---- no fault

says_frame : (w : ℕ) (o : Option PageType) → type_of (legacy_type w) ≡ o → IsTyped w → w < 2 ^ 32 → SaysFrame (word_with w o)
says_frame w None is typed low = let bad = nameless (legacy_type w) (omega arith) is in absurd (elim typed [ inl h ↦ omega (arith, bad.0, h) | inr h ↦ omega (arith, bad.1, h) ])
says_frame w (Some t) is typed low = subst (λ b. SaysFrame (by_tests w t b (nat_eq w placeholder))) (sym (not_high w low)) (either (nat_eq w placeholder))
  where
    not_high : (w : ℕ) → w < 2 ^ 32 → nat_le (2 ^ 32) w ≡ false
    not_high w low = grind (arith, common_steps)

    either : (b : Bool) → SaysFrame (by_tests w t false b)
    either true = tt
    either false = tt

typed_word : (w : ℕ) (o : Option PageType) → type_of (legacy_type w) ≡ o → SaysFrame (word_with w o) → IsTyped w × (w < 2 ^ 32)
typed_word w None is frame = absurd frame
typed_word w (Some t) is frame = (typed, by (nat_le (2 ^ 32) w) refl frame)
  where
    some_type : (o : Option PageType) → o ≡ Some t → o ≡ None → ⊥
    some_type o h k = cc

    typed : IsTyped w
    typed = elim (split (legacy_type w)) [ inl h ↦ h | inr h ↦ absurd (some_type (type_of (legacy_type w)) is (without_name (legacy_type w) h.0 h.1)) ]
      where
        split : (n : ℕ) → ((n < 5) ⊎ (8 < n)) ⊎ ((5 ≤ n) × (n ≤ 8))
        split n = grind (arith, common_steps)

    by : (b : Bool) → nat_le (2 ^ 32) w ≡ b → SaysFrame (by_tests w t b (nat_eq w placeholder)) → w < 2 ^ 32
    by true high frame = absurd frame
    by false low frame = grind (arith, common_steps)

faultless : (ws : List ℕ) → (fault_of_batch ws ≡ None → All (λ w. SaysFrame (legacy_word w)) ws) × (All (λ w. SaysFrame (legacy_word w)) ws → fault_of_batch ws ≡ None)
faultless ws = (
  λ none k d lt. let h = (batches_judged ws).faultless.0 none k d lt in says_frame _ _ refl h.0 h.1,
  λ all. (batches_judged ws).faultless.1 (λ k d lt. typed_word _ _ refl (all k d lt)),
)

-- ---- the words of a PAGE_DATA

frame_word_is : (w : ℕ) (f : FrameWord) (o : Option PageType) → type_of (legacy_type w) ≡ o → word_with w o ≡ Word f → page_data_words_of w ≡ word_of f ∷ []
frame_word_is w f None is says = cc
frame_word_is w f (Some t) is says = by (nat_le (2 ^ 32) w) (nat_eq w placeholder) refl refl says
  where
    by : (high none : Bool) → nat_le (2 ^ 32) w ≡ high → nat_eq w placeholder ≡ none → by_tests w t high none ≡ Word f → cond (nat_eq w placeholder) [] (page_data_word w ∷ []) ≡ word_of f ∷ []
    by true none is_high is_none says = cc
    by false true is_high is_none says = cc
    by false false is_high is_none says =
        let same : record { pfn = legacy_pfn w; kind = t } ≡ f = cc in
        ap (λ b. cond b [] (page_data_word w ∷ [])) is_none ∙ ap (λ n. (n * 2 ^ 60 + legacy_pfn w) ∷ []) (sym (named (legacy_type w) t is)) ∙ ap (λ g. word_of g ∷ []) same

no_word : (w : ℕ) (o : Option PageType) → word_with w o ≡ Placeholder → page_data_words_of w ≡ []
no_word w None says = cc
no_word w (Some t) says = by (nat_le (2 ^ 32) w) (nat_eq w placeholder) refl says
  where
    by : (high none : Bool) → nat_eq w placeholder ≡ none → by_tests w t high none ≡ Placeholder → cond (nat_eq w placeholder) [] (page_data_word w ∷ []) ≡ []
    by true none is_none says = cc
    by false true is_none says = ap (λ b. cond b [] (page_data_word w ∷ [])) is_none
    by false false is_none says = cc

pub words_say : WordsSayFrames
words_say = record { faultless = faultless; frame = λ w f says. frame_word_is w f _ refl says; none = λ w says. no_word w _ says }
