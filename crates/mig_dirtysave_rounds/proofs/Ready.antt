-- Room that was made is unused.
use Rattle.mig_dirtysave_rounds.proofs.Common.{arith, ◌≡◌, ℕ, ◌+◌, ◌/◌, ◌^◌, ◌≤◌, ◌<◌, List, [], length, get_or, Option, None, sym, ap, ◌∙◌, inl, inr, cases_lt, fun_ext, PageType, FrameTold, Pfns, no_pfns, all_below, pfns_of_words, Notes, notes_of, no_notes, IsUnused, get_or_past}

none_seen : (types : List (Option PageType)) → ((p : ℕ) → p < length types → get_or types p None ≡ None) → (p : ℕ) → get_or types p None ≡ None
none_seen types none p = elim (cases_lt p (length types)) [ inl less ↦ none p less | inr past ↦ get_or_past types p None past ]

none_noted : (deferred : List ℕ) (types : List (Option PageType)) → pfns_of_words deferred ≡ no_pfns → ((p : ℕ) → p < length types → get_or types p None ≡ None) → notes_of deferred types ≡ no_notes
none_noted deferred types calm none =
    ap (λ (d : Pfns). let notes : Notes = record { deferred = d; types = λ p. get_or types p None } in notes) calm
    ∙ ap (λ t. let notes : Notes = record { deferred = no_pfns; types = t } in notes) (fun_ext (none_seen types none))

pub made_unused : (n : ℕ) (batch : List FrameTold) (set deferred : List ℕ) (types : List (Option PageType)) (log : List ℕ) → n ≤ 2 ^ 28 → batch ≡ [] → pfns_of_words set ≡ all_below n → pfns_of_words deferred ≡ no_pfns
    → length set ≡ (n + 63) / 64 → length deferred ≡ (n + 63) / 64 → length types ≡ n → ((p : ℕ) → p < length types → get_or types p None ≡ None) → length log ≡ (n + 63) / 64
    → IsUnused batch set deferred types log
made_unused n batch set deferred types log small empty all calm room wide size none words = record {
  empty = empty;
  all = all ∙ ap all_below (sym size);
  none = none_noted deferred types calm none;
  narrow = omega arith;
  words = room ∙ ap (λ m. (m + 63) / 64) (sym size);
  wide = wide ∙ sym room;
  spare = words ∙ sym room;
}
