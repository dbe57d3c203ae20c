-- The frames of a batch are those of a PAGE_DATA, whose words are good.
use Rattle.mig_legacy.proofs.Common.{◌≡◌, ℕ, ◌≤◌, Bool, true, false, cond, List, [], ◌∷◌, length, nat_le, Option, Some, None, Ok, Err, refl, sym, ap, subst, ◌∙◌, arith, length-append, ◌&&◌, ◌==◌, All, All-nil, All-cons, All-append, All-head, All-tail, Judged, ◌>>=◌, each, AgreesWithJudging, Passes, Stop, then_reads, Kind, Hvm, LegacyCause, rows_fine, GuestOf, word_type, legacy_type, placeholder, none_pass, entry_at, with_places, put_entries_by, EntryStep, FrameEntry, IsGoodWord, is_reserved, fault_of_batch, batch_rows, page_data_word, page_data_words_of, page_data_words, judged_as, words_form, batch_form, LegacyContent, Frames, put_in_guest, Refused, ReadFault, Memory, Cause, cut_short}
use Rattle.mig_legacy.proofs.Batches.{or_truncated, behind_words, batch_is}

-- ---- the words

type_is : (w : ℕ) → word_type (page_data_word w) ≡ legacy_type w
type_is w = omega arith

good_word : (w : ℕ) → is_reserved w ≡ false → IsGoodWord Hvm 0 (page_data_word w)
good_word w is = (ap (λ n. nat_le 5 n && nat_le n 8) (type_is w) ∙ is, refl)

one_good : (b : Bool) (w : ℕ) → is_reserved w ≡ false → All (IsGoodWord Hvm 0) (cond b [] (page_data_word w ∷ []))
one_good true w is = All-nil (IsGoodWord Hvm 0)
one_good false w is = All-cons (IsGoodWord Hvm 0) (page_data_word w) [] (good_word w is) (All-nil (IsGoodWord Hvm 0))

words_good : (ws : List ℕ) → All (λ w. is_reserved w ≡ false) ws → All (IsGoodWord Hvm 0) (page_data_words ws)
words_good [] all = All-nil (IsGoodWord Hvm 0)
words_good (w ∷ ws) all =
    All-append (IsGoodWord Hvm 0) (page_data_words_of w) (page_data_words ws) (one_good (w == placeholder) w (All-head (λ n. is_reserved n ≡ false) w ws all)) (words_good ws (All-tail (λ n. is_reserved n ≡ false) w ws all))

pub good_words : (ws : List ℕ) → fault_of_batch ws ≡ None → All (IsGoodWord Hvm 0) (page_data_words ws)
good_words ws none = words_good ws (none_pass is_reserved ws (rows_fine (batch_rows ws) none).0)

one_few : (b : Bool) (w : ℕ) → length (cond b [] (page_data_word w ∷ [])) ≤ 1
one_few true w = omega arith
one_few false w = omega arith

pub few_words : (ws : List ℕ) → length (page_data_words ws) ≤ length ws
few_words [] = omega arith
few_words (w ∷ ws) = omega (arith, length-append (page_data_words_of w) (page_data_words ws), one_few (w == placeholder) w, few_words ws)

-- ---- the frames

module _ {X Y V : Type 0} (R : X → Y → Type 0) (Q : V → LegacyContent → Type 0) (f : List ℕ → Judged Cause Y) (says : Y → LegacyContent) where
  pub cut_read : (a b : Option (List ℕ)) (x : X) (v : V) → AgreesWithJudging R a b f (Ok x) → ((y : Y) → R x y → Q v (says y)) → AgreesWithJudging Q a b (λ i. or_truncated (f i) >>= λ y. Passes (says y.0) y.1) (Ok v)
  cut_read None b x v h turn = tt
  cut_read (Some i) b x v (y, rest, is, left, r) turn = (says y, rest, ap (λ j. or_truncated j >>= λ y. Passes (says y.0) y.1) is, left, turn y r)

  pub cut_stops : (a b : Option (List ℕ)) (e : Stop Cause) → AgreesWithJudging R a b f (Err e) → AgreesWithJudging Q a b (λ i. or_truncated (f i) >>= λ y. Passes (says y.0) y.1) (Err (cut_short e))
  cut_stops None b e h = tt
  cut_stops (Some i) b (Refused c) (rest, is, left) = (rest, ap (λ j. or_truncated j >>= λ y. Passes (says y.0) y.1) is, left)
  cut_stops (Some i) b ReadFault h = tt
  cut_stops (Some i) b Memory h = tt

-- an HVM guest's entries are judged without a top
pub same_entries : (kind : Kind) (top : ℕ) (ws list : List ℕ) → kind ≡ Hvm → top ≡ 0 → list ≡ page_data_words ws → each (entry_at kind top) (with_places 0 list) ≡ each (entry_at Hvm 0) (with_places 0 (page_data_words ws))
same_entries kind top ws list hvm zero is = ap (λ k. each (entry_at k top) (with_places 0 list)) hvm ∙ ap (λ n. each (entry_at Hvm n) (with_places 0 list)) zero ∙ ap (λ l. each (entry_at Hvm 0) (with_places 0 l)) is

module _ {X : Type 0} (put : EntryStep) (g h : GuestOf) (n : ℕ) (hvm : g.kind ≡ Hvm) (zero : g.top ≡ 0) (a b c : Option (List ℕ)) (words : X) (items : X → List ℕ) (list : List ℕ) (is : list ≡ page_data_words (items words)) where
  abbrev Sets : Unit {0} → List FrameEntry → Type 0
  Sets _ es = h ≡ record g { frames = put_entries_by put g.kind g.frames es }

  same : (ws : List ℕ) → ws ≡ items words → each (entry_at g.kind g.top) (with_places 0 list) ≡ each (entry_at Hvm 0) (with_places 0 (page_data_words ws))
  same ws e = same_entries g.kind g.top ws list hvm zero (is ∙ ap page_data_words (sym e))

  pub batch_read : AgreesWithJudging (λ v ws. ws ≡ items v) a b (judged_as (words_form n)) (Ok words) → AgreesWithJudging Sets b c (each (entry_at g.kind g.top) (with_places 0 list)) (Ok tt) → AgreesWithJudging {X = Unit {0}} (λ _ said. h ≡ put_in_guest put g said) a c (judged_as (batch_form n)) (Ok tt)
  batch_read told read =
      then_reads (λ v ws. ws ≡ items v) (λ _ said. h ≡ put_in_guest put g said) a b c (judged_as (words_form n)) (judged_as (batch_form n)) behind_words words (Ok tt) (batch_is n) told
      (λ ws e. cut_read Sets (λ _ said. h ≡ put_in_guest put g said) (each (entry_at Hvm 0) (with_places 0 (page_data_words ws))) Frames b c tt tt (subst (λ f. AgreesWithJudging Sets b c f (Ok tt)) (same ws e) read) (λ es now. now))

  pub batch_stopped : (e : Stop Cause) (t : Stop LegacyCause) → t ≡ cut_short e → AgreesWithJudging (λ v ws. ws ≡ items v) a b (judged_as (words_form n)) (Ok words) → AgreesWithJudging Sets b c (each (entry_at g.kind g.top) (with_places 0 list)) (Err e)
      → AgreesWithJudging {X = Unit {0}} (λ _ said. h ≡ put_in_guest put g said) a c (judged_as (batch_form n)) (Err t)
  batch_stopped e t cut told read =
      subst (λ (s : Stop LegacyCause). AgreesWithJudging {X = Unit {0}} (λ _ said. h ≡ put_in_guest put g said) a c (judged_as (batch_form n)) (Err s)) (sym cut)
      (then_reads (λ v ws. ws ≡ items v) (λ _ said. h ≡ put_in_guest put g said) a b c (judged_as (words_form n)) (judged_as (batch_form n)) behind_words words (Err (cut_short e)) (batch_is n) told
      (λ ws is. cut_stops Sets (λ _ said. h ≡ put_in_guest put g said) (each (entry_at Hvm 0) (with_places 0 (page_data_words ws))) Frames b c e (subst (λ f. AgreesWithJudging Sets b c f (Err e)) (same ws is) read)))
