-- The body of a batch: its form is judged as its words and then the entries of an image; what judging lets pass is spelled as
-- the format says, and what is spelled so passes.
use Rattle.mig_legacy.proofs.Common.{said_passes, said_goes, ◌≡◌, ℕ, ◌+◌, ◌*◌, List, [], ◌∷◌, ◌++◌, Bool, true, false, cond, nat_lt, length, take, drop, Option, Some, None, refl, sym, ap, subst, ◌∙◌, append_assoc, All, list_any_none, Judged, ◌>>=◌, part, tried, each, Passes, Faulty, both_pass, same_passes, then_passes, no_fault, rows_fine, Hvm, LegacyCause, Truncated, words, none_pass, type_in_word, fault_of_level, fault_of_page, entry_at, type_in_guest, FrameEntry, AreEntries, is_reserved, is_high, batch_rows, fault_of_batch, page_data_words, word_pfn, judged_as, ◌>>>◌, each_form, Given, computed, first_named, plain_form, words_form, page_of_word, entry_form, batch_form, LegacyContent, Frames, IsLegacyWord, IsLegacyBatch, then_is, computed_is, Cause, word_has_data, level_of, PageType, page_at}
use Rattle.mig_headers.specs.declared.fault.Cause.TheVariants.{Truncated as ImageTruncated}
use Rattle.mig_pagetypes.specs.declared.page_type.PageType.TheVariants.{Notab}
use Rattle.mig_restore_form.proofs.Batches.{each_entries, entries_go, entries_in_place}

-- ---- pages, of which none is a table

no_level : (t : PageType) → level_of (type_in_guest Hvm t) ≡ None
no_level Notab = refl
no_level _ = refl

page_fine : (place w : ℕ) (bytes : List ℕ) → fault_of_page Hvm 0 (place, w) bytes ≡ None
page_fine place w bytes = ap (λ o. fault_of_level 0 place o bytes) (no_level (type_in_word w))

-- ---- the entries are those of an image, where the only cause that can stand is that a page isn't whole

abbrev pub or_truncated : {C X : Type 0} → Judged C X → Judged LegacyCause X
or_truncated (Passes x rest) = Passes x rest
or_truncated (Faulty c rest) = Faulty Truncated rest

pub or_passes : {X : Type 0} (j : Judged Cause X) (x : X) (rest : List ℕ) → or_truncated j ≡ Passes x rest → j ≡ Passes x rest
or_passes (Passes y mid) x rest h = let e = same_passes y x mid rest h in ap (λ z. Passes z mid) e.0 ∙ ap (Passes x) e.1
or_passes {X} (Faulty c mid) x rest h = let no : ◌≡◌ {A = Judged LegacyCause X} (Faulty Truncated mid) (Passes x rest) = h in absurd (cc)

or_then : {C X Y : Type 0} (j : Judged C X) (k : X × List ℕ → Judged C Y) → or_truncated (j >>= k) ≡ (or_truncated j >>= λ a. or_truncated (k a))
or_then (Passes x rest) k = refl
or_then (Faulty c rest) k = refl

-- the entry of a word
abbrev entry_with : ℕ → Option (List ℕ) → FrameEntry
entry_with w page = record { pfn = word_pfn w; type = type_in_word w; page = page }

page_judged : (place w : ℕ) (i : List ℕ) → judged_as (page_of_word w) i ≡ or_truncated (page_at Hvm 0 (place, w) i)
unfolding judged_as
page_judged place w i = by (word_has_data w)
  where
    says : List ℕ × List ℕ → Judged LegacyCause (Option (List ℕ))
    says p = Passes (Some p.0) p.1

    page : List ℕ × List ℕ → Judged Cause (Option (List ℕ))
    page p = tried (fault_of_page Hvm 0 (place, w) p.0) p.1 >>= λ _. Passes (Some p.0) p.1

    whole : (short : Bool) → (cond short (Faulty Truncated []) (Passes (take 4096 i) (drop 4096 i)) >>= says) ≡ or_truncated (cond short (Faulty ImageTruncated []) (Passes (take 4096 i) (drop 4096 i)) >>= page)
    whole true = refl
    whole false = ap (λ o. or_truncated (tried o (drop 4096 i) >>= λ _. Passes (Some (take 4096 i)) (drop 4096 i))) (sym (page_fine place w (take 4096 i)))

    by : (sent : Bool) → judged_as (cond sent (plain_form 4096 Some) (Given None)) i ≡ or_truncated (cond sent (part ImageTruncated 4096 i >>= page) (Passes None i))
    by true = whole (nat_lt (length i) 4096)
    by false = refl

entry_judged : (place w : ℕ) (i : List ℕ) → judged_as (entry_form w) i ≡ or_truncated (entry_at Hvm 0 (place, w) i)
unfolding judged_as
entry_judged place w i =
    then_is (page_of_word w) (λ page. Given (entry_with w page)) i (or_truncated (page_at Hvm 0 (place, w) i)) (λ page. Passes (entry_with w page.0) page.1) (page_judged place w i) (λ page mid. refl)
    ∙ sym (or_then (page_at Hvm 0 (place, w) i) (λ page. Passes (entry_with w page.0) page.1))

entries_judged : (place : ℕ) (ws i : List ℕ) → judged_as (each_form entry_form ws) i ≡ or_truncated (entries_in_place Hvm 0 place ws i)
unfolding judged_as each_form each
entries_judged place [] i = refl
entries_judged place (w ∷ ws) i =
    then_is (entry_form w) (λ x. each_form entry_form ws >>> λ xs. Given (x ∷ xs)) i (or_truncated (entry_at Hvm 0 (place, w) i)) (λ x. or_truncated (others x)) (entry_judged place w i)
    (λ x mid. then_is (each_form entry_form ws) (λ xs. Given (x ∷ xs)) mid (or_truncated (entries_in_place Hvm 0 (place + 1) ws mid)) (λ xs. Passes (x ∷ xs.0) xs.1) (entries_judged (place + 1) ws mid) (λ xs rest. refl)
    ∙ sym (or_then (entries_in_place Hvm 0 (place + 1) ws mid) (λ xs. Passes (x ∷ xs.0) xs.1)))
    ∙ sym (or_then (entry_at Hvm 0 (place, w) i) others)
  where
    others : FrameEntry × List ℕ → Judged Cause (List FrameEntry)
    others x = entries_in_place Hvm 0 (place + 1) ws x.1 >>= λ xs. Passes (x.0 ∷ xs.0) xs.1

-- ---- the words

pub words_fine : (ws : List ℕ) → fault_of_batch ws ≡ None → All IsLegacyWord ws
words_fine ws fine =
    let rows = rows_fine (batch_rows ws) fine in
    λ k d lt. (none_pass is_reserved ws rows.0 k d lt, none_pass is_high ws rows.1.0 k d lt)

pub fine_words : (ws : List ℕ) → All IsLegacyWord ws → fault_of_batch ws ≡ None
fine_words ws good = no_fault (batch_rows ws) (list_any_none is_reserved ws (λ k d lt. (good k d lt).0), (list_any_none is_high ws (λ k d lt. (good k d lt).1), tt))

-- ---- a batch

abbrev pub behind_words : List ℕ × List ℕ → Judged LegacyCause LegacyContent
behind_words ws = or_truncated (entries_in_place Hvm 0 0 (page_data_words ws.0) ws.1) >>= λ entries. Passes (Frames entries.0) entries.1

pub batch_is : (n : ℕ) (i : List ℕ) → judged_as (batch_form n) i ≡ (judged_as (words_form n) i >>= behind_words)
unfolding judged_as
batch_is n i =
    then_is (words_form n) (λ ws. each_form entry_form (page_data_words ws) >>> λ entries. Given (Frames entries)) i (judged_as (words_form n) i) behind_words refl
    (λ ws mid. then_is (each_form entry_form (page_data_words ws)) (λ entries. Given (Frames entries)) mid (or_truncated (entries_in_place Hvm 0 0 (page_data_words ws) mid)) (λ entries. Passes (Frames entries.0) entries.1) (entries_judged 0 (page_data_words ws) mid) (λ entries rest. refl))

pub record Batch (n : ℕ) (i : List ℕ) (c : LegacyContent) (rest : List ℕ) : Type 0 where
  pub body : List ℕ
  pub es : List FrameEntry
  pub whole : i ≡ body ++ rest
  pub is : IsLegacyBatch n body es
  pub says : Frames es ≡ c

-- what the table of the words names
abbrev named : ℕ → List ℕ → Option LegacyCause
named n bytes = first_named (computed (fault_of_batch (words n bytes)))

pub batch_passes : (n : ℕ) (i : List ℕ) (c : LegacyContent) (rest : List ℕ) → judged_as (batch_form n) i ≡ Passes c rest → Batch n i c rest
unfolding judged_as
batch_passes n i c rest h =
    let a = both_pass (judged_as (words_form n) i) behind_words c rest (sym (batch_is n i) ∙ h) in
    let w = said_passes Truncated (named n) (words n) (8 * n) i a.x a.mid a.first in
    let b = both_pass (or_truncated (entries_in_place Hvm 0 0 (page_data_words a.x) a.mid)) (λ entries. Passes (Frames entries.0) entries.1) c rest a.second in
    let p = each_entries Hvm 0 0 (page_data_words a.x) a.mid b.x b.mid (or_passes (entries_in_place Hvm 0 0 (page_data_words a.x) a.mid) b.x b.mid b.first) in
    let e = same_passes _ _ _ _ b.second in
    let fine = sym (computed_is (fault_of_batch (words n w.bytes))) ∙ w.fine in
    record {
      body = w.bytes ++ p.bytes;
      es = b.x;
      whole = w.whole ∙ ap (λ l. w.bytes ++ l) (p.whole ∙ ap (λ l. p.bytes ++ l) e.1) ∙ sym (append_assoc w.bytes p.bytes rest);
      is = record { words_bytes = w.bytes; pages_bytes = p.bytes; whole = refl; words_len = w.size; good = words_fine (words n w.bytes) fine; entries = subst (λ ws. AreEntries Hvm 0 (page_data_words ws) p.bytes b.x) (sym w.value) p.entries };
      says = e.0;
    }

pub batch_goes : (n : ℕ) (body rest : List ℕ) (es : List FrameEntry) → IsLegacyBatch n body es → judged_as (batch_form n) (body ++ rest) ≡ Passes (Frames es) rest
unfolding judged_as
batch_goes n body rest es is =
    let ws = words n is.words_bytes in
    let mid = is.pages_bytes ++ rest in
    ap (judged_as (batch_form n)) (ap (λ l. l ++ rest) is.whole ∙ append_assoc is.words_bytes is.pages_bytes rest)
    ∙ batch_is n (is.words_bytes ++ mid)
    ∙ then_passes (judged_as (words_form n) (is.words_bytes ++ mid)) behind_words ws mid _ (said_goes Truncated (named n) (words n) (8 * n) is.words_bytes mid is.words_len (computed_is (fault_of_batch ws) ∙ fine_words ws is.good))
    (ap (λ j. or_truncated j >>= λ entries. Passes (Frames entries.0) entries.1) (entries_go Hvm 0 0 (page_data_words ws) is.pages_bytes rest es is.entries))
