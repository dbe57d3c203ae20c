-- The front, the words and the pages of a PAGE_DATA are parts, one after another.
use Rattle.mig_relay.proofs.Common.{◌≡◌, ℕ, ◌*◌, List, [], ◌∷◌, ◌++◌, true, false, Option, Some, None, refl, sym, ap, ◌∙◌, append_assoc, append-nil, length, le32, Judged, ◌>>=◌, part, tried, placed, said_at, Passes, Faulty, Cause, Truncated, Record, word_has_data, fault_of_count, words, RecordHead, StreamRecord, FrameEntry, Frames, Opening, before, fault_of_page, with_places, entry_at, AtPadding, judged_next, with_body, entry_of_word, fault_of_list, words_at, pages_at, behind_list, front_list, good_list, list_stage, pages_behind, words_behind}
use Rattle.mig_bytes.specs.Judged.{each}

module _ (o : Opening) (records : List StreamRecord) (head : RecordHead) where
  abbrev kind_top : List (ℕ × ℕ) → List ℕ → Judged Cause (List FrameEntry)
  kind_top ws = each (entry_at o.kind (before o records).top) ws

  -- what is wrong with the words
  abbrev wrong : List ℕ → Option Cause
  wrong ws = fault_of_list o.kind (before o records).top head.len ws

  -- no page is left
  pub pages_over : (stood : List FrameEntry) (i : List ℕ) → pages_behind o records head [] stood i ≡ judged_next (AtPadding o records head (Frames stood)) i
  unfolding each
  pages_over stood i = ap (λ es. with_body o records head (Passes (Frames es) i)) (append-nil stood)

  -- the entry of a word, and the others
  on : (entry : FrameEntry) (stood : List FrameEntry) (j : Judged Cause (List FrameEntry))
      → ((j >>= λ others. Passes (entry ∷ others.0) others.1) >>= λ es. Passes (Frames (stood ++ es.0)) es.1) ≡ (j >>= λ es. Passes (Frames ((stood ++ entry ∷ []) ++ es.0)) es.1)
  on entry stood (Passes es rest) = ap (λ l. Passes (Frames l) rest) (sym (append_assoc stood (entry ∷ []) es))
  on entry stood (Faulty c rest) = refl

  module _ (place word : ℕ) (others : List (ℕ × ℕ)) (stood : List FrameEntry) where
    -- a word without a page
    pub no_page : word_has_data word ≡ false → (i : List ℕ) → pages_behind o records head ((place, word) ∷ others) stood i ≡ pages_behind o records head others (stood ++ entry_of_word word None ∷ []) i
    unfolding each
    no_page none i = rw none (ap (with_body o records head) (on (entry_of_word word None) stood (kind_top others i)))

    paged : (j : Judged Cause (List ℕ))
        → with_body o records head (((((j >>= λ page. tried (fault_of_page o.kind (before o records).top (place, word) page.0) page.1 >>= λ _. Passes (Some page.0) page.1) >>= λ page. Passes (entry_of_word word page.0) page.1) >>= λ first. kind_top others first.1 >>= λ es. Passes (first.0 ∷ es.0) es.1)) >>= λ es. Passes (Frames (stood ++ es.0)) es.1)
        ≡ (placed (Record (length records)) (j >>= λ b. tried (fault_of_page o.kind (before o records).top (place, word) b.0) b.1 >>= λ _. Passes b.0 b.1) >>= λ b. pages_behind o records head others (stood ++ entry_of_word word (Some b.0) ∷ []) b.1)
    paged (Faulty c rest) = refl
    paged (Passes b rest) =
        elim (fault_of_page o.kind (before o records).top (place, word) b) as (λ g. with_body o records head ((((tried g rest >>= λ _. Passes (Some b) rest) >>= λ page. Passes (entry_of_word word page.0) page.1) >>= λ first. kind_top others first.1 >>= λ es. Passes (first.0 ∷ es.0) es.1) >>= λ es. Passes (Frames (stood ++ es.0)) es.1)
        ≡ (placed (Record (length records)) (tried g rest >>= λ _. Passes b rest) >>= λ b. pages_behind o records head others (stood ++ entry_of_word word (Some b.0) ∷ []) b.1))
        [ None ↦ ap (with_body o records head) (on (entry_of_word word (Some b)) stood (kind_top others rest)) | Some c ↦ refl ]

    -- a page is a part
    pub page_part : word_has_data word ≡ true → (i : List ℕ) → pages_behind o records head ((place, word) ∷ others) stood i
        ≡ (placed (Record (length records)) (said_at Truncated (fault_of_page o.kind (before o records).top (place, word)) (λ b. b) 4096 i) >>= λ b. pages_behind o records head others (stood ++ entry_of_word word (Some b.0) ∷ []) b.1)
    unfolding each
    page_part some i = rw some (paged (part Truncated 4096 i))

  -- the words are a part, with the length that they ask for
  listed : (n : ℕ) (j : Judged Cause (List ℕ))
      → with_body o records head (((j >>= λ b. Passes (words n b.0) b.1) >>= λ ws. tried (wrong ws.0) ws.1 >>= λ _. kind_top (with_places 0 ws.0) ws.1 >>= λ es. Passes (Frames es.0) es.1))
      ≡ (placed (Record (length records)) (j >>= λ b. tried (wrong (words n b.0)) b.1 >>= λ _. Passes b.0 b.1) >>= λ b. pages_behind o records head (with_places 0 (words n b.0)) [] b.1)
  listed n (Faulty c rest) = refl
  listed n (Passes b rest) =
      elim (wrong (words n b)) as (λ g. with_body o records head (tried g rest >>= λ _. kind_top (with_places 0 (words n b)) rest >>= λ es. Passes (Frames es.0) es.1)
      ≡ (placed (Record (length records)) (tried g rest >>= λ _. Passes b rest) >>= λ b. pages_behind o records head (with_places 0 (words n b.0)) [] b.1)) [ None ↦ refl | Some c ↦ refl ]

  pub words_part : (n : ℕ) (i : List ℕ) → words_behind o records head n i
      ≡ (placed (Record (length records)) (said_at Truncated (λ b. wrong (words n b)) (λ b. b) (8 * n) i) >>= λ b. pages_behind o records head (with_places 0 (words n b.0)) [] b.1)
  words_part n i = listed n (part Truncated (8 * n) i)

  inner : (j : Judged Cause (List ℕ)) → ((j >>= good_list o.kind (before o records).top head.len) >>= behind_list o.kind (before o records).top)
      ≡ (j >>= λ ws. tried (wrong ws.0) ws.1 >>= λ _. behind_list o.kind (before o records).top ws)
  inner (Faulty c rest) = refl
  inner (Passes ws rest) = elim (wrong ws) as (λ g. ((tried g rest >>= λ _. Passes ws rest) >>= behind_list o.kind (before o records).top) ≡ (tried g rest >>= λ _. behind_list o.kind (before o records).top (ws, rest))) [ None ↦ refl | Some c ↦ refl ]

  -- the front is a part
  fronted : (j : Judged Cause (List ℕ))
      → with_body o records head ((j >>= front_list o.kind (before o records).top head.len) >>= behind_list o.kind (before o records).top)
      ≡ (placed (Record (length records)) (j >>= λ b. tried (fault_of_count head.len (le32 b.0 0)) b.1 >>= λ _. Passes b.0 b.1) >>= λ b. words_behind o records head (le32 b.0 0) b.1)
  fronted (Faulty c rest) = refl
  fronted (Passes b rest) =
      elim (fault_of_count head.len (le32 b 0)) as (λ g. with_body o records head ((tried g rest >>= λ _. words_at (le32 b 0) rest >>= good_list o.kind (before o records).top head.len) >>= behind_list o.kind (before o records).top)
      ≡ (placed (Record (length records)) (tried g rest >>= λ _. Passes b rest) >>= λ b. words_behind o records head (le32 b.0 0) b.1))
      [ None ↦ ap (with_body o records head) (inner (words_at (le32 b 0) rest)) | Some c ↦ refl ]

  pub front_part : (i : List ℕ) → with_body o records head (pages_at o.kind (before o records).top head.len i)
      ≡ (placed (Record (length records)) (said_at Truncated (λ b. fault_of_count head.len (le32 b 0)) (λ b. b) 8 i) >>= λ b. words_behind o records head (le32 b.0 0) b.1)
  front_part i = ap (with_body o records head) (list_stage o.kind (before o records).top head.len i) ∙ fronted (part Truncated 8 i)
