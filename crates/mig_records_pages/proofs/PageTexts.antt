-- The words and pages of frames, one after another, and the record that they make.
use Rattle.mig_records_pages.proofs.Common.{List, [], ap, arith, drop, length, length-append, refl, replicate, sym, take, ℕ, ◌*◌, ◌++◌, ◌+◌, ◌∙◌, ◌∷◌, ◌≡◌, ◌≤◌, take-append-add, length-take, head_of, spelled, little_bytes}
use Rattle.mig_bytes.specs.Bytes.{padding_len}
use Rattle.mig_records_pages.specs.PageData.{Frame, frame_word_in, page_in, pages_of, words_of, body_of}
use Rattle.mig_bytes.specs.Fields.{with_field}
use Rattle.mig_records_pages.proofs.ListSteps.{flat_next}
use Rattle.mig_records.proofs.RecordTexts.{spelled_flat}

-- ---- a batch

pub words_len : (fs : List Frame) → length (words_of fs) ≡ 8 * length fs
words_len [] = refl
words_len (f ∷ fs) = omega (arith, length-append (little_bytes 8 (frame_word_in f)) (words_of fs), words_len fs)

-- one frame's pages more
pub pages_next : (i : ℕ) (fs rest : List Frame) (e : Frame) (n m : ℕ) → drop i fs ≡ e ∷ rest → length (pages_of (take i fs)) ≡ 4096 * n → length (page_in e) ≡ 4096 * m → length (pages_of (take (i + 1) fs)) ≡ 4096 * (n + m)
pages_next i fs rest e n m is before here = ap length (flat_next page_in i fs rest e is) ∙ omega (arith, length-append (pages_of (take i fs)) (page_in e), before, here)

body_len : (fs : List Frame) (n pages : ℕ) → n ≡ length fs → length (pages_of fs) ≡ 4096 * pages → length (body_of fs) ≡ 8 + 8 * n + 4096 * pages
unfolding body_of
body_len fs n pages count len =
    omega (arith, count, len, length-append (little_bytes 4 (length fs)) (replicate 4 0 ++ (words_of fs ++ pages_of fs)), length-append (replicate 4 0) (words_of fs ++ pages_of fs), length-append (words_of fs) (pages_of fs), words_len fs)

no_padding : (n pages : ℕ) → padding_len (8 + 8 * n + 4096 * pages) ≡ 0
no_padding n pages = omega arith

batch_text : (fs : List Frame) (n pages : ℕ) → n ≡ length fs → length (pages_of fs) ≡ 4096 * pages
    → spelled 1 (body_of fs) ≡ head_of 1 (8 + 8 * n + 4096 * pages) ++ ((little_bytes 4 n ++ replicate 4 0) ++ (words_of fs ++ pages_of fs))
unfolding body_of
batch_text fs n pages count len =
    spelled_flat 1 (8 + 8 * n + 4096 * pages) (body_of fs) (body_len fs n pages count len) (no_padding n pages)
    ∙ ap (λ m. head_of 1 (8 + 8 * n + 4096 * pages) ++ ((little_bytes 4 m ++ replicate 4 0) ++ (words_of fs ++ pages_of fs))) (sym count)

-- so many of these frames
pub some_text : (fs : List Frame) (n pages : ℕ) → n ≤ length fs → length (pages_of (take n fs)) ≡ 4096 * pages
    → spelled 1 (body_of (take n fs)) ≡ head_of 1 (8 + 8 * n + 4096 * pages) ++ ((little_bytes 4 n ++ replicate 4 0) ++ (words_of (take n fs) ++ pages_of (take n fs)))
some_text fs n pages le len = batch_text (take n fs) n pages (omega (arith, length-take n fs)) len

pub some_short : (fs : List Frame) (n pages : ℕ) → n ≤ length fs → length (pages_of (take n fs)) ≡ 4096 * pages → pages ≤ n → length (body_of (take n fs)) ≤ 8 + 4104 * n
some_short fs n pages le len few = omega (arith, body_len (take n fs) n pages (omega (arith, length-take n fs, le)) len, few)

-- ---- the words in a buffer

-- one word more
pub words_put : (i : ℕ) (fs rest : List Frame) (e : Frame) (buf new : List ℕ) → drop i fs ≡ e ∷ rest → 8 * i ≤ length buf → take (8 * i) buf ≡ words_of (take i fs)
    → new ≡ with_field buf (8 * i) (little_bytes 8 (frame_word_in e)) → take (8 * (i + 1)) new ≡ words_of (take (i + 1) fs)
words_put i fs rest e buf new is room before put =
    let front = take (8 * i) buf in let field = little_bytes 8 (frame_word_in e) in let behind = drop (8 * i + length field) buf in
    let size : length front ≡ 8 * i = omega (arith, length-take (8 * i) buf) in
    ap (take (8 * (i + 1))) put ∙ ap (λ n. take n (front ++ (field ++ behind))) (let e : 8 * (i + 1) ≡ length front + 8 = omega (arith, size) in e)
    ∙ take-append-add front (field ++ behind) 8 ∙ ap (λ l. l ++ field) before
    ∙ sym (flat_next (λ f. little_bytes 8 (frame_word_in f)) i fs rest e is)
