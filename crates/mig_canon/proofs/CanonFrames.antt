-- The body of each batch of frames says these frames.
use Rattle.mig_canon.proofs.Common.{◌≡◌, ℕ, zero, suc, ◌+◌, ◌-◌, ◌*◌, ◌≤◌, ◌<◌, ◌^◌, min, List, [], ◌∷◌, ◌++◌, length, take, drop, map, replicate, Bool, true, false, Option, Some, None, refl, sym, ap, subst, ◌∙◌, arith, length-append, drop-drop, is_some, All, nat_lt, range_with_len, nat_cmp-IsAntisymmetric, little_bytes, Kind, Hvm, Pv, GuestOf, IsFormed, Frame, batch, batches, page_in, words_of, pages_of, frames_in, common_steps, All-nil, All-cons, All-head, All-tail, length-drop, take_all, nat_cmp_total, little_number-reads_back, PageType, words_len, IsSendable, told, ◌/◌, ◌%◌, unwrap_or, IsInside, little_number, is_type_of, IsPage, IsEntry, AreEntries, IsGoodWord, IsBatch, all_found, pfn_limit, length-take, Notab}
use Rattle.mig_records_pages.specs.PageData.{frame_word_in, body_of}
use Rattle.std.proofs.Math.Seq.{take-add}
use Rattle.mig_bytes.specs.Fields.{le32, le64}
use Rattle.mig_pagetypes.proofs.Numbers.{number_small, type_back}
use Rattle.mig_pagetypes.specs.PageTypes.{number_of, type_of, type_or_none, type_has_data}
use Rattle.mig_pagetypes.specs.FrameWords.{word_type, word_pfn, word_has_data, some_has_data}
use Rattle.mig_records.specs.Words.{words, has_reserved_type, is_outside}
use Rattle.mig_guest.specs.Tables.{EachEntry, IsWithin}
use Rattle.mig_canon.proofs.CanonMaps.{IsKept}
use Rattle.mig_canon.proofs.CanonParts.{le32_first}
use Rattle.std.specs.FinMap as maps
use Rattle.mig_restore_form.proofs.Batches.{type_stays}

pub all_fine : (g : GuestOf) (kind : Kind) → g.kind ≡ kind → IsFormed g → All (IsSendable kind g.top) (frames_in g)
all_fine g kind of_kind formed = all_found nat_cmp_total nat_cmp-IsAntisymmetric (IsSendable kind g.top) (frames_in g) (maps.entries_sorted g.frames) (λ q v is.
    let frame = formed.frames q v (maps.get-entries g.frames q ∙ is) in
    record {
      low = frame.small;
      inside = subst (λ (k : Kind). IsInside k g.top q) of_kind frame.inside;
      in_step = frame.is.in_step;
      whole = frame.is.whole;
      type = type_stays kind v.type (subst (λ (k : Kind). is_type_of k v.type ≡ true) of_kind frame.type);
      entries = frame.entries;
    })

pub all_kept : (g : GuestOf) (kind : Kind) → g.kind ≡ kind → IsFormed g → All (IsKept kind) (frames_in g)
all_kept g kind of_kind formed = all_found nat_cmp_total nat_cmp-IsAntisymmetric (IsKept kind) (frames_in g) (maps.entries_sorted g.frames) (λ q v is.
    let frame = formed.frames q v (maps.get-entries g.frames q ∙ is) in
    (type_stays kind v.type (subst (λ (k : Kind). is_type_of k v.type ≡ true) of_kind frame.type), frame.is.there))

-- ---- a word

type_is : (n p : ℕ) → p < pfn_limit → (n * 2 ^ 60 + p) / 2 ^ 60 ≡ n
type_is n p h = omega arith

pfn_is : (n p : ℕ) → p < pfn_limit → (n * 2 ^ 60 + p) % 2 ^ 52 ≡ p
pfn_is n p h = omega arith

not_reserved : (t : PageType) (w : ℕ) → word_type w ≡ number_of t → has_reserved_type w ≡ false
not_reserved Notab w is = rw is refl
not_reserved _ w is = rw is refl

-- a frame number that lies inside isn't outside
not_outside : (kind : Kind) (top n p : ℕ) → n ≡ p → IsInside kind top p → is_outside kind top n ≡ false
not_outside Hvm top n p is inside = refl
not_outside Pv top n p is inside = below n (omega (arith, is, inside))
  where
    below : (m : ℕ) → m ≤ top → nat_lt top m ≡ false
    below m less = grind (arith, common_steps)

page_is : (o : Option (List ℕ)) (b : Bool) → is_some o ≡ b → ((page : List ℕ) → o ≡ Some page → length page ≡ 4096) → IsPage b (unwrap_or o []) o
page_is None true e size = absurd (cc)
page_is None false e size = (refl, refl)
page_is (Some p) true e size = (size p refl, refl)
page_is (Some p) false e size = absurd (cc)

module _ (kind : Kind) (top : ℕ) (f : Frame) (fine : IsSendable kind top f) where
  typed : word_type (frame_word_in f) ≡ number_of f.1.type
  typed = type_is (number_of f.1.type) f.0 fine.low

  numbered : word_pfn (frame_word_in f) ≡ f.0
  numbered = pfn_is (number_of f.1.type) f.0 fine.low

  small : frame_word_in f < 2 ^ 64
  small = omega (arith, number_small f.1.type, fine.low)

  good_word : IsGoodWord kind top (frame_word_in f)
  good_word = (not_reserved f.1.type (frame_word_in f) typed, not_outside kind top (word_pfn (frame_word_in f)) f.0 numbered fine.inside)

  has_data : word_has_data (frame_word_in f) ≡ type_has_data f.1.type
  has_data = ap (λ n. some_has_data (type_of n)) typed ∙ ap some_has_data (type_back f.1.type)

  is_entry : IsEntry kind top (frame_word_in f) (page_in f) (told f)
  is_entry = record {
    pfn = sym numbered;
    type = sym (ap (λ n. type_or_none (type_of n)) typed ∙ ap type_or_none (type_back f.1.type));
    page = subst (λ b. IsPage b (page_in f) f.1.page) (sym has_data) (page_is f.1.page (type_has_data f.1.type) fine.in_step fine.whole);
    within = subst (λ (t : PageType). EachEntry (IsWithin top) (record { type = t; page = f.1.page })) (sym fine.type) fine.entries;
  }

-- ---- a batch

page_len : (b : Bool) (bytes : List ℕ) (page : Option (List ℕ)) → IsPage b bytes page → length bytes ≤ 4096
page_len true bytes page h = omega (arith, h.0)
page_len false bytes page h = omega (arith, ap length h.0)

le64_first : (n : ℕ) (more : List ℕ) → n < 2 ^ 64 → le64 (little_bytes 8 n ++ more) (8 * 0) ≡ n
unfolding le64
le64_first n more small = little_number-reads_back 8 n more small

le64_next : (n : ℕ) (more : List ℕ) (k : ℕ) → le64 (little_bytes 8 n ++ more) (8 * (k + 1)) ≡ le64 more (8 * k)
unfolding le64
le64_next n more k =
    ap (λ i. little_number 8 (drop i (little_bytes 8 n ++ more))) (let e : 8 * (k + 1) ≡ 8 + 8 * k = omega arith in e)
    ∙ ap (little_number 8) (sym (drop-drop (8 * k) 8 (little_bytes 8 n ++ more)))

shifted : {X : Type 0} (f h : ℕ → X) (a n : ℕ) → ((k : ℕ) → f (k + 1) ≡ h k) → map f (range_with_len (a + 1) n) ≡ map h (range_with_len a n)
shifted f h a zero same = refl
shifted f h a (suc n) same = ap (λ x. x ∷ map f (range_with_len (a + 1 + 1) n)) (same a) ∙ ap (λ l. h a ∷ l) (shifted f h (a + 1) n same)

abbrev front : List Frame → List ℕ
front fs = little_bytes 4 (length fs) ++ replicate 4 0

module _ (kind : Kind) (top : ℕ) where
  pub pages_len : (fs : List Frame) → All (IsSendable kind top) fs → length (pages_of fs) ≤ 4096 * length fs
  pages_len [] h = omega arith
  pages_len (f ∷ fs) h =
      let one = page_len (word_has_data (frame_word_in f)) (page_in f) f.1.page (is_entry kind top f (All-head (IsSendable kind top) f fs h)).page in
      omega (arith, length-append (page_in f) (pages_of fs), pages_len fs (All-tail (IsSendable kind top) f fs h), one)

  words_are : (fs : List Frame) → All (IsSendable kind top) fs → words (length fs) (words_of fs) ≡ map frame_word_in fs
  words_are [] h = refl
  words_are (f ∷ fs) h =
      ap (λ x. x ∷ map (λ k. le64 (words_of (f ∷ fs)) (8 * k)) (range_with_len 1 (length fs))) (le64_first (frame_word_in f) (words_of fs) (small kind top f (All-head (IsSendable kind top) f fs h)))
      ∙ ap (λ l. frame_word_in f ∷ l) (shifted (λ k. le64 (words_of (f ∷ fs)) (8 * k)) (λ k. le64 (words_of fs) (8 * k)) 0 (length fs) (le64_next (frame_word_in f) (words_of fs)) ∙ words_are fs (All-tail (IsSendable kind top) f fs h))

  good_words : (fs : List Frame) → All (IsSendable kind top) fs → All (IsGoodWord kind top) (map frame_word_in fs)
  good_words [] h = All-nil (IsGoodWord kind top)
  good_words (f ∷ fs) h = All-cons (IsGoodWord kind top) (frame_word_in f) (map frame_word_in fs) (good_word kind top f (All-head (IsSendable kind top) f fs h)) (good_words fs (All-tail (IsSendable kind top) f fs h))

  are_entries : (fs : List Frame) → All (IsSendable kind top) fs → AreEntries kind top (map frame_word_in fs) (pages_of fs) (map told fs)
  are_entries [] h = (refl, refl)
  are_entries (f ∷ fs) h = (page_in f, pages_of fs, told f, map told fs, refl, refl, is_entry kind top f (All-head (IsSendable kind top) f fs h), are_entries fs (All-tail (IsSendable kind top) f fs h))

  pub is_batch : (fs : List Frame) → All (IsSendable kind top) fs → 0 < length fs → length fs ≤ 1024 → IsBatch kind top (body_of fs) (map told fs)
  unfolding body_of
  is_batch fs h some most =
      let count : le32 (front fs) 0 ≡ length fs = le32_first (length fs) (replicate 4 0) (omega arith) in
      let ws : words (le32 (front fs) 0) (words_of fs) ≡ map frame_word_in fs = ap (λ n. words n (words_of fs)) count ∙ words_are fs h in
      record {
        front = front fs;
        words_bytes = words_of fs;
        pages_bytes = pages_of fs;
        whole = refl;
        front_len = refl;
        some = subst (λ n. 0 < n) (sym count) some;
        words_len = words_len fs ∙ ap (λ n. 8 * n) (sym count);
        good = subst (All (IsGoodWord kind top)) (sym ws) (good_words fs h);
        entries = subst (λ l. AreEntries kind top l (pages_of fs) (map told fs)) (sym ws) (are_entries fs h);
      }

pub body_len : (fs : List Frame) → length (body_of fs) ≡ 8 + (length (words_of fs) + length (pages_of fs))
unfolding body_of
body_len fs = omega (arith, length-append (front fs) (words_of fs ++ pages_of fs), length-append (words_of fs) (pages_of fs))

pub batch_len : (fs : List Frame) (n : ℕ) → n < batches fs → (0 < length (batch fs n)) × (length (batch fs n) ≤ 1024)
batch_len fs n h =
    let e : length (batch fs n) ≡ min 1024 (length fs - 1024 * n) = length-take 1024 (drop (1024 * n) fs) ∙ ap (λ m. min 1024 m) (length-drop (1024 * n) fs) in
    (omega (arith, e), omega (arith, e))

pub take_more : (fs : List Frame) (n : ℕ) → take (1024 * n) fs ++ batch fs n ≡ take (1024 * suc n) fs
take_more fs n = sym (take-add (1024 * n) 1024 fs) ∙ ap (λ i. take i fs) (let e : 1024 * n + 1024 ≡ 1024 * suc n = omega arith in e)

pub all_taken : (fs : List Frame) → take (1024 * batches fs) fs ≡ fs
all_taken fs = take_all (1024 * batches fs) fs (omega arith)

pub few_batches : (fs : List Frame) → length fs ≤ 2 ^ 24 → batches fs ≤ 2 ^ 14
few_batches fs h = omega arith
