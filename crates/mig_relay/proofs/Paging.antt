-- A PAGE_DATA on its way: its count, its words and its pages are parts, and words without a page are passed over.
use Rattle.mig_relay.proofs.Common.{◌≡◌, ℕ, zero, suc, ◌+◌, ◌*◌, ◌-◌, ◌<◌, ◌≤◌, ◌^◌, ◌≢◌, Bool, true, false, cond, nat_eq, nat_lt, not, List, [], ◌∷◌, ◌++◌, length, drop, slice_index, Option, Some, None, Ok, Err, refl, sym, ap, subst, ◌∙◌, arith, ltb-true, ltb-false, eqb-true, eqb-false, not-false, map-append, padding_len, TakesFew, le32, Judged, ◌>>=◌, part, AgreesWithJudging, Stop, GuestOf, rows_fine, Cause, Truncated, BadLength, Place, Record, Kind, word_has_data, fault_of_count, fault_of_words, count_rows, words, RecordHead, ended_more, one_more_record, Opening, before, type_in_word, fault_of_data, fault_of_level, fault_of_page, with_places, sent, put_content, type_in_guest, StreamRecord, FrameEntry, types_of, is_verified, placed_content, Frames, IsSeen, ImageOf, ComesBehind, ComesNext, in_hand, more, image_next, Keeps, KeepsWords, KeepsRecords, KeepsHead, KeepsOuter, IsPages, AtHead, AtFront, AtWords, AtPages, judged_next, record_with, fault_of_list, entry_of_word, BeginsWithPart, Outer, Spot, InImage, spot, carry, Relay, both_none, replicate, count_by, le64, any_stop, data_len_of, level_of}
use Rattle.std.proofs.lemmas.List.FromFn.{length-map-range_with_len}
use Rattle.std.proofs.lemmas.List.Sums.{sum_by-cons}
use Rattle.std.proofs.lemmas.List.{drop_more, drop_all, length-append, length-replicate}
use Rattle.mig_pagetypes.specs.declared.page_type.PageType.{PageType}
use Rattle.mig_relay.specs.Following.{CountDue, FillsBody, WordsDue, bytes_behind_head, due, head_spot, pages_to_come, to_come, whole as last_bytes}
use Rattle.mig_relay.proofs.Kept.{outer_same, records_same}
use Rattle.mig_relay.proofs.Moves.{Buffered}
use Rattle.mig_relay.proofs.PageParts.{front_part, words_part, page_part, no_page, pages_over}
use Rattle.mig_relay.proofs.SpotParts.{lifted}
use Rattle.mig_relay.proofs.Unrolls.{with, no_padding}
use Rattle.mig_relay.specs.declared.state.Coming.TheVariants as comes

-- the word that has the next page, and those behind it, with their places
abbrev pub next_word : Relay → ℕ
next_word r = slice_index r.words.items r.page

abbrev pub others : Relay → List (ℕ × ℕ)
others r = with_places (r.page + 1) (drop (r.page + 1) r.words.items)

-- ---- the parts, in the stream around them

module _ (outer : Outer) (o : Opening) (records : List StreamRecord) (head : RecordHead) where
  -- the count of the words
  pub front_is : BeginsWithPart (spot (InImage outer (AtFront o records head))) (Record (length records)) 8 (λ b. fault_of_count head.len (le32 b 0)) (λ b i. spot (InImage outer (AtWords o records head (le32 b 0))) i)
  front_is = lifted (carry outer) (record { judged = front_part o records head; some = omega arith })

  -- so many words, with the length that they ask for
  pub words_is : (n : ℕ) → 0 < n
      → BeginsWithPart (spot (InImage outer (AtWords o records head n))) (Record (length records)) (8 * n) (λ b. fault_of_list o.kind (before o records).top head.len (words n b)) (λ b i. spot (InImage outer (AtPages o records head (with_places 0 (words n b)) [])) i)
  words_is n some = lifted (carry outer) (record { judged = words_part o records head n; some = omega (arith, some) })

  -- the page of the next word
  pub page_is : (r : Relay) (coming : List (ℕ × ℕ)) (stood : List FrameEntry) → KeepsWords r coming stood
      → BeginsWithPart (spot (InImage outer (AtPages o records head coming stood))) (Record (length records)) 4096 (fault_of_page o.kind (before o records).top (r.page, next_word r)) (λ b i. spot (InImage outer (AtPages o records head (others r) (stood ++ entry_of_word (next_word r) (Some b) ∷ []))) i)
  page_is r coming stood kept = lifted (carry outer) (record {
    judged = λ i. ap (λ l. judged_next (AtPages o records head l stood) i) (kept.left ∙ ap (with_places r.page) (drop_more r.words.items r.page 0 kept.some)) ∙ page_part o records head r.page (next_word r) (others r) stood kept.paged i;
    some = omega arith;
  })

-- ---- what has no fault

-- the words fit in the body, and there are some
pub in_count : (len n : ℕ) → None ≡ fault_of_count len n → (0 < n) × (8 + 8 * n ≤ len)
in_count len n fine =
    let rows = rows_fine (count_rows len n) (sym fine) in
    let other = eqb-false n 0 rows.1.0 in
    (grind (arith, other), ltb-false _ _ rows.0)

-- a body of words and pages needs no padding
pub whole_length : (len : ℕ) (ws : List ℕ) → fault_of_data len ws ≡ None → padding_len len ≡ 0
whole_length len ws fine =
    let rows = rows_fine ((not (nat_eq len (data_len_of ws)), BadLength len) ∷ []) fine in
    let full : len ≡ data_len_of ws = eqb-true len _ (not-false _ rows.0) in
    omega (arith, full)

-- what is known of the opening and of the words tells the same cause
pub same_list_fault : (kind its : Kind) (top high len n : ℕ) (ws bytes : List ℕ) (fault : Option Cause) → kind ≡ its → top ≡ high → ws ≡ words n bytes → fault ≡ fault_of_list kind top len ws → fault ≡ fault_of_list its high len (words n bytes)
same_list_fault kind its top high len n ws bytes fault same_kind same_high same_words is =
    is ∙ ap (fault_of_list kind top len) same_words ∙ ap (λ k. fault_of_list k top len (words n bytes)) same_kind ∙ ap (λ m. fault_of_list its m len (words n bytes)) same_high

-- what is known of the opening and of the word's type tells the same cause of its page
pub same_page_fault : (kind its : Kind) (top high place at word : ℕ) (type : PageType) (page : List ℕ) (fault : Option Cause) → kind ≡ its → top ≡ high → place ≡ at → type ≡ type_in_guest kind (type_in_word word) → fault ≡ fault_of_level top place (level_of type) page → fault ≡ fault_of_page its high (at, word) page
same_page_fault kind its top high place at word type page fault same_kind same_high same_place same_type is =
    is
    ∙ ap (λ t. fault_of_level top place (level_of t) page) same_type
    ∙ ap (λ k. fault_of_level top place (level_of (type_in_guest k (type_in_word word))) page) same_kind
    ∙ ap (λ m. fault_of_level m place (level_of (type_in_guest its (type_in_word word))) page) same_high
    ∙ ap (λ n. fault_of_level high n (level_of (type_in_guest its (type_in_word word))) page) same_place

-- words and pages without fault need no padding
pub whole_list : (kind : Kind) (top len n : ℕ) (bytes : List ℕ) → None ≡ fault_of_list kind top len (words n bytes) → padding_len len ≡ 0
whole_list kind top len n bytes fine = whole_length len (words n bytes) (both_none (fault_of_words kind top (words n bytes)) (fault_of_data len (words n bytes)) (sym fine)).1

-- ---- what was taken, or wasn't

-- bytes that no one reads
abbrev pub blank : ℕ → List ℕ
blank n = replicate n 0

-- so many of them
pub blank_len : (n : ℕ) → length (blank n) ≡ n
blank_len n = length-replicate n 0

-- no more bytes than so many were taken
pub few_bytes : (n m : ℕ) (old new : Option (List ℕ)) → n ≡ m → TakesFew n old new → TakesFew m old new
few_bytes n m old new same few = record { taken = few.taken; few = omega (arith, few.few, same); gone = few.gone }

-- a list that was taken whole is a buffer that was
pub buffered : {X : Type 0} (items : X → List ℕ) (x : X) (n : ℕ) (old new : Option (List ℕ)) → n ≡ length (items x) → AgreesWithJudging (λ y bytes. bytes ≡ items y) old new (part Truncated n) (Ok x) → AgreesWithJudging (Buffered (items x)) old new (part Truncated (length (items x))) (Ok tt)
buffered items x n None new size h = tt
buffered items x n (Some left) new size h = subst (λ m. AgreesWithJudging (Buffered (items x)) (Some left) new (part Truncated m) (Ok tt)) size h

-- a list that couldn't be taken is a buffer that couldn't
pub unbuffered : {X : Type 0} (items : X → List ℕ) (buf : List ℕ) (n : ℕ) (e : Stop Cause) (old new : Option (List ℕ)) → n ≡ length buf → AgreesWithJudging {X = X} (λ y bytes. bytes ≡ items y) old new (part Truncated n) (Err e) → AgreesWithJudging (Buffered buf) old new (part Truncated (length buf)) (Err e)
unbuffered items buf n e None new size h = tt
unbuffered items buf n e (Some left) new size h = subst (λ m. AgreesWithJudging (Buffered buf) (Some left) new (part Truncated m) (Err e)) size (any_stop (λ y bytes. bytes ≡ items y) (Buffered buf) (Some left) new (part Truncated n) e h)

-- ---- what is kept

-- around the image and of its records, all is kept as it was
pub record IsKept (r t : Relay) : Type 0 where
  pub wrapper : t.wrapper ≡ r.wrapper
  pub seen : t.seen ≡ r.seen
  pub top : t.top ≡ r.top

-- then the stream around the image has what it had
pub outer_stays : (r t : Relay) (outer : Outer) → IsKept r t → KeepsOuter r outer → KeepsOuter t outer
outer_stays r t outer kept k = outer_same r t outer kept.wrapper k

-- and so have the image's records
pub records_stay : (r t : Relay) (o : Opening) (records : List StreamRecord) (types : List ℕ) (high : ℕ) → IsKept r t → KeepsRecords r o records types high → KeepsRecords t o records types high
records_stay r t o records types high kept k = records_same r t o records types high kept.seen kept.top k

-- ---- how many pages are still to come

-- of a word with a page, and of one without
paged_more : (at word : ℕ) (coming : List (ℕ × ℕ)) → word_has_data word ≡ true → pages_to_come ((at, word) ∷ coming) ≡ 1 + pages_to_come coming
paged_more at word coming is = sum_by-cons (λ (at : ℕ × ℕ). cond (word_has_data at.1) 1 0) (at, word) coming ∙ ap (λ b. cond b 1 0 + pages_to_come coming) is

unpaged : (at word : ℕ) (coming : List (ℕ × ℕ)) → word_has_data word ≡ false → pages_to_come ((at, word) ∷ coming) ≡ pages_to_come coming
unpaged at word coming is =
    let none : cond (word_has_data word) 1 0 ≡ 0 = ap {B = ℕ} (λ b. cond b 1 0) is in
    omega (arith, sum_by-cons (λ (at : ℕ × ℕ). cond (word_has_data at.1) 1 0) (at, word) coming, none)

-- of all words
all_pages : (from : ℕ) (ws : List ℕ) → pages_to_come (with_places from ws) ≡ count_by word_has_data ws
all_pages from [] = refl
all_pages from (w ∷ ws) =
    sum_by-cons (λ (at : ℕ × ℕ). cond (word_has_data at.1) 1 0) (from, w) (with_places (from + 1) ws)
    ∙ ap (λ n. cond (word_has_data w) 1 0 + n) (all_pages (from + 1) ws)
    ∙ sym (sum_by-cons (λ (word : ℕ). cond (word_has_data word) 1 0) w ws)

-- the words from the next page on have pages: this one, and those of the others
next_pages : (r : Relay) (coming : List (ℕ × ℕ)) (stood : List FrameEntry) → KeepsWords r coming stood → pages_to_come coming ≡ 1 + pages_to_come (others r)
next_pages r coming stood kept = ap pages_to_come (kept.left ∙ ap (with_places r.page) (drop_more r.words.items r.page 0 kept.some)) ∙ paged_more r.page (next_word r) (others r) kept.paged

pub page_comes : (r : Relay) (coming : List (ℕ × ℕ)) (stood : List FrameEntry) → KeepsWords r coming stood → 0 < pages_to_come coming
page_comes r coming stood kept = omega (arith, next_pages r coming stood kept)

-- behind the page of a word, those of the others
pub page_left : (r held : Relay) (coming : List (ℕ × ℕ)) (stood : List FrameEntry) (size : ℕ) → KeepsWords r coming stood → held.words.items ≡ r.words.items → held.page ≡ r.page → size ≡ 4096 → size + 4096 * pages_to_come (with_places (held.page + 1) (drop (held.page + 1) held.words.items)) ≡ 4096 * pages_to_come coming
page_left r held coming stood size kept same_words same_page is =
    let first = next_pages r coming stood kept in
    let same : pages_to_come (others held) ≡ pages_to_come (others r) = ap (λ n. pages_to_come (with_places (n + 1) (drop (n + 1) held.words.items))) same_page ∙ ap (λ l. pages_to_come (with_places (r.page + 1) (drop (r.page + 1) l))) same_words in
    omega (arith, first, same, is)

-- so many words stand in as many bytes
pub words_number : (n : ℕ) (bytes : List ℕ) → length (words n bytes) ≡ n
words_number n bytes = length-map-range_with_len (λ k. le64 bytes (8 * k)) 0 n

module _ (kind : Kind) (top : ℕ) (head : RecordHead) (n : ℕ) (bytes : List ℕ) (fine : None ≡ fault_of_list kind top head.len (words n bytes)) where
  sized : fault_of_data head.len (words n bytes) ≡ None
  sized = (both_none (fault_of_words kind top (words n bytes)) (fault_of_data head.len (words n bytes)) (sym fine)).1

  full : head.len ≡ data_len_of (words n bytes)
  full = let rows = rows_fine ((not (nat_eq head.len (data_len_of (words n bytes))), BadLength head.len) ∷ []) sized in eqb-true head.len _ (not-false _ rows.0)

  -- the words of a PAGE_DATA, which are as many as its length asks for
  pub filled : FillsBody (WordsDue n) bytes head
  filled = omega (arith, full, words_number n bytes)

  -- and behind them their pages
  pub words_left : (ws : List ℕ) → ws ≡ words n bytes → length bytes ≡ 8 * n → length bytes + 4096 * pages_to_come (with_places 0 ws) ≡ bytes_behind_head head - 8
  words_left ws is size =
      omega (arith, full, whole_length head.len (words n bytes) sized, size, ap length is, words_number n bytes, all_pages 0 ws, ap (count_by word_has_data) is)

-- ---- behind a PAGE_DATA

module _ (o : Opening) (records : List StreamRecord) (head : RecordHead) where
  -- frames leave the greatest frame number as it is
  same_top : (entries : List FrameEntry) → (before o (with o records head (Frames entries))).top ≡ (before o records).top
  same_top entries = ap (λ (g : GuestOf). g.top) (one_more_record o.kind records (record_with records head (Frames entries))) ∙ by (is_verified (types_of records)) (sent o.kind records)
    where
      by : (verified : Bool) (g : GuestOf) → (put_content g (placed_content verified (Frames entries))).top ≡ g.top
      by true g = refl
      by false g = refl

  -- the record of these frames stands behind the others, and ends nothing
  pub behind_pages : (t : Relay) (entries : List FrameEntry) → IsPages head → KeepsHead t o records head (before o records).top → KeepsRecords t o (with o records head (Frames entries)) (types_of (with o records head (Frames entries))) (before o (with o records head (Frames entries))).top
  behind_pages t entries pages k = record {
    seen = subst (IsSeen t.seen o) (sym (map-append (λ (x : StreamRecord). x.type) records (record_with records head (Frames entries) ∷ []))) k.seen;
    top = k.top ∙ sym (same_top entries);
    going = ended_more records (record_with records head (Frames entries)) k.going ∙ ap (λ n. nat_eq n 0) pages.kind;
  }

  -- ---- words without a page

  module _ (ws : List ℕ) where
    -- the pages of the words from here on are those of the words from there on, behind other entries
    record Skips (from to : ℕ) (stood : List FrameEntry) : Type 0 where
      pub entries : List FrameEntry
      pub many : length entries + from ≡ length stood + to
      pub same : (i : List ℕ) → judged_next (AtPages o records head (with_places from (drop from ws)) stood) i ≡ judged_next (AtPages o records head (with_places to (drop to ws)) entries) i
      pub pages : pages_to_come (with_places from (drop from ws)) ≡ pages_to_come (with_places to (drop to ws))

    -- words without a page are passed over, one by one
    skips : (k from to : ℕ) (stood : List FrameEntry) → to ≡ from + k → to ≤ length ws → ((place : ℕ) → from ≤ place → place < to → word_has_data (slice_index ws place) ≡ false) → Skips from to stood
    skips zero from to stood is within none =
        let at : from ≡ to = omega (arith, is) in
        record { entries = stood; many = omega (arith, at); same = λ i. ap (λ n. judged_next (AtPages o records head (with_places n (drop n ws)) stood) i) at; pages = ap (λ n. pages_to_come (with_places n (drop n ws))) at }
    skips (suc k) from to stood is within none =
        let word = slice_index ws from in
        let more = skips k (from + 1) to (stood ++ entry_of_word word None ∷ []) (omega (arith, is)) within (λ place le lt. none place (omega (arith, le)) lt) in
        record {
          entries = more.entries;
          many = omega (arith, more.many, length-append stood (entry_of_word word None ∷ []));
          same = λ i.
              ap (λ l. judged_next (AtPages o records head (with_places from l) stood) i) (drop_more ws from 0 (omega (arith, is, within)))
              ∙ no_page o records head from word (with_places (from + 1) (drop (from + 1) ws)) stood (none from (omega arith) (omega (arith, is))) i
              ∙ more.same i;
          pages = ap (λ l. pages_to_come (with_places from l)) (drop_more ws from 0 (omega (arith, is, within))) ∙ unpaged from word (with_places (from + 1) (drop (from + 1) ws)) (none from (omega arith) (omega (arith, is))) ∙ more.pages;
        }

-- ---- the next page of the words, or the next record

-- what comes next behind the pages of these words up to one, and that it is judged as they are from there
pub record Turned (t : Relay) (outer : Outer) (o : Opening) (records : List StreamRecord) (head : RecordHead) (coming : List (ℕ × ℕ)) (stood : List FrameEntry) : Type 0 where
  pub next : Spot
  pub same : (more : List ℕ) → spot (InImage outer (AtPages o records head coming stood)) more ≡ spot next more
  pub keeps : Keeps t next []
  pub follows : (here : Spot) (piece : List ℕ) → in_hand here ≡ Some head → head_spot here ≡ InImage outer (AtHead o records) → due here ≢ CountDue → FillsBody (due here) piece head → length piece + 4096 * pages_to_come coming ≡ to_come here → ComesNext here [] piece next []

module _ (r t : Relay) (head : RecordHead) (within : t.page ≤ length r.words.items) (page : t.page < length r.words.items → t ≡ record r { page = t.page; coming = comes.Page head }) (over : t.page ≡ length r.words.items → t ≡ record r { page = t.page; coming = comes.Head }) where
  abbrev ws : List ℕ
  ws = r.words.items

  -- what doesn't turn on what comes next, and on the page, is as it was
  pub turning_keeps : {X : Type 0} (f : Relay → X) → ((next : ℕ) → f (record r { page = next; coming = comes.Page head }) ≡ f r) → ((next : ℕ) → f (record r { page = next; coming = comes.Head }) ≡ f r) → f t ≡ f r
  turning_keeps f at_page at_head = by (nat_lt t.page (length ws)) refl
    where
      by : (b : Bool) → nat_lt t.page (length ws) ≡ b → f t ≡ f r
      by true is = ap f (page (ltb-true _ _ is)) ∙ at_page t.page
      by false is = let whole : length ws ≤ t.page = ltb-false _ _ is in ap f (over (omega (arith, whole, within))) ∙ at_head t.page

  -- nothing around the page turns
  turning_stays : IsKept r t
  turning_stays = record { wrapper = turning_keeps (λ x. x.wrapper) (λ _. refl) (λ _. refl); seen = turning_keeps (λ x. x.seen) (λ _. refl) (λ _. refl); top = turning_keeps (λ x. x.top) (λ _. refl) (λ _. refl) }

  -- the next word with a page comes next, or the next record where there is none
  pub turned : (outer : Outer) (o : Opening) (records : List StreamRecord) (from : ℕ) (stood : List FrameEntry) → length stood ≡ from → from ≤ t.page → (t.page < length ws → word_has_data (slice_index ws t.page) ≡ true) → ((place : ℕ) → from ≤ place → place < t.page → word_has_data (slice_index ws place) ≡ false)
      → length ws ≤ 2 ^ 24 → KeepsOuter r outer → KeepsHead r o records head (before o records).top → IsPages head → padding_len head.len ≡ 0 → Turned t outer o records head (with_places from (drop from ws)) stood
  turned outer o records from stood behind ahead paged none few around kept pages padding = by (nat_lt t.page (length ws)) refl
    where
      skipped : Skips o records head ws from t.page stood
      skipped = skips o records head ws (t.page - from) from t.page stood (omega (arith, ahead)) within none

      same_words : t.words.items ≡ ws
      same_words = turning_keeps (λ x. x.words.items) (λ _. refl) (λ _. refl)

      kept_words : t.page < length ws → KeepsWords t (with_places t.page (drop t.page ws)) skipped.entries
      kept_words lt = record {
        left = ap (λ l. with_places t.page (drop t.page l)) (sym same_words);
        some = subst (λ l. t.page < length l) (sym same_words) lt;
        paged = subst (λ l. word_has_data (slice_index l t.page) ≡ true) (sym same_words) (paged lt);
        few = subst (λ l. length l ≤ 2 ^ 24) (sym same_words) few;
        behind = omega (arith, skipped.many, behind);
      }

      by : (b : Bool) → nat_lt t.page (length ws) ≡ b → Turned t outer o records head (with_places from (drop from ws)) stood
      by true is =
          let lt : t.page < length ws = ltb-true _ _ is in
          record {
            next = InImage outer (AtPages o records head (with_places t.page (drop t.page ws)) skipped.entries);
            same = λ more. ap (λ (j : Judged (Place × Cause) ImageOf). j >>= carry outer) (skipped.same more);
            keeps = (outer_stays r t outer turning_stays around, (ap (λ (x : Relay). x.coming) (page lt), records_stay r t o records _ _ turning_stays kept, pages, padding, kept_words lt, refl));
            follows = λ here piece hand at counted full left. more here (InImage outer (AtPages o records head (with_places t.page (drop t.page ws)) skipped.entries)) [] piece [] head hand refl (sym at) counted refl full (omega (arith, left, skipped.pages));
          }
      by false is =
          let whole : length ws ≤ t.page = ltb-false _ _ is in
          record {
            next = InImage outer (AtHead o (with o records head (Frames skipped.entries)));
            same = λ more.
                ap (λ (j : Judged (Place × Cause) ImageOf). j >>= carry outer)
                (skipped.same more
                ∙ ap (λ l. judged_next (AtPages o records head (with_places t.page l) skipped.entries) more) (drop_all t.page ws whole)
                ∙ pages_over o records head skipped.entries more
                ∙ no_padding o records head (Frames skipped.entries) more padding);
            keeps = (outer_stays r t outer turning_stays around, (ap (λ (x : Relay). x.coming) (over (omega (arith, whole, within))), behind_pages o records head t skipped.entries pages (records_stay r t o records _ _ turning_stays kept), refl));
            follows = λ here piece hand at counted full left.
                last_bytes here (InImage outer (AtHead o (with o records head (Frames skipped.entries)))) [] piece head hand counted full (omega (arith, left, skipped.pages, ap (λ l. pages_to_come (with_places t.page l)) (drop_all t.page ws whole)))
                (subst (λ s. ComesBehind s head.kind (InImage outer (AtHead o (with o records head (Frames skipped.entries))))) (sym at) (image_next outer o records (record_with records head (Frames skipped.entries)) head.kind (λ zero. omega (arith, zero, pages.kind))));
          }
