-- The body of a PAGE_DATA record: what judging lets pass is spelled as the format says, and what is spelled so passes.
use Rattle.mig_restore_form.proofs.Common.{zero, suc, ◌≡◌, ℕ, ◌+◌, ◌*◌, ◌<◌, ◌↔◌, List, [], ◌∷◌, ◌++◌, length, Bool, true, false, cond, nat_eq, not, Option, Some, None, refl, sym, ap, subst, ◌∙◌, arith, append_assoc, length-append, Result, Ok, Err, eqb-true, eqb-false, eq-eqb, ne_eqb, le-ltb, not-false, common_steps, le32, le64, ◌>>=◌, part, tried, Judged, Passes, Faulty, part_whole, both_pass, same_passes, then_passes, tried_none, Truncated, Kind, word_pfn, word_has_data, words, FrameEntry, Content, type_in_word, entries_at, pages_at, IsPage, Pv, Hvm, PageType, type_in_guest, EachEntry, IsWithin, FrameOf, IsEntry, AreEntries, IsBatch, rows_fine, no_fault, type_of, type_has_data, Cause, Frames, Notab, get_or, count_by, option_or, both_none, BadLength, word_type, some_has_data, fault_of_count, fault_of_words, count_rows, data_len_of, fault_of_data, fault_of_list, words_at, entry_at, with_places, fault_of_level, fault_of_page, list_at, stopped, then_reads, level_of, type_or_none, entry, length-map-range_with_len, is_type_of}
use Rattle.mig_bytes.specs.Judged.{Matches, AgreesWithJudging, each}
use Rattle.mig_pvtables.proofs.Within.{table_within}
use Rattle.mig_bytes.specs.declared.stop.Stop.{Stop}
use Rattle.std.specs.Result.{IsErrAnd}
use Rattle.mig_records.proofs.WordFaults.{none_is_wrong, nothing_found}
use Rattle.mig_restore_form.proofs.Parts.{taken}
use Rattle.mig_bytes.specs.declared.stop.Stop.TheVariants.{Refused, ReadFault, Memory}
use Rattle.mig_pagetypes.specs.declared.page_type.PageType.TheVariants.{Broken, Xalloc}

-- the tests of a word and of its type agree
pub carries : (w : ℕ) → word_has_data w ≡ type_has_data (type_in_word w)
carries w = elim (type_of (word_type w)) as (λ o. some_has_data o ≡ type_has_data (type_or_none o)) [ None ↦ refl | Some t ↦ refl ]

-- ---- words with their places

pub places_len : (place : ℕ) (ws : List ℕ) → length (with_places place ws) ≡ length ws
places_len place [] = refl
places_len place (w ∷ ws) = ap suc (places_len (place + 1) ws)

pub place_at : (place : ℕ) (ws : List ℕ) (k : ℕ) → k < length ws → get_or (with_places place ws) k (0, 0) ≡ (place + k, get_or ws k 0)
place_at place [] k lt = absurd (omega (arith, lt))
place_at place (w ∷ ws) zero lt = ap (λ n. (n, w)) (let e : place ≡ place + 0 = omega arith in e)
place_at place (w ∷ ws) (suc k) lt = place_at (place + 1) ws k (omega (arith, lt)) ∙ ap (λ n. (n, get_or ws k 0)) (let e : place + 1 + k ≡ place + suc k = omega arith in e)

-- ---- the page of a word

-- a type of a guest of this kind stays
pub type_stays : (kind : Kind) (t : PageType) → is_type_of kind t ≡ true → type_in_guest kind t ≡ t
type_stays Pv t is = refl
type_stays Hvm Notab is = refl
type_stays Hvm Broken is = refl
type_stays Hvm Xalloc is = refl
type_stays Hvm _ is = absurd (cc)

-- types without data are no tables
no_level : (kind : Kind) (t : PageType) → type_has_data t ≡ false → level_of (type_in_guest kind t) ≡ None
no_level Pv Notab none = cc
no_level Pv _ none = cc
no_level Hvm Notab none = cc
no_level Hvm _ none = cc

-- a page has no fault exactly where, as a table of this level, it is within top
pub level_within : (top place : ℕ) (o : Option ℕ) (page : List ℕ) → (fault_of_level top place o page ≡ None) ↔ ((level : ℕ) → o ≡ Some level → (slot : ℕ) → slot < 512 → IsWithin top (entry level page slot))
level_within top place None page = (λ fine level is. cc, λ within. refl)
level_within top place (Some l) page =
    let table = table_within place top l page in (
      (λ fine level is slot lt. let same : l ≡ level = cc in subst (λ n. IsWithin top (entry n page slot)) same (table.0 fine slot lt)),
      (λ within. table.1 (within l refl)),
    )

same_page : (b : Bool) (bytes page : List ℕ) → cond b (Some bytes) None ≡ Some page → bytes ≡ page
same_page true bytes page is = cc
same_page false bytes page is = cc

-- the frame of a word, with these bytes
abbrev frame_said : Kind → ℕ → List ℕ → FrameOf
frame_said kind w bytes = record { type = type_in_guest kind (type_in_word w); page = cond (word_has_data w) (Some bytes) None }

-- the entries of a page without fault
page_within : (kind : Kind) (top place w : ℕ) (bytes : List ℕ) → fault_of_page kind top (place, w) bytes ≡ None → EachEntry (IsWithin top) (frame_said kind w bytes)
page_within kind top place w bytes fine level page lev has slot lt =
    subst (λ b. IsWithin top (entry level b slot)) (same_page (word_has_data w) bytes page has) ((level_within top place (level_of (type_in_guest kind (type_in_word w))) bytes).0 fine level lev slot lt)

within_page : (kind : Kind) (top place w : ℕ) (bytes : List ℕ) → EachEntry (IsWithin top) (frame_said kind w bytes) → fault_of_page kind top (place, w) bytes ≡ None
within_page kind top place w bytes within = by (word_has_data w) refl
  where
    by : (b : Bool) → word_has_data w ≡ b → fault_of_page kind top (place, w) bytes ≡ None
    by true some = (level_within top place (level_of (type_in_guest kind (type_in_word w))) bytes).1 (λ level lev. within level bytes lev (ap (λ b. cond b (Some bytes) None) some))
    by false none = ap (λ o. fault_of_level top place o bytes) (no_level kind (type_in_word w) (sym (carries w) ∙ none))

-- the entry of the word at this place, judged by the kind and the top of the guest before the loop
pub entry_here : {X : Type 0} (R : X → FrameEntry → Type 0) (a b : Option (List ℕ)) (r : Result X (Stop Cause)) (kind now : Kind) (top high place : ℕ) (list : List ℕ) → now ≡ kind → high ≡ top → place < length list
    → AgreesWithJudging R a b (entry_at now high (place, get_or list place 0)) r → AgreesWithJudging R a b (entry_at kind top (get_or (with_places 0 list) place (0, 0))) r
entry_here R a b r kind now top high place list k t lt read =
    let same : entry_at now high (place, get_or list place 0) ≡ entry_at kind top (get_or (with_places 0 list) place (0, 0)) =
    ap (λ x. entry_at x high (place, get_or list place 0)) k ∙ ap (λ n. entry_at kind n (place, get_or list place 0)) t
    ∙ ap (λ n. entry_at kind top (n, get_or list place 0)) (let e : place ≡ 0 + place = omega arith in e) ∙ ap (entry_at kind top) (sym (place_at 0 list place lt)) in
    subst (λ (f : List ℕ → Judged Cause FrameEntry). AgreesWithJudging R a b f r) same read

-- a place of the list is one of the words with their places
pub place_within : (place : ℕ) (list : List ℕ) → place < length list → place < length (with_places 0 list)
place_within place list lt = subst (λ n. place < n) (sym (places_len 0 list)) lt

-- behind the words of a batch
abbrev pub good_list : Kind → ℕ → ℕ → List ℕ × List ℕ → Judged Cause (List ℕ)
good_list kind top len ws = tried (fault_of_list kind top len ws.0) ws.1 >>= λ _. Passes ws.0 ws.1

words_stage : (kind : Kind) (top len n : ℕ) (i : List ℕ) → (words_at n i >>= good_list kind top len) ≡ (part Truncated (8 * n) i >>= λ p. tried (fault_of_list kind top len (words n p.0)) p.1 >>= λ _. Passes (words n p.0) p.1)
words_stage kind top len n i = by (part Truncated (8 * n) i)
  where
    by : (j : Judged Cause (List ℕ)) → ((j >>= λ b. Passes (words n b.0) b.1) >>= good_list kind top len) ≡ (j >>= λ p. tried (fault_of_list kind top len (words n p.0)) p.1 >>= λ _. Passes (words n p.0) p.1)
    by (Passes x mid) = refl
    by (Faulty c mid) = refl

-- a page, and behind it the other entries
abbrev pub page_size : ℕ → ℕ
page_size w = cond (word_has_data w) 4096 0

abbrev pub entry_of : ℕ → List ℕ → FrameEntry
entry_of w b = record { pfn = word_pfn w; type = type_in_word w; page = cond (word_has_data w) (Some b) None }

module _ (kind : Kind) (top : ℕ) where
  abbrev pub entries_in_place : ℕ → List ℕ → List ℕ → Judged Cause (List FrameEntry)
  entries_in_place place ws i = each (entry_at kind top) (with_places place ws) i

  abbrev pub other_entries : ℕ → ℕ → List ℕ → List ℕ → List ℕ → Judged Cause (List FrameEntry)
  other_entries place w ws b r = entries_in_place (place + 1) ws r >>= λ others. Passes (entry_of w b ∷ others.0) others.1

  page_by : (b : Bool) (f : List ℕ → Option Cause) (i : List ℕ) → (b ≡ false → f [] ≡ None)
      → cond b (part Truncated 4096 i >>= λ p. tried (f p.0) p.1 >>= λ _. Passes (Some p.0) p.1) (Passes None i) ≡ (part Truncated (cond b 4096 0) i >>= λ p. tried (f p.0) p.1 >>= λ _. Passes (cond b (Some p.0) None) p.1)
  page_by true f i none = refl
  page_by false f i none = sym (ap (λ j. j >>= λ p. tried (f p.0) p.1 >>= λ _. Passes None p.1) (part_whole Truncated 0 [] i refl) ∙ ap (λ o. tried o i >>= λ _. Passes None i) (none refl))

  each_by : (place w : ℕ) (ws : List ℕ) (f : List ℕ → Option Cause) (j : Judged Cause (List ℕ))
      → (((j >>= λ p. tried (f p.0) p.1 >>= λ _. Passes (cond (word_has_data w) (Some p.0) None) p.1) >>= λ page. Passes (record { pfn = word_pfn w; type = type_in_word w; page = page.0 }) page.1) >>= λ first. entries_in_place (place + 1) ws first.1 >>= λ others. Passes (first.0 ∷ others.0) others.1)
      ≡ (j >>= λ p. tried (f p.0) p.1 >>= λ _. other_entries place w ws p.0 p.1)
  each_by place w ws f (Faulty c mid) = refl
  each_by place w ws f (Passes x mid) = by (f x)
    where
      by : (o : Option Cause)
          → (((tried o mid >>= λ _. Passes (cond (word_has_data w) (Some x) None) mid) >>= λ page. Passes (record { pfn = word_pfn w; type = type_in_word w; page = page.0 }) page.1) >>= λ first. entries_in_place (place + 1) ws first.1 >>= λ others. Passes (first.0 ∷ others.0) others.1)
          ≡ (tried o mid >>= λ _. other_entries place w ws x mid)
      by None = refl
      by (Some c) = refl

  pub each_stage : (place w : ℕ) (ws i : List ℕ) → entries_in_place place (w ∷ ws) i ≡ (part Truncated (page_size w) i >>= λ p. tried (fault_of_page kind top (place, w) p.0) p.1 >>= λ _. other_entries place w ws p.0 p.1)
  unfolding each
  each_stage place w ws i =
      ap (λ j. (j >>= λ page. Passes (record { pfn = word_pfn w; type = type_in_word w; page = page.0 }) page.1) >>= λ first. entries_in_place (place + 1) ws first.1 >>= λ others. Passes (first.0 ∷ others.0) others.1)
      (page_by (word_has_data w) (fault_of_page kind top (place, w)) i (λ none. ap (λ o. fault_of_level top place o []) (no_level kind (type_in_word w) (sym (carries w) ∙ none))))
      ∙ each_by place w ws (fault_of_page kind top (place, w)) (part Truncated (page_size w) i)

-- ---- the words, and the entries behind them

abbrev pub front_list : Kind → ℕ → ℕ → List ℕ × List ℕ → Judged Cause (List ℕ)
front_list kind top len front = tried (fault_of_count len (le32 front.0 0)) front.1 >>= λ _. words_at (le32 front.0 0) front.1 >>= good_list kind top len

abbrev pub as_content : List FrameEntry × List ℕ → Judged Cause Content
as_content es = Passes (Frames es.0) es.1

abbrev pub behind_list : Kind → ℕ → List ℕ × List ℕ → Judged Cause Content
behind_list kind top ws = entries_in_place kind top 0 ws.0 ws.1 >>= as_content

-- the words come first
pub list_stage : (kind : Kind) (top len : ℕ) (i : List ℕ) → pages_at kind top len i ≡ (list_at kind top len i >>= behind_list kind top)
list_stage kind top len i = by (list_at kind top len i)
  where
    by : (j : Judged Cause (List ℕ)) → ((j >>= λ ws. entries_in_place kind top 0 ws.0 ws.1) >>= as_content) ≡ (j >>= behind_list kind top)
    by (Passes ws rest) = refl
    by (Faulty c rest) = refl

module _ {X V : Type 0} (items : V → List ℕ) (Q : X → List FrameEntry → Type 0) (P : X → Content → Type 0) (turn : (x : X) (es : List FrameEntry) → Q x es → P x (Frames es)) where
  as_frames : (e : Option (List ℕ)) (j : Judged Cause (List FrameEntry)) (r : Result X (Stop Cause)) → Matches Q e j r → Matches P e (j >>= as_content) r
  as_frames e j (Ok u) (es, rest, is, left, now) = (Frames es, rest, ap (λ k. k >>= as_content) is, left, turn u es now)
  as_frames e j (Err (Refused c)) (rest, is, left) = (rest, ap (λ k. k >>= as_content) is, left)
  as_frames e j (Err ReadFault) h = tt
  as_frames e j (Err Memory) h = tt

  frames_given : (d e : Option (List ℕ)) (f : List ℕ → Judged Cause (List FrameEntry)) (r : Result X (Stop Cause)) → AgreesWithJudging Q d e f r → AgreesWithJudging P d e (λ i. f i >>= as_content) r
  frames_given None e f r h = tt
  frames_given (Some i) e f r h = as_frames e (f i) r h

  module _ (kind k : Kind) (top t len : ℕ) (same_kind : k ≡ kind) (same_top : t ≡ top) where
    here : (a d : Option (List ℕ)) (r : Result V (Stop Cause)) → AgreesWithJudging (λ v ws. ws ≡ items v) a d (list_at k t len) r → AgreesWithJudging (λ v ws. ws ≡ items v) a d (list_at kind top len) r
    here a d r read = subst (λ x. AgreesWithJudging (λ v ws. ws ≡ items v) a d (list_at x top len) r) same_kind (subst (λ n. AgreesWithJudging (λ v ws. ws ≡ items v) a d (list_at k n len) r) same_top read)

    -- the words were taken, and then the pages
    pub pages_read : (a d e : Option (List ℕ)) (list : V) (r : Result X (Stop Cause)) → AgreesWithJudging (λ v ws. ws ≡ items v) a d (list_at k t len) (Ok list) → AgreesWithJudging Q d e (entries_in_place kind top 0 (items list)) r → AgreesWithJudging P a e (pages_at kind top len) r
    pages_read a d e list r read told =
        then_reads (λ v ws. ws ≡ items v) P a d e (list_at kind top len) (pages_at kind top len) (behind_list kind top) list r (list_stage kind top len) (here a d (Ok list) read)
        (λ ws same. subst (λ l. AgreesWithJudging P d e (λ i. entries_in_place kind top 0 l i >>= as_content) r) (sym same) (frames_given d e (entries_in_place kind top 0 (items list)) r told))

    -- the reader of the words stopped
    pub pages_stopped : (a d : Option (List ℕ)) (e : Stop Cause) (r : Result X (Stop Cause)) → IsErrAnd r (λ s. s ≡ e) → AgreesWithJudging {X = V} (λ v ws. ws ≡ items v) a d (list_at k t len) (Err e) → AgreesWithJudging P a d (pages_at kind top len) r
    pages_stopped a d e r is read = stopped (λ v ws. ws ≡ items v) P a d (list_at kind top len) (pages_at kind top len) (behind_list kind top) e r (list_stage kind top len) is (here a d (Err e) read)

-- the words were taken, and there is a fault in them
module _ {V : Type 0} (items : V → List ℕ) where
  pub list_refused : (a b d : Option (List ℕ)) (kind : Kind) (top len n m : ℕ) (buf : List ℕ) (list : V) (c : Cause) → m ≡ 8
      → AgreesWithJudging {X = Unit {0}} (λ _ bytes. bytes ≡ buf) a b (part Truncated m) (Ok tt) → n ≡ le32 buf 0 → fault_of_count len n ≡ None
      → AgreesWithJudging (λ v ws. ws ≡ items v) b d (words_at n) (Ok list) → fault_of_list kind top len (items list) ≡ Some c → AgreesWithJudging {X = V} (λ v ws. ws ≡ items v) a d (list_at kind top len) (Err (Refused c))
  list_refused None b d kind top len n m buf list c size front at counted read bad = tt
  list_refused (Some i) b d kind top len n m buf list c size (bytes, rest, is, left, same) at counted read bad =
      let number : le32 bytes 0 ≡ n = ap (λ l. le32 l 0) same ∙ sym at in
      let (ws, after, is_words, left_words, words_same) = subst (λ o. AgreesWithJudging (λ v l. l ≡ items v) o d (words_at n) (Ok list)) left read in
      let judged : list_at kind top len i ≡ Faulty c after =
      ap (λ j. j >>= front_list kind top len) (ap (λ q. part Truncated q i) (sym size) ∙ is)
      ∙ ap (λ q. tried (fault_of_count len q) rest >>= λ _. words_at q rest >>= good_list kind top len) number
      ∙ ap (λ f. tried f rest >>= λ _. words_at n rest >>= good_list kind top len) counted
      ∙ ap (λ j. j >>= good_list kind top len) is_words
      ∙ ap (λ l. good_list kind top len (l, after)) words_same
      ∙ ap (λ f. tried f after >>= λ _. Passes (items list) after) bad in
      (after, judged, left_words)

-- ---- what the words say of its length

counted : (w : ℕ) (ws : List ℕ) → count_by word_has_data (w ∷ ws) ≡ cond (word_has_data w) 1 0 + count_by word_has_data ws
counted w ws = grind (arith, common_steps)

-- ---- judging passes

-- the pages of these words
pub record Pages (kind : Kind) (top : ℕ) (ws i : List ℕ) (es : List FrameEntry) (rest : List ℕ) : Type 0 where
  pub bytes : List ℕ
  pub whole : i ≡ bytes ++ rest
  pub size : length bytes ≡ 4096 * count_by word_has_data ws
  pub entries : AreEntries kind top ws bytes es

pub is_page : (b : Bool) (bytes : List ℕ) → length bytes ≡ cond b 4096 0 → IsPage b bytes (cond b (Some bytes) None)
is_page true bytes size = (size, refl)
is_page false [] size = (refl, refl)
is_page false (x ∷ xs) size = absurd (omega (arith, size))

page_len : (b : Bool) (bytes : List ℕ) (page : Option (List ℕ)) → IsPage b bytes page → length bytes ≡ 4096 * cond b 1 0
page_len b bytes page h = grind (arith, common_steps, h)

pub each_entries : (kind : Kind) (top place : ℕ) (ws i : List ℕ) (es : List FrameEntry) (rest : List ℕ) → entries_in_place kind top place ws i ≡ Passes es rest → Pages kind top ws i es rest
unfolding each
each_entries kind top place [] i es rest h = let e = same_passes _ _ _ _ h in record { bytes = []; whole = e.1; size = refl; entries = (refl, sym e.0) }
each_entries kind top place (w ∷ ws) i es rest h =
    let p = taken (page_size w) (fault_of_page kind top (place, w)) (other_entries kind top place w ws) i es rest (sym (each_stage kind top place w ws i) ∙ h) in
    let c = both_pass (entries_in_place kind top (place + 1) ws p.mid) _ es rest p.after in
    let q = each_entries kind top (place + 1) ws p.mid c.x c.mid c.first in
    let f = same_passes _ _ _ _ c.second in
    let page = is_page (word_has_data w) p.bytes p.size in
    record {
      bytes = p.bytes ++ q.bytes;
      whole = p.whole ∙ ap (λ l. p.bytes ++ l) (q.whole ∙ ap (λ l. q.bytes ++ l) f.1) ∙ sym (append_assoc p.bytes q.bytes rest);
      size = omega (arith, length-append p.bytes q.bytes, page_len (word_has_data w) p.bytes (entry_of w p.bytes).page page, q.size, counted w ws);
      entries = (p.bytes, q.bytes, entry_of w p.bytes, c.x, refl, sym f.0, record { pfn = refl; type = refl; page = page; within = page_within kind top place w p.bytes p.fine }, q.entries);
    }

regroup_pages : (i f m w d t rest : List ℕ) → i ≡ f ++ m → m ≡ w ++ d → d ≡ t ++ rest → i ≡ (f ++ (w ++ t)) ++ rest
regroup_pages i f m w d t rest e1 e2 e3 = e1 ∙ ap (λ l. f ++ l) (e2 ∙ ap (λ l. w ++ l) e3 ∙ sym (append_assoc w t rest)) ∙ sym (append_assoc f (w ++ t) rest)

body_len : (n k : ℕ) (f w t : List ℕ) → length f ≡ 8 → length w ≡ 8 * n → length t ≡ 4096 * k → length (f ++ (w ++ t)) ≡ 8 + 8 * n + 4096 * k
body_len n k f w t e1 e2 e3 = omega (arith, length-append f (w ++ t), length-append w t)

-- a batch, and what follows it
pub record Batch (kind : Kind) (top len : ℕ) (i : List ℕ) (es : List FrameEntry) (rest : List ℕ) : Type 0 where
  pub body : List ℕ
  pub whole : i ≡ body ++ rest
  pub size : length body ≡ len
  pub batch : IsBatch kind top body es

pub batch_passes : (kind : Kind) (top len : ℕ) (i : List ℕ) (es : List FrameEntry) (rest : List ℕ) → entries_at kind top len i ≡ Passes es rest → Batch kind top len i es rest
batch_passes kind top len i es rest h =
    let l = both_pass (list_at kind top len i) _ es rest h in
    let a = taken 8 (λ b. fault_of_count len (le32 b 0)) (λ b m. words_at (le32 b 0) m >>= good_list kind top len) i l.x l.mid l.first in
    let front = a.bytes in
    let n = le32 front 0 in
    let fc = rows_fine (count_rows len n) a.fine in
    let w = taken (8 * n) (λ b. fault_of_list kind top len (words n b)) (λ b m. Passes (words n b) m) a.mid l.x l.mid (sym (words_stage kind top len n a.mid) ∙ a.after) in
    let ws = words n w.bytes in
    let same = same_passes _ _ _ _ w.after in
    let fine = both_none (fault_of_words kind top ws) (fault_of_data len ws) w.fine in
    let fd = rows_fine ((not (nat_eq len (data_len_of ws)), BadLength len) ∷ []) fine.1 in
    let t = each_entries kind top 0 ws w.mid es rest (ap (λ v. entries_in_place kind top 0 v w.mid) same.0 ∙ ap (entries_in_place kind top 0 l.x) same.1 ∙ l.second) in
    let count : length ws ≡ n = length-map-range_with_len (λ k. le64 w.bytes (8 * k)) 0 n in
    let full : len ≡ 8 + 8 * n + 4096 * count_by word_has_data ws = eqb-true len _ (not-false _ fd.0) ∙ ap (λ m. 8 + 8 * m + 4096 * count_by word_has_data ws) count in
    record {
      body = front ++ (w.bytes ++ t.bytes);
      whole = regroup_pages i front a.mid w.bytes w.mid t.bytes rest a.whole w.whole t.whole;
      size = body_len n (count_by word_has_data ws) front w.bytes t.bytes a.size w.size t.size ∙ sym full;
      batch = record {
        front = front;
        words_bytes = w.bytes;
        pages_bytes = t.bytes;
        whole = refl {a = front ++ (w.bytes ++ t.bytes)};
        front_len = a.size;
        some = let other = eqb-false n 0 fc.1.0 in grind (arith, other);
        words_len = w.size;
        good = none_is_wrong kind top ws fine.0;
        entries = t.entries;
      };
    }

-- ---- what is spelled passes

pub of_page : (b : Bool) (bytes : List ℕ) (page : Option (List ℕ)) → IsPage b bytes page → (length bytes ≡ cond b 4096 0) × (cond b (Some bytes) None ≡ page)
of_page b bytes page h = (grind (arith, common_steps, h), grind (arith, common_steps, h))

module _ (kind : Kind) (top : ℕ) where
  same_entry : (w : ℕ) (bytes : List ℕ) (e : FrameEntry) → IsEntry kind top w bytes e → entry_of w bytes ≡ e
  same_entry w bytes e is =
      ap (λ p. record { pfn = word_pfn w; type = type_in_word w; page = p }) (of_page (word_has_data w) bytes e.page is.page).1
      ∙ ap (λ n. record { pfn = n; type = type_in_word w; page = e.page }) (sym is.pfn) ∙ ap (λ k. record { pfn = e.pfn; type = k; page = e.page }) (sym is.type)

  entry_fine : (place w : ℕ) (bytes : List ℕ) (e : FrameEntry) → IsEntry kind top w bytes e → fault_of_page kind top (place, w) bytes ≡ None
  entry_fine place w bytes e is =
      within_page kind top place w bytes (subst (λ (x : FrameEntry). EachEntry (IsWithin top) (record { type = type_in_guest kind x.type; page = x.page })) (sym (same_entry w bytes e is)) is.within)

  pub entries_go : (place : ℕ) (ws bytes rest : List ℕ) (es : List FrameEntry) → AreEntries kind top ws bytes es → entries_in_place kind top place ws (bytes ++ rest) ≡ Passes es rest
  unfolding each
  entries_go place [] bytes rest es (a, b) = rw (a, b) refl
  entries_go place (w ∷ ws) bytes rest es (page, more, e, others, whole, is, one, entries) =
      ap (entries_in_place kind top place (w ∷ ws)) (ap (λ l. l ++ rest) whole ∙ append_assoc page more rest)
      ∙ each_stage kind top place w ws (page ++ (more ++ rest))
      ∙ then_passes (part Truncated (page_size w) (page ++ (more ++ rest))) _ page (more ++ rest) _ (part_whole Truncated (page_size w) page (more ++ rest) (of_page (word_has_data w) page e.page one.page).0)
      (tried_none (fault_of_page kind top (place, w) page) (more ++ rest) _ (entry_fine place w page e one)
      ∙ then_passes (entries_in_place kind top (place + 1) ws (more ++ rest)) _ others rest _ (entries_go (place + 1) ws more rest others entries) (ap (λ l. Passes l rest) (ap (λ x. x ∷ others) (same_entry w page e one) ∙ sym is)))

  entries_len : (ws bytes : List ℕ) (es : List FrameEntry) → AreEntries kind top ws bytes es → length bytes ≡ 4096 * count_by word_has_data ws
  entries_len [] bytes es (a, b) = ap length a
  entries_len (w ∷ ws) bytes es (page, more, e, others, whole, is, one, entries) =
      let p = page_len (word_has_data w) page e.page one.page in
      let q = entries_len ws more others entries in
      omega (arith, ap length whole, length-append page more, p, q, counted w ws)

pub batch_goes : (kind : Kind) (top len : ℕ) (body rest : List ℕ) (es : List FrameEntry) → IsBatch kind top body es → length body ≡ len → entries_at kind top len (body ++ rest) ≡ Passes es rest
batch_goes kind top len body rest es b size =
    let n = le32 b.front 0 in
    let ws = words n b.words_bytes in
    let tail = b.pages_bytes ++ rest in
    let mid = b.words_bytes ++ tail in
    let input : body ++ rest ≡ b.front ++ mid = ap (λ l. l ++ rest) b.whole ∙ append_assoc b.front _ rest ∙ ap (λ l. b.front ++ l) (append_assoc b.words_bytes b.pages_bytes rest) in
    let full : len ≡ 8 + 8 * n + 4096 * count_by word_has_data ws = sym size ∙ ap length b.whole ∙ body_len n (count_by word_has_data ws) b.front b.words_bytes b.pages_bytes b.front_len b.words_len (entries_len kind top ws b.pages_bytes es b.entries) in
    let count : length ws ≡ n = length-map-range_with_len (λ k. le64 b.words_bytes (8 * k)) 0 n in
    let counts : fault_of_count len n ≡ None = no_fault (count_rows len n) (le-ltb len (8 + 8 * n) (omega (arith, full)), (ne_eqb n 0 (λ e. omega (arith, b.some, e)), tt)) in
    let sizes : fault_of_data len ws ≡ None = no_fault ((not (nat_eq len (data_len_of ws)), BadLength len) ∷ [])
    (ap not (eq-eqb len _ (full ∙ ap (λ m. 8 + 8 * m + 4096 * count_by word_has_data ws) (sym count))), tt) in
    let goods : fault_of_list kind top len ws ≡ None = ap (λ f. option_or f (fault_of_data len ws)) (nothing_found kind top ws b.good) ∙ sizes in
    ap (entries_at kind top len) input
    ∙ then_passes (list_at kind top len (b.front ++ mid)) _ ws tail _
    (then_passes (part Truncated 8 (b.front ++ mid)) _ b.front mid _ (part_whole Truncated 8 b.front mid b.front_len)
    (tried_none (fault_of_count len n) mid _ counts
    ∙ then_passes (words_at n mid) _ ws tail _ (then_passes (part Truncated (8 * n) mid) _ b.words_bytes tail _ (part_whole Truncated (8 * n) b.words_bytes tail b.words_len) refl)
    (tried_none (fault_of_list kind top len ws) tail _ goods)))
    (entries_go kind top 0 ws b.pages_bytes rest es b.entries)
