-- The head of a frame and its page: what they spell is read, and what is read they spell.
use Rattle.mig_image.proofs.Common.{◌≡◌, ℕ, ◌+◌, ◌*◌, ◌/◌, ◌%◌, ◌^◌, ◌<◌, ◌≤◌, Bool, true, false, cond, not, nat_eq, nat_le, List, [], ◌++◌, length, Option, Some, None, is_some, refl, sym, ap, subst, ◌∙◌, arith, ◌&&◌, and_from, eq-eqb, eqb-true, leb-false, lt-leb, not-false, or_from, or_parts, none-some, same_Some, true≢false, little_bytes, little_number-reads_back, Passes, ImageCause, Truncated, no_fault, rows_fine, GuestImageVersion, One, Two, PageType, number_of, type_of, type_or_none, type_has_data, HostFrame, host_word, is_left_out, is_all_zero, leaves_out, most_width_of, page_left_out, page_text, zero_flag, frame_said, has_zero_flag, head_pfn, head_type, head_type_number, Bytes, FormOf, Giving, judged_as, ◌>>>◌, first_named, is_passed, gives_gone, said_goes, said_passes, page_causes, reserved_bits, sent_page_form, machine_limit, long_below, Broken, Xalloc, Xtab}
use Rattle.mig_bytes.specs.Fields.{le64}
use Rattle.mig_pagetypes.proofs.Numbers.{number_small, type_back}
use Rattle.mig_image.specs.GuestImage.{frame_head_of}
use Rattle.mig_image.proofs.FieldBytes.{long_last, long_then}
use Rattle.mig_image.proofs.ZeroPages.{left_out_is_zeros, zeros_are_zero, zeros_whole}

-- ---- types with data have the numbers below 13

data_small : (t : PageType) → type_has_data t ≡ true → number_of t < 13
data_small Broken h = absurd (true≢false (sym h))
data_small Xalloc h = absurd (true≢false (sym h))
data_small Xtab h = absurd (true≢false (sym h))
data_small _ h = omega arith

no_data : (t : PageType) → type_has_data t ≡ false → 13 ≤ number_of t
no_data Broken h = omega arith
no_data Xalloc h = omega arith
no_data Xtab h = omega arith
no_data _ h = absurd (true≢false h)

-- ---- words

-- version 1
one_word : (n pfn : ℕ) → n < 16 → pfn < 2 ^ 28 → let w = n * 2 ^ 28 + (0 + pfn) in (w < 2 ^ 64) × (w % 2 ^ 28 ≡ pfn) × (w / 2 ^ 28 % 2 ^ 4 ≡ n) × (w / 2 ^ 32 ≡ 0)
one_word n pfn a b = ((omega arith), (omega arith), (omega arith), (omega arith))

one_back : (w : ℕ) → w / 2 ^ 32 ≡ 0 → (w / 2 ^ 28 % 2 ^ 4) * 2 ^ 28 + (0 + w % 2 ^ 28) ≡ w
one_back w none = omega arith

-- version 2, whose flag is so much
two_word : (n pfn f : ℕ) → n < 16 → pfn < 2 ^ 52 → f ≤ 1 → let w = n * 2 ^ 60 + (f * 2 ^ 52 + pfn) in (w < 2 ^ 64) × (w % 2 ^ 52 ≡ pfn) × (w / 2 ^ 60 % 2 ^ 4 ≡ n) × (w / 2 ^ 53 % 2 ^ 7 ≡ 0) × (w / 2 ^ 52 % 2 ≡ f)
two_word n pfn f a b c = ((omega arith), (omega arith), (omega arith), (omega arith), (omega arith))

two_back : (w : ℕ) → w < 2 ^ 64 → w / 2 ^ 53 % 2 ^ 7 ≡ 0 → (w / 2 ^ 60 % 2 ^ 4) * 2 ^ 60 + ((w / 2 ^ 52 % 2) * 2 ^ 52 + w % 2 ^ 52) ≡ w
two_back w small none = omega arith

flag_number : (b : Bool) → (f : ℕ) × (f ≤ 1) × (zero_flag b ≡ f * 2 ^ 52) × (nat_eq f 1 ≡ b)
flag_number true = (1, (omega arith), refl, refl)
flag_number false = (0, (omega arith), refl, refl)

flag_of : (f : ℕ) (b : Bool) → f < 2 → nat_eq f 1 ≡ b → zero_flag b ≡ f * 2 ^ 52
flag_of f true less is = let e = eqb-true f 1 is in ap (λ n. n * 2 ^ 52) (sym e)
flag_of f false less is = ap (λ n. n * 2 ^ 52) (sym zero)
  where
    zero : f ≡ 0
    zero = grind (arith, is)

-- version 1 leaves out no page
none_left_out : (page : Option (List ℕ)) → is_left_out One page ≡ false
none_left_out None = refl
none_left_out (Some p) = refl

-- ---- what a head says

pub head_len : (version : GuestImageVersion) (pfn : ℕ) (f : HostFrame) → length (frame_head_of version pfn f) ≡ 16
unfolding frame_head_of
head_len version pfn f = refl

pub record Says (version : GuestImageVersion) (head : List ℕ) (e : ℕ × HostFrame) : Type 0 where
  pub reserved : is_passed (reserved_bits version head) ≡ false
  pub pfn : head_pfn version head ≡ e.0
  pub kind : head_type version head ≡ e.1.type
  pub flag : has_zero_flag version head ≡ is_left_out version e.1.page
  pub machine : le64 head 8 ≡ e.1.machine

-- a page that is left out is there, so that the type has data
left_out_small : (version : GuestImageVersion) (f : HostFrame) → is_some f.page ≡ type_has_data f.type → is_left_out version f.page ≡ true → number_of f.type < 13
left_out_small version f step left_out = data_small f.type (sym step ∙ some f.page left_out)
  where
    some : (page : Option (List ℕ)) → is_left_out version page ≡ true → is_some page ≡ true
    some None is = absurd (true≢false (sym is))
    some (Some p) is = refl

not_large : (b : Bool) (n : ℕ) → (b ≡ true → n < 13) → (b && nat_le 13 n) ≡ false
not_large true n small = lt-leb 13 n (small refl)
not_large false n small = refl

words_read : (version : GuestImageVersion) (e : ℕ × HostFrame) (head : List ℕ) → e.0 < most_width_of version → is_some e.1.page ≡ type_has_data e.1.type → le64 head 0 ≡ host_word version e.0 e.1
    → (is_passed (reserved_bits version head) ≡ false) × (head_pfn version head ≡ e.0) × (head_type_number version head ≡ number_of e.1.type) × (has_zero_flag version head ≡ is_left_out version e.1.page)
words_read One e head below step word =
    let n = number_of e.1.type in
    let none = none_left_out e.1.page in
    let is : le64 head 0 ≡ n * 2 ^ 28 + (0 + e.0) = word ∙ ap (λ b. n * 2 ^ 28 + (zero_flag b + e.0)) none in
    let (small, pfn, type, high) = one_word n e.0 (number_small e.1.type) below in (
      ap (λ w. not (nat_eq (w / 2 ^ 32) 0)) is ∙ ap not (eq-eqb _ 0 high),
      ap (λ w. w % 2 ^ 28) is ∙ pfn,
      ap (λ w. w / 2 ^ 28 % 2 ^ 4) is ∙ type,
      sym none,
    )
words_read Two e head below step word =
    let n = number_of e.1.type in
    let b = is_left_out Two e.1.page in
    let (f, most, flag, one) = flag_number b in
    let is : le64 head 0 ≡ n * 2 ^ 60 + (f * 2 ^ 52 + e.0) = word ∙ ap (λ k. n * 2 ^ 60 + (k + e.0)) flag in
    let (small, pfn, type, none, bit) = two_word n e.0 f (number_small e.1.type) below most in
    let type_is : head_type_number Two head ≡ n = ap (λ w. w / 2 ^ 60 % 2 ^ 4) is ∙ type in
    let flag_is : has_zero_flag Two head ≡ b = ap (λ w. nat_eq (w / 2 ^ 52 % 2) 1) is ∙ ap (λ k. nat_eq k 1) bit ∙ one in (
      or_from (not (nat_eq (le64 head 0 / 2 ^ 53 % 2 ^ 7) 0)) (has_zero_flag Two head && nat_le 13 (head_type_number Two head))
          (ap (λ w. not (nat_eq (w / 2 ^ 53 % 2 ^ 7) 0)) is ∙ ap not (eq-eqb _ 0 none))
          (ap (λ c. c && nat_le 13 (head_type_number Two head)) flag_is ∙ ap (λ k. b && nat_le 13 k) type_is ∙ not_large b n (left_out_small Two e.1 step)),
      ap (λ w. w % 2 ^ 52) is ∙ pfn,
      type_is,
      flag_is,
    )

word_small : (version : GuestImageVersion) (e : ℕ × HostFrame) → e.0 < most_width_of version → host_word version e.0 e.1 < 2 ^ 64
word_small One e below =
    let n = number_of e.1.type in
    subst (λ b. n * 2 ^ 28 + (zero_flag b + e.0) < 2 ^ 64) (sym (none_left_out e.1.page)) (one_word n e.0 (number_small e.1.type) below).0
word_small Two e below =
    let n = number_of e.1.type in
    let (f, most, flag, one) = flag_number (is_left_out Two e.1.page) in
    subst (λ k. n * 2 ^ 60 + (k + e.0) < 2 ^ 64) (sym flag) (two_word n e.0 f (number_small e.1.type) below most).0

pub says : (version : GuestImageVersion) (e : ℕ × HostFrame) → e.0 < most_width_of version → is_some e.1.page ≡ type_has_data e.1.type → e.1.machine < machine_limit → Says version (frame_head_of version e.0 e.1) e
unfolding le64 frame_head_of
says version e below step small =
    let head = frame_head_of version e.0 e.1 in
    let word = little_number-reads_back 8 (host_word version e.0 e.1) (little_bytes 8 e.1.machine) (word_small version e below) in
    let (reserved, pfn, type, flag) = words_read version e head below step word in
    record {
      reserved = reserved;
      pfn = pfn;
      kind = ap (λ n. type_or_none (type_of n)) type ∙ ap type_or_none (type_back e.1.type);
      flag = flag;
      machine = little_number-reads_back 8 e.1.machine [] (omega arith);
    }

-- ---- a head without a fault spells what it says

-- the zero flag comes with data alone
pub flag_has_data : (version : GuestImageVersion) (head : List ℕ) → is_passed (reserved_bits version head) ≡ false → number_of (head_type version head) ≡ head_type_number version head → (type_has_data (head_type version head) && has_zero_flag version head) ≡ has_zero_flag version head
flag_has_data One head reserved number = by (type_has_data (head_type One head))
  where
    by : (d : Bool) → (d && false) ≡ false
    by true = refl
    by false = refl
flag_has_data Two head reserved number = by (type_has_data (head_type Two head)) (has_zero_flag Two head) refl refl
  where
    by : (d b : Bool) → type_has_data (head_type Two head) ≡ d → has_zero_flag Two head ≡ b → (d && b) ≡ b
    by true b has is = refl
    by false false has is = refl
    by false true has is =
        let p = or_parts (not (nat_eq (le64 head 0 / 2 ^ 53 % 2 ^ 7) 0)) (has_zero_flag Two head && nat_le 13 (head_type_number Two head)) reserved in
        let small = leb-false 13 (head_type_number Two head) (sym (ap (λ c. c && nat_le 13 (head_type_number Two head)) is) ∙ p.1) in
        let large = no_data (head_type Two head) has in
        absurd (omega (arith, number, small, large))

pub word_said : (version : GuestImageVersion) (head : List ℕ) (page : Option (List ℕ)) → Bytes head → is_passed (reserved_bits version head) ≡ false → number_of (head_type version head) ≡ head_type_number version head → is_left_out version page ≡ has_zero_flag version head
    → host_word version (head_pfn version head) (frame_said version head page) ≡ le64 head 0
word_said One head page all reserved number flag =
    let w = le64 head 0 in
    let none : w / 2 ^ 32 ≡ 0 = eqb-true (w / 2 ^ 32) 0 (not-false (nat_eq (w / 2 ^ 32) 0) reserved) in
    ap (λ n. n * 2 ^ 28 + (zero_flag (is_left_out One page) + w % 2 ^ 28)) number
    ∙ ap (λ b. (w / 2 ^ 28 % 2 ^ 4) * 2 ^ 28 + (zero_flag b + w % 2 ^ 28)) flag
    ∙ one_back w none
word_said Two head page all reserved number flag =
    let w = le64 head 0 in
    let p = or_parts (not (nat_eq (w / 2 ^ 53 % 2 ^ 7) 0)) (has_zero_flag Two head && nat_le 13 (head_type_number Two head)) reserved in
    let none : w / 2 ^ 53 % 2 ^ 7 ≡ 0 = eqb-true (w / 2 ^ 53 % 2 ^ 7) 0 (not-false (nat_eq (w / 2 ^ 53 % 2 ^ 7) 0) p.0) in
    let bit : w / 2 ^ 52 % 2 < 2 = omega arith in
    ap (λ n. n * 2 ^ 60 + (zero_flag (is_left_out Two page) + w % 2 ^ 52)) number
    ∙ ap (λ b. (w / 2 ^ 60 % 2 ^ 4) * 2 ^ 60 + (zero_flag b + w % 2 ^ 52)) flag
    ∙ ap (λ k. (w / 2 ^ 60 % 2 ^ 4) * 2 ^ 60 + (k + w % 2 ^ 52)) (flag_of (w / 2 ^ 52 % 2) (has_zero_flag Two head) bit refl)
    ∙ two_back w (long_below 0 head all) none

pub said_head : (version : GuestImageVersion) (head : List ℕ) (page : Option (List ℕ)) → Bytes head → length head ≡ 16 → is_passed (reserved_bits version head) ≡ false → number_of (head_type version head) ≡ head_type_number version head → is_left_out version page ≡ has_zero_flag version head
    → frame_head_of version (head_pfn version head) (frame_said version head page) ≡ head
unfolding frame_head_of
said_head version head page all size reserved number flag =
    long_then head all 0 (omega (arith, size)) (word_said version head page all reserved number flag) (long_last head all 8 size refl)

-- ---- the page

-- the page behind a head that says so; what isn't sent is known
abbrev pub page_if : GuestImageVersion → ℕ → Bool → Option (List ℕ) → FormOf ImageCause (Option (List ℕ))
page_if version pfn sent unsent = cond sent (sent_page_form version pfn >>> λ page. Giving (Some page)) (Giving unsent)

abbrev pub unsent_if : Bool → Option (List ℕ)
unsent_if has = cond has (Some page_left_out) None

module _ (version : GuestImageVersion) (pfn : ℕ) where
  some_goes : (p rest : List ℕ) → length p ≡ 4096 → (b : Bool) → is_left_out version (Some p) ≡ b → judged_as (page_if version pfn (not b) (Some page_left_out)) (cond b [] p ++ rest) ≡ Passes (Some p) rest
  unfolding judged_as ◌>>>◌
  some_goes p rest size true is = ap (λ l. Passes (Some l) rest) (sym (left_out_is_zeros version p is size))
  some_goes p rest size false is = said_goes Truncated (λ l. first_named (page_causes version pfn l)) (λ l. Some l) 4096 p rest size (no_fault (page_causes version pfn p) (is, tt))

  pub page_goes : (has flag : Bool) (page : Option (List ℕ)) (rest : List ℕ) → is_some page ≡ has → flag ≡ is_left_out version page → ((p : List ℕ) → page ≡ Some p → length p ≡ 4096)
      → judged_as (page_if version pfn (has && not flag) (unsent_if has)) (page_text version page ++ rest) ≡ Passes page rest
  unfolding judged_as
  page_goes has flag None rest step is whole = ap (λ d. judged_as (page_if version pfn (d && not flag) (unsent_if d)) rest) (sym step)
  page_goes has flag (Some p) rest step is whole =
      ap (λ d. judged_as (page_if version pfn (d && not flag) (unsent_if d)) (page_text version (Some p) ++ rest)) (sym step)
      ∙ ap (λ b. judged_as (page_if version pfn (not b) (Some page_left_out)) (page_text version (Some p) ++ rest)) is
      ∙ some_goes p rest (whole p refl) (is_left_out version (Some p)) refl

  -- a page that was found, where the type has data and the flag is set, or not
  pub record PageFound (has flag : Bool) (i : List ℕ) (page : Option (List ℕ)) (rest : List ℕ) : Type 0 where
    pub whole : i ≡ page_text version page ++ rest
    pub in_step : is_some page ≡ has
    pub left_out : is_left_out version page ≡ (has && flag)
    pub size : (p : List ℕ) → page ≡ Some p → length p ≡ 4096

  found_sent : (i p rest : List ℕ) → (i ≡ p ++ rest) × (length p ≡ 4096) × (first_named (page_causes version pfn p) ≡ None) → PageFound true false i (Some p) rest
  found_sent i p rest (whole, size, fine) =
      let (sent, done) = rows_fine (page_causes version pfn p) fine in
      record {
        whole = whole ∙ ap (λ b. cond b [] p ++ rest) (sym sent);
        in_step = refl;
        left_out = sent;
        size = λ q is. ap length (same_Some q p (sym is)) ∙ size;
      }

  found_zeros : (i : List ℕ) → leaves_out version ≡ true → PageFound true true i (Some page_left_out) i
  found_zeros i leaves =
      let out : is_left_out version (Some page_left_out) ≡ true = and_from (leaves_out version) (is_all_zero page_left_out) leaves zeros_are_zero in
      record {
        whole = ap (λ b. cond b [] page_left_out ++ i) (sym out);
        in_step = refl;
        left_out = out;
        size = λ q is. ap length (same_Some q page_left_out (sym is)) ∙ zeros_whole;
      }

  found_none : (flag : Bool) (i : List ℕ) → PageFound false flag i None i
  found_none flag i = record { whole = refl; in_step = refl; left_out = refl; size = λ q is. absurd (none-some q is) }

  pub page_back : (has flag : Bool) (i : List ℕ) (page : Option (List ℕ)) (rest : List ℕ) → (flag ≡ true → leaves_out version ≡ true) → judged_as (page_if version pfn (has && not flag) (unsent_if has)) i ≡ Passes page rest → PageFound has flag i page rest
  unfolding judged_as ◌>>>◌
  page_back true true i page rest leaves h =
      let e = gives_gone {C = ImageCause} (Some page_left_out) i page rest h in
      subst (λ o. PageFound true true i o rest) e.0 (subst (PageFound true true i (Some page_left_out)) e.1 (found_zeros i (leaves refl)))
  page_back true false i page rest leaves h =
      let s = said_passes Truncated (λ l. first_named (page_causes version pfn l)) (λ l. Some l) 4096 i page rest h in
      subst (λ o. PageFound true false i o rest) s.value (found_sent i s.bytes rest (s.whole, s.size, s.fine))
  page_back false flag i page rest leaves h =
      let e = gives_gone {C = ImageCause} None i page rest h in
      subst (λ o. PageFound false flag i o rest) e.0 (subst (PageFound false flag i None) e.1 (found_none flag i))
