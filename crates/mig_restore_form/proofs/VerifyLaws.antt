-- What a VERIFY parts: the entries before it are sent, those behind it are compared and counted.
use Rattle.mig_restore_form.proofs.Common.{◌≡◌, ◌≢◌, ◌↔◌, ℕ, ◌^◌, ◌≤◌, List, [], ◌∷◌, ◌++◌, Bool, true, false, cond, nat_eq, ◌||◌, Option, Some, None, is_some, refl, sym, ap, subst, ◌∙◌, arith, eqb-true, eqb-false, eq-eqb, ne_eqb, same_Some, numbers_are_inverse, All, Kind, type_of_number, IsInOrder, ordered, FrameOf, PageType, FrameEntry, StreamRecord, Content, Nothing, Frames, Sets, Lists, Checks, types_of, is_verified, placed_content, Opening, put_entries, entries_in, entries_of, frame_in, checked_in, checked_of, differing, agrees, HasContent, Follows, IsImage, Spells, or_parts, append-nil, All-nil, All-cons, All-head, All-tail, PageData, Verify, type_of, FrameMap, no_part, one_more, code_of_type, sent, IsBatch, ends, pages, sets, info, p2m_frames, static_end, verify, and_parts, number_of}
use Rattle.mig_order.specs.Order.{optional}
use Rattle.std.proofs.lemmas.Slice.Eq.{bytes_eq-Decides}
use Rattle.mig_pagetypes.proofs.Numbers.{type_back}
use Rattle.mig_records.specs.Records.{IsRecord}
use Rattle.mig_restore_form.specs.Mean.{differs_of, is_same_page, is_same_frame}
use Rattle.mig_restore_form.specs.Spelled.HasContent.{optional as has_optional}
use Rattle.mig_restore_form.proofs.Compared.{placed_so, some_differs, verified_join, checked_join, entries_join}
use Rattle.mig_restore_form.proofs.Meaning.{sent_frames}
use Rattle.std.specs.FinMap as fin

-- ---- an entry agrees with frames

same_page_is : (p q : Option (List ℕ)) → (is_same_page p q ≡ true) ↔ (p ≡ q)
same_page_is None None = (λ _. refl, λ _. refl)
same_page_is None (Some y) = (λ is. absurd (cc), λ is. absurd (cc))
same_page_is (Some x) None = (λ is. absurd (cc), λ is. absurd (cc))
same_page_is (Some x) (Some y) = let d = bytes_eq-Decides x y in (λ is. ap Some (d.0 is), λ is. d.1 (same_Some x y is))

same_type : (t u : PageType) → number_of t ≡ number_of u → t ≡ u
same_type t u is = same_Some t u (sym (type_back t) ∙ ap type_of is ∙ type_back u)

same_frame_is : (f g : Option FrameOf) → (is_same_frame f g ≡ true) ↔ (f ≡ g)
same_frame_is None None = (λ _. refl, λ _. refl)
same_frame_is None (Some y) = (λ is. absurd (cc), λ is. absurd (cc))
same_frame_is (Some x) None = (λ is. absurd (cc), λ is. absurd (cc))
same_frame_is (Some x) (Some y) = (to, back)
  where
    to : is_same_frame (Some x) (Some y) ≡ true → Some x ≡ Some y
    to is =
        let both = and_parts (nat_eq (number_of x.type) (number_of y.type)) (is_same_page x.page y.page) is in
        let types = same_type x.type y.type (eqb-true (number_of x.type) (number_of y.type) both.0) in
        ap (λ (t : PageType). Some (record { type = t; page = x.page })) types ∙ ap (λ p. Some (record { type = y.type; page = p })) ((same_page_is x.page y.page).0 both.1)

    back : Some x ≡ Some y → is_same_frame (Some x) (Some y) ≡ true
    back is =
        let same : x ≡ y = same_Some x y is in
        subst (λ (z : FrameOf). is_same_frame (Some x) (Some z) ≡ true) same (rw (eq-eqb (number_of x.type) (number_of x.type) refl) ((same_page_is x.page x.page).1 refl))

pub entry_agrees : (kind : Kind) (frames : FrameMap) (e : FrameEntry) → (agrees kind frames e ≡ true) ↔ (fin.get frames e.pfn ≡ frame_in kind e)
entry_agrees kind frames e = same_frame_is (fin.get frames e.pfn) (frame_in kind e)

-- ---- whether a VERIFY is among records

none_is : (rs : List StreamRecord) → is_verified (types_of rs) ≡ false → All (λ r. r.type ≢ 0xD) rs
none_is [] none = All-nil (λ (r : StreamRecord). r.type ≢ 0xD)
none_is (r ∷ rs) none =
    let both = or_parts (nat_eq r.type 0xD || false) (is_verified (types_of rs)) none in
    All-cons (λ (x : StreamRecord). x.type ≢ 0xD) r rs (eqb-false r.type 0xD (or_parts (nat_eq r.type 0xD) false both.0).0) (none_is rs both.1)

all_others : (rs : List StreamRecord) → All (λ r. r.type ≢ 0xD) rs → is_verified (types_of rs) ≡ false
all_others [] all = refl
all_others (r ∷ rs) all =
    let other : nat_eq r.type 0xD ≡ false = ne_eqb r.type 0xD (All-head (λ (x : StreamRecord). x.type ≢ 0xD) r rs all) in
    rw other (all_others rs (All-tail (λ (x : StreamRecord). x.type ≢ 0xD) r rs all))

pub no_number : (kind : Kind) (records : List StreamRecord) → (differs_of kind records ≡ None) ↔ All (λ r. r.type ≢ 0xD) records
no_number kind records = (
  λ is. none_is records (sym (some_differs kind records) ∙ ap is_some is),
  λ all. no_some (differs_of kind records) (some_differs kind records ∙ all_others records all),
)
  where
    no_some : (o : Option ℕ) → is_some o ≡ false → o ≡ None
    no_some None is = refl
    no_some (Some n) is = absurd (cc)

-- ---- what records say where they stand

-- behind a VERIFY nothing is sent and no other stands, before it nothing is compared, and it says nothing itself
record IsInPlace (verified : Bool) (r : StreamRecord) : Type 0 where
  sends : verified ≡ true → entries_in r.content ≡ []
  checks : verified ≡ false → checked_in r.content ≡ []
  once : r.type ≡ 0xD → verified ≡ false
  silent : r.type ≡ 0xD → (entries_in r.content ≡ []) × (checked_in r.content ≡ [])

said_by : (kind : Kind) (top type : ℕ) (body : List ℕ) (c : Content) → HasContent kind top type body c → (checked_in c ≡ []) × (type ≢ 1 → entries_in c ≡ [])
said_by kind top _ _ _ (has_optional type body above) = (refl, λ _. refl)
said_by kind top _ _ _ ends = (refl, λ _. refl)
said_by kind top _ _ _ (pages body es batch) = (refl, λ other. absurd (other refl))
said_by kind top _ _ _ (sets this code body ps is allowed says) = (refl, λ _. refl)
said_by kind top _ _ _ (info body eight says) = (refl, λ _. refl)
said_by kind top _ _ _ (p2m_frames last frames body says) = (refl, λ _. refl)
said_by kind top _ _ _ static_end = (refl, λ _. refl)
said_by kind top _ _ _ verify = (refl, λ _. refl)

silent_anywhere : (verified : Bool) (said : Content) → entries_in said ≡ [] → checked_in said ≡ [] → (entries_in (placed_content verified said) ≡ []) × (checked_in (placed_content verified said) ≡ [])
silent_anywhere true (Frames es) sends checks = (refl, sends)
silent_anywhere false (Frames es) sends checks = (sends, refl)
silent_anywhere verified Nothing sends checks = (sends, checks)
silent_anywhere verified (Sets code ps) sends checks = (sends, checks)
silent_anywhere verified (Lists last frames) sends checks = (sends, checks)
silent_anywhere verified (Checks es) sends checks = (sends, checks)

one_verify : (o : Opening) (types : List ℕ) (type : ℕ) → IsInOrder o.version o.kind types type → type ≡ 0xD → is_verified types ≡ false
one_verify o types type (optional above) is = absurd (let no : 2 ^ 31 ≤ 0xD = subst (λ n. 2 ^ 31 ≤ n) is above in omega (arith, no))
one_verify o types type (ordered this named supported of_kind keeps) is =
    keeps.one_verify (same_Some this Verify (sym (numbers_are_inverse.type_of this) ∙ ap type_of_number (sym named ∙ is) ∙ numbers_are_inverse.type_of Verify))

in_place : (o : Opening) (rs : List StreamRecord) (r : StreamRecord) (text : List ℕ) → Follows o rs r text → IsInPlace (is_verified (types_of rs)) r
in_place o rs r text f =
    let verified = is_verified (types_of rs) in
    let says = said_by o.kind (sent o.kind rs).top r.type f.body f.said f.says in
    let placed = placed_so verified f.said says.0 in
    record {
      sends = λ is. ap entries_in f.placed ∙ placed.sends is;
      checks = λ is. ap checked_in f.placed ∙ placed.checks is;
      once = one_verify o (types_of rs) r.type f.ordered;
      silent = λ is.
          let other : r.type ≢ 1 = λ one. let no : 0xD ≡ 1 = sym is ∙ one in omega (arith, no) in
          let both = silent_anywhere verified f.said (says.1 other) says.0 in
          (ap entries_in f.placed ∙ both.0, ap checked_in f.placed ∙ both.1);
    }

-- so do records one after another, behind a VERIFY or before one
AreInPlace : Bool → List StreamRecord → Type 0
AreInPlace verified [] = Unit {0}
AreInPlace verified (r ∷ rs) = IsInPlace verified r × AreInPlace (verified || nat_eq r.type 0xD) rs

later : (a b c : Bool) → ((a || b) || c) ≡ (a || ((b || false) || c))
later true b c = refl
later false true c = refl
later false false c = refl

or_false : (a : Bool) → (a || false) ≡ a
or_false true = refl
or_false false = refl

one_more_in_place : (verified : Bool) (rs : List StreamRecord) (r : StreamRecord) → AreInPlace verified rs → IsInPlace (verified || is_verified (types_of rs)) r → AreInPlace verified (rs ++ r ∷ [])
unfolding AreInPlace
one_more_in_place verified [] r are is = (subst (λ b. IsInPlace b r) (or_false verified) is, tt)
one_more_in_place verified (x ∷ xs) r (first, more) is =
    (first, one_more_in_place (verified || nat_eq x.type 0xD) xs r more (subst (λ b. IsInPlace b r) (sym (later verified (nat_eq x.type 0xD) (is_verified (types_of xs)))) is))

spelled_in_place : (o : Opening) (bytes : List ℕ) (records : List StreamRecord) → Spells (Follows o) bytes records → AreInPlace false records
unfolding AreInPlace
spelled_in_place o bytes records no_part = tt
spelled_in_place o bytes records (one_more front rs r text before f) = one_more_in_place false rs r (spelled_in_place o front rs before) (in_place o rs r text f)

both_in_place : (verified : Bool) (xs ys : List StreamRecord) → AreInPlace verified (xs ++ ys) → AreInPlace verified xs × AreInPlace (verified || is_verified (types_of xs)) ys
unfolding AreInPlace
both_in_place verified [] ys are = (tt, subst (λ b. AreInPlace b ys) (sym (or_false verified)) are)
both_in_place verified (x ∷ xs) ys (first, more) =
    let both = both_in_place (verified || nat_eq x.type 0xD) xs ys more in
    ((first, both.0), subst (λ b. AreInPlace b ys) (later verified (nat_eq x.type 0xD) (is_verified (types_of xs))) both.1)

none_sent : (rs : List StreamRecord) → AreInPlace true rs → entries_of rs ≡ []
unfolding AreInPlace
none_sent [] are = refl
none_sent (r ∷ rs) (first, more) = ap (λ l. l ++ entries_of rs) (first.sends refl) ∙ none_sent rs more

none_checked : (rs : List StreamRecord) → AreInPlace false rs → is_verified (types_of rs) ≡ false → checked_of rs ≡ []
unfolding AreInPlace
none_checked [] are none = refl
none_checked (r ∷ rs) (first, more) none =
    let both = or_parts (nat_eq r.type 0xD || false) (is_verified (types_of rs)) none in
    let other = (or_parts (nat_eq r.type 0xD) false both.0).0 in
    ap (λ l. l ++ checked_of rs) (first.checks refl) ∙ none_checked rs (subst (λ b. AreInPlace b rs) other more) both.1

-- ---- a PAGE_DATA

-- what its body says is a batch of frames
of_pages : (kind : Kind) (top type : ℕ) (body : List ℕ) (c : Content) → HasContent kind top type body c → type ≡ 1 → (es : List FrameEntry) × (c ≡ Frames es) × IsBatch kind top body es
of_pages kind top _ _ _ (has_optional type body above) is = absurd (let no : 2 ^ 31 ≤ 1 = subst (λ n. 2 ^ 31 ≤ n) is above in omega (arith, no))
of_pages kind top _ _ _ ends is = absurd (omega (arith, is))
of_pages kind top _ _ _ (pages body es batch) is = (es, refl, batch)
of_pages kind top _ _ _ (sets this code body ps coded allowed says) is =
    let this_is : this ≡ PageData = same_Some this PageData (sym (numbers_are_inverse.type_of this) ∙ ap type_of_number is ∙ numbers_are_inverse.type_of PageData) in
    let none : code_of_type PageData ≡ Some code = ap code_of_type (sym this_is) ∙ coded in
    absurd (cc)
of_pages kind top _ _ _ (info body eight says) is = absurd (omega (arith, is))
of_pages kind top _ _ _ (p2m_frames last frames body says) is = absurd (omega (arith, is))
of_pages kind top _ _ _ static_end is = absurd (omega (arith, is))
of_pages kind top _ _ _ verify is = absurd (omega (arith, is))

some_verify : (records : List StreamRecord) (b : Bool) → is_verified (types_of records) ≡ b → (All (λ q. q.type ≢ 0xD) records → ⊥) → is_verified (types_of records) ≡ true
some_verify records true is some = is
some_verify records false is some = absurd (some (none_is records is))

-- its entries are sent where no VERIFY is before it, and compared where one is
pub sent_or_compared : (o : Opening) (records : List StreamRecord) (r : StreamRecord) (bytes : List ℕ) → Follows o records r bytes → r.type ≡ 1
    → (body : List ℕ) × (es : List FrameEntry) × IsRecord 1 body bytes × IsBatch o.kind (sent o.kind records).top body es
    × (All (λ q. q.type ≢ 0xD) records → (entries_in r.content ≡ es) × (checked_in r.content ≡ []))
    × ((All (λ q. q.type ≢ 0xD) records → ⊥) → (entries_in r.content ≡ []) × (checked_in r.content ≡ es))
sent_or_compared o records r bytes f is =
    let p = of_pages o.kind (sent o.kind records).top r.type f.body f.said f.says is in
    let es = p.0 in
    let content : (b : Bool) → is_verified (types_of records) ≡ b → r.content ≡ placed_content b (Frames es) = λ b verified. f.placed ∙ ap (placed_content (is_verified (types_of records))) p.1 ∙ ap (λ v. placed_content v (Frames es)) verified in (
      f.body,
      es,
      subst (λ n. IsRecord n f.body bytes) is f.is,
      p.2,
      (λ none. let c = content false (all_others records none) in (ap entries_in c, ap checked_in c)),
      (λ some. let c = content true (some_verify records (is_verified (types_of records)) refl some) in (ap entries_in c, ap checked_in c)),
    )

-- ---- an image with a VERIFY

-- the records before it and behind it
record Parted (before behind : List StreamRecord) (v : StreamRecord) : Type 0 where
  first : is_verified (types_of before) ≡ false
  entries : entries_of (before ++ v ∷ behind) ≡ entries_of before
  checked : checked_of (before ++ v ∷ behind) ≡ checked_of behind

parted : (o : Opening) (bytes : List ℕ) (before behind : List StreamRecord) (v : StreamRecord) → Spells (Follows o) bytes (before ++ v ∷ behind) → v.type ≡ 0xD → Parted before behind v
unfolding AreInPlace
parted o bytes before behind v spelled is =
    let both = both_in_place false before (v ∷ behind) (spelled_in_place o bytes (before ++ v ∷ behind) spelled) in
    let here = both.1.0 in
    let first = here.once is in
    let silent = here.silent is in
    let verified : (is_verified (types_of before) || nat_eq v.type 0xD) ≡ true = rw (first, eq-eqb v.type 0xD is) refl in
    let late = none_sent behind (subst (λ b. AreInPlace b behind) verified both.1.1) in
    record {
      first = first;
      entries = entries_join before (v ∷ behind) ∙ ap (λ l. entries_of before ++ (l ++ entries_of behind)) silent.0 ∙ ap (λ l. entries_of before ++ l) late ∙ append-nil (entries_of before);
      checked = checked_join before (v ∷ behind) ∙ ap (λ l. l ++ (checked_in v.content ++ checked_of behind)) (none_checked before both.0 first) ∙ ap (λ l. l ++ checked_of behind) silent.1;
    }

module _ (input : List ℕ) (o : Opening) (before behind : List StreamRecord) (v : StreamRecord) (rest : List ℕ) (image : IsImage input o (before ++ v ∷ behind) rest) (is : v.type ≡ 0xD) where
  pub parts_entries : (entries_of (before ++ v ∷ behind) ≡ entries_of before) × (checked_of (before ++ v ∷ behind) ≡ checked_of behind)
  parts_entries = let p = parted o image.bytes before behind v image.spelled is in (p.entries, p.checked)

  pub behind_are_counted : differs_of o.kind (before ++ v ∷ behind) ≡ Some (differing o.kind (sent o.kind before).frames (checked_of behind))
  unfolding differs_of
  behind_are_counted =
      let p = parted o image.bytes before behind v image.spelled is in
      let frames : (sent o.kind (before ++ v ∷ behind)).frames ≡ (sent o.kind before).frames = sent_frames o.kind (before ++ v ∷ behind) ∙ ap (put_entries o.kind fin.empty) p.entries ∙ sym (sent_frames o.kind before) in
      let verified : is_verified (types_of (before ++ v ∷ behind)) ≡ true = verified_join before (v ∷ behind) ∙ rw (p.first, eq-eqb v.type 0xD is) refl in
      ap (λ b. cond b (Some (differing o.kind (sent o.kind (before ++ v ∷ behind)).frames (checked_of (before ++ v ∷ behind)))) None) verified
      ∙ ap (λ (m : FrameMap). Some (differing o.kind m (checked_of (before ++ v ∷ behind)))) frames ∙ ap (λ es. Some (differing o.kind (sent o.kind before).frames es)) p.checked
