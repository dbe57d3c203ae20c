-- Tables whose entries name other frames: what they say then, and that they come back.
use Rattle.mig_pvtables.proofs.Common.{◌≡◌, ◌≢◌, ℕ, ◌*◌, ◌/◌, ◌%◌, ◌^◌, ◌<◌, Bool, true, false, cond, not, nat_le, ◌==◌, ◌&&◌, List, length, Option, Some, None, refl, sym, ap, subst, ◌∙◌, arith, long_at, each_long, Entry, Blank, NotPresent, Superpage, Frame, entry, is_blank_slot, blanked_table, recursion_from_All, AreBytes, long_below, is_present, is_large, named_frame, same_longs, each_stays, with_frame, with_name, named_anew, name_for, normalised_table}
use Rattle.mig_guest.specs.Tables.{entry_of, blanked_entry}
use Rattle.mig_pvtables.specs.Renaming.{renamed_entry, renamed_by, renamed_table, entry_named, NamesFit, GoesBack}
use Rattle.mig_pvtables.proofs.BlankSays.{blank_says}
use Rattle.mig_pvtables.proofs.LongSteps.{long_of_each, each_twice}

-- ---- the bits of one entry

low_bits : (e m : ℕ) → with_frame e m % 2 ^ 12 ≡ e % 2 ^ 12
low_bits e m = omega arith

high_bits : (e m : ℕ) → m < 2 ^ 40 → with_frame e m / 2 ^ 52 ≡ e / 2 ^ 52
high_bits e m small = omega (arith, small)

-- the low 12 bits say whether an entry is present, and whether it is a superpage
same_present : (a b : ℕ) → a % 2 ^ 12 ≡ b % 2 ^ 12 → is_present a ≡ is_present b
same_present a b low = let e : a % 2 ≡ b % 2 = omega (arith, low) in ap (λ n. n == 1) e

same_large : (a b : ℕ) → a % 2 ^ 12 ≡ b % 2 ^ 12 → is_large a ≡ is_large b
same_large a b low = let e : a / 2 ^ 7 % 2 ≡ b / 2 ^ 7 % 2 = omega (arith, low) in ap (λ n. n == 1) e

-- all bits but those of the frame are the same
abbrev pub Kept : ℕ → ℕ → Type 0
Kept a b = (a % 2 ^ 12 ≡ b % 2 ^ 12) × (a / 2 ^ 52 ≡ b / 2 ^ 52)

new_frame : (e m : ℕ) → m < 2 ^ 40 → named_frame (with_frame e m) ≡ m
new_frame e m small = omega (arith, small)

frame_again : (e m : ℕ) → m < 2 ^ 40 → with_frame (with_frame e m) (named_frame e) ≡ e
frame_again e m small = omega (arith, small)

with_frame_small : (e m : ℕ) → e < 2 ^ 64 → m < 2 ^ 40 → with_frame e m < 2 ^ 64
with_frame_small e m fits small = omega (arith, fits, small)

-- ---- what an entry says

abbrev pub says : Bool → Bool → Bool → ℕ → Entry
says blank present large n = cond blank Blank (cond (not present) NotPresent (cond large Superpage (Frame n)))

same_says : (blank present large : Bool) (n m : ℕ) → says blank present large m ≡ entry_named (Some m) (says blank present large n)
same_says true present large n m = refl
same_says false false large n m = refl
same_says false true true n m = refl
same_says false true false n m = refl

-- another frame in it leaves an entry what it is
with_frame_says : (level slot e m : ℕ) → m < 2 ^ 40 → entry_of level slot (with_frame e m) ≡ entry_named (Some m) (entry_of level slot e)
unfolding entry_of
with_frame_says level slot e m small =
    ap (λ b. says (is_blank_slot level slot) b (nat_le 2 level && is_large (with_frame e m)) (named_frame (with_frame e m))) (same_present (with_frame e m) e (low_bits e m))
    ∙ ap (λ b. says (is_blank_slot level slot) (is_present e) (nat_le 2 level && b) (named_frame (with_frame e m))) (same_large (with_frame e m) e (low_bits e m))
    ∙ ap (λ n. says (is_blank_slot level slot) (is_present e) (nat_le 2 level && is_large e) n) (new_frame e m small)
    ∙ same_says (is_blank_slot level slot) (is_present e) (nat_le 2 level && is_large e) (named_frame e) m

says_frame : (blank present large : Bool) (a n : ℕ) → says blank present large a ≡ Frame n → a ≡ n
says_frame true present large a n is = let no : Blank ≡ Frame n = is in cc
says_frame false false large a n is = let no : NotPresent ≡ Frame n = is in cc
says_frame false true true a n is = let no : Superpage ≡ Frame n = is in cc
says_frame false true false a n is = cc

-- the frame that an entry says is the one in its bits
frame_said : (level slot e n : ℕ) → entry_of level slot e ≡ Frame n → named_frame e ≡ n
unfolding entry_of
frame_said level slot e n is = says_frame (is_blank_slot level slot) (is_present e) (nat_le 2 level && is_large e) (named_frame e) n is

-- ---- one entry renamed by its slot

-- where the entry names a frame, the name fits
abbrev pub Fits : Option ℕ → Entry → Type 0
Fits name x = (n m : ℕ) → x ≡ Frame n → name ≡ Some m → m < 2 ^ 40

-- v is e with this name in it, where e names a frame
record IsAnew (name : Option ℕ) (level slot e v : ℕ) : Type 0 where
  says : entry_of level slot v ≡ entry_named name (entry_of level slot e)
  small : e < 2 ^ 64 → v < 2 ^ 64
  kept : Kept v e

module _ (name : Option ℕ) (level slot e : ℕ) where
  -- an entry that stays is named anew where the name isn't for it
  same : entry_of level slot e ≡ entry_named name (entry_of level slot e) → IsAnew name level slot e e
  same is = record { says = is; small = λ small. small; kept = (refl, refl) }

  named : (n : ℕ) (o : Option ℕ) → entry_of level slot e ≡ Frame n → ((m : ℕ) → o ≡ Some m → m < 2 ^ 40) → IsAnew o level slot e (with_name e o)
  named n None is fits = record { says = refl; small = λ small. small; kept = (refl, refl) }
  named n (Some m) is fits =
      let low = fits m refl in record { says = with_frame_says level slot e m low; small = λ small. with_frame_small e m small low; kept = (low_bits e m, high_bits e m low) }

  no_frame : (o : Option ℕ) (x : Entry) → ((n : ℕ) → x ≡ Frame n → ⊥) → x ≡ entry_named o x
  no_frame None x none = refl
  no_frame (Some m) Blank none = refl
  no_frame (Some m) NotPresent none = refl
  no_frame (Some m) Superpage none = refl
  no_frame (Some m) (Frame n) none = absurd (none n refl)

  anew_case : (x : Entry) → entry_of level slot e ≡ x → Fits name x → IsAnew name level slot e (named_anew name e x)
  anew_case (Frame n) is fits = named n name is (λ m has. fits n m refl has)
  anew_case Blank is fits = same (no_frame name (entry_of level slot e) (λ n no. let clash : Blank ≡ Frame n = sym is ∙ no in cc))
  anew_case NotPresent is fits = same (no_frame name (entry_of level slot e) (λ n no. let clash : NotPresent ≡ Frame n = sym is ∙ no in cc))
  anew_case Superpage is fits = same (no_frame name (entry_of level slot e) (λ n no. let clash : Superpage ≡ Frame n = sym is ∙ no in cc))

module _ (names : ℕ → Option ℕ) (level slot e : ℕ) (fits : Fits (names slot) (entry_of level slot e)) where
  is_anew : IsAnew (names slot) level slot e (renamed_entry names level slot e)
  unfolding renamed_entry
  is_anew = anew_case (names slot) level slot e (entry_of level slot e) refl fits

  pub renamed_says : entry_of level slot (renamed_entry names level slot e) ≡ entry_named (names slot) (entry_of level slot e)
  renamed_says = is_anew.says

  pub renamed_small : e < 2 ^ 64 → renamed_entry names level slot e < 2 ^ 64
  renamed_small = is_anew.small

no_frame_stays : (o : Option ℕ) (x : Entry) (e : ℕ) → ((n : ℕ) → x ≢ Frame n) → named_anew o e x ≡ e
no_frame_stays o Blank e none = refl
no_frame_stays o NotPresent e none = refl
no_frame_stays o Superpage e none = refl
no_frame_stays o (Frame n) e none = absurd (none n refl)

no_name_stays : (e : ℕ) (x : Entry) → named_anew None e x ≡ e
no_name_stays e Blank = refl
no_name_stays e NotPresent = refl
no_name_stays e Superpage = refl
no_name_stays e (Frame n) = refl

-- ---- a table renamed by its slots

module _ (names : ℕ → Option ℕ) (level : ℕ) (page : List ℕ) (all : AreBytes page) (fit : NamesFit names level page) where
  fits_at : (slot : ℕ) → slot < 512 → Fits (names slot) (entry level page slot)
  fits_at slot lt n m is has = fit slot n m lt is has

  pub all_small : (slot : ℕ) → slot < 512 → renamed_entry names level slot (long_at page slot) < 2 ^ 64
  all_small slot lt = renamed_small names level slot (long_at page slot) (fits_at slot lt) (long_below (8 * slot) page (recursion_from_All (λ b. b < 256) page all))

  pub renamed_at : (slot : ℕ) → slot < 512 → long_at (renamed_by names level page) slot ≡ renamed_entry names level slot (long_at page slot)
  renamed_at slot lt = long_of_each 512 (renamed_entry names level) page all_small slot lt

  -- what it says
  pub said_anew : (slot : ℕ) → slot < 512 → entry level (renamed_by names level page) slot ≡ entry_named (names slot) (entry level page slot)
  said_anew slot lt = ap (entry_of level slot) (renamed_at slot lt) ∙ renamed_says names level slot (long_at page slot) (fits_at slot lt)

  -- the bits that stay
  pub kept_at : (slot : ℕ) → slot < 512 → Kept (long_at (renamed_by names level page) slot) (long_at page slot)
  kept_at slot lt = subst (λ n. Kept n (long_at page slot)) (sym (renamed_at slot lt)) (is_anew names level slot (long_at page slot) (fits_at slot lt)).kept

  -- an entry that names no frame, or for which there is no name, stays as it is
  pub frameless_stays : (slot : ℕ) → slot < 512 → ((n : ℕ) → entry level page slot ≢ Frame n) → long_at (renamed_by names level page) slot ≡ long_at page slot
  unfolding renamed_entry
  frameless_stays slot lt none = renamed_at slot lt ∙ no_frame_stays (names slot) (entry level page slot) (long_at page slot) none

  pub nameless_stays : (slot : ℕ) → slot < 512 → names slot ≡ None → long_at (renamed_by names level page) slot ≡ long_at page slot
  unfolding renamed_entry
  nameless_stays slot lt none = renamed_at slot lt ∙ ap (λ o. named_anew o (long_at page slot) (entry level page slot)) none ∙ no_name_stays (long_at page slot) (entry level page slot)

  pub same_kind : (slot : ℕ) → slot < 512 → (is_present (long_at (renamed_by names level page) slot) ≡ is_present (long_at page slot)) × (is_large (long_at (renamed_by names level page) slot) ≡ is_large (long_at page slot))
  same_kind slot lt = let low = (kept_at slot lt).0 in (same_present _ _ low, same_large _ _ low)

-- ---- one entry renamed by its frame

abbrev pub renamed_long : (ℕ → Option ℕ) → ℕ → ℕ → ℕ → ℕ
renamed_long f level slot e = renamed_entry (λ _. name_for f (entry_of level slot e)) level slot e

pub by_frames : (f : ℕ → Option ℕ) (level : ℕ) (page : List ℕ) → renamed_table f level page ≡ each_long 512 (renamed_long f level) page
unfolding renamed_entry
by_frames f level page = refl

-- each frame that an entry says goes back
abbrev pub EntryGoesBack : (ℕ → Option ℕ) → (ℕ → Option ℕ) → Entry → Type 0
EntryGoesBack f back x = (n : ℕ) → x ≡ Frame n → GoesBack f back n

-- such a name fits
pub fits_back : (f back : ℕ → Option ℕ) (x : Entry) → EntryGoesBack f back x → Fits (name_for f x) x
fits_back f back x goes n m is has =
    let g = goes n is in
    let there : f n ≡ Some m = sym (ap (name_for f) is) ∙ has in
    let same : g.name ≡ m = cc in subst (λ k. k < 2 ^ 40) same g.small

module _ (f : ℕ → Option ℕ) (level slot e : ℕ) where
  -- an entry that names no frame stays
  pub renamed_case : (x : Entry) → entry_of level slot e ≡ x → renamed_long f level slot e ≡ named_anew (name_for f x) e x
  unfolding renamed_entry
  renamed_case x is = ap (λ y. named_anew (name_for f y) e y) is

  -- an entry that names one gets its name
  pub renamed_frame : (n m : ℕ) → entry_of level slot e ≡ Frame n → f n ≡ Some m → renamed_long f level slot e ≡ with_frame e m
  renamed_frame n m is has = renamed_case (Frame n) is ∙ ap (with_name e) has

  module _ (back : ℕ → Option ℕ) where
    small_back : EntryGoesBack f back (entry_of level slot e) → e < 2 ^ 64 → renamed_long f level slot e < 2 ^ 64
    small_back goes small = renamed_small (λ _. name_for f (entry_of level slot e)) level slot e (fits_back f back (entry_of level slot e) goes) small

    stays : (x : Entry) → entry_of level slot e ≡ x → named_anew (name_for f x) e x ≡ e → named_anew (name_for back x) e x ≡ e → renamed_long back level slot (renamed_long f level slot e) ≡ e
    unfolding renamed_entry
    stays x is one two = ap (renamed_long back level slot) (renamed_case x is ∙ one) ∙ ap (λ y. named_anew (name_for back y) e y) is ∙ two

    from_name : (n m : ℕ) → entry_of level slot (with_frame e m) ≡ Frame m → back m ≡ Some n → renamed_long back level slot (with_frame e m) ≡ with_frame (with_frame e m) n
    unfolding renamed_entry
    from_name n m said has = ap (λ y. named_anew (name_for back y) (with_frame e m) y) said ∙ ap (with_name (with_frame e m)) has

    back_case : (x : Entry) → entry_of level slot e ≡ x → EntryGoesBack f back x → renamed_long back level slot (renamed_long f level slot e) ≡ e
    back_case Blank is goes = stays Blank is refl refl
    back_case NotPresent is goes = stays NotPresent is refl refl
    back_case Superpage is goes = stays Superpage is refl refl
    back_case (Frame n) is goes =
        let g = goes n refl in
        ap (renamed_long back level slot) (renamed_frame n g.name is g.there)
        ∙ from_name n g.name (with_frame_says level slot e g.name g.small ∙ ap (entry_named (Some g.name)) is) g.again
        ∙ ap (with_frame (with_frame e g.name)) (sym (frame_said level slot e n is)) ∙ frame_again e g.name g.small

    -- renamed, and renamed back
    entry_back : EntryGoesBack f back (entry_of level slot e) → renamed_long back level slot (renamed_long f level slot e) ≡ e
    entry_back goes = back_case (entry_of level slot e) refl goes

-- ---- the blank slots

pub blanked_small : (level slot e : ℕ) → e < 2 ^ 64 → blanked_entry level slot e < 2 ^ 64
unfolding blanked_entry
blanked_small level slot e fits = elim (is_blank_slot level slot) as (λ b. cond b 0 e < 2 ^ 64) [ true ↦ omega arith | false ↦ fits ]

-- renaming leaves blank slots alone, so they can be set to 0 before it or after it
pub blanks_first : (f : ℕ → Option ℕ) (level slot e : ℕ) → renamed_long f level slot (blanked_entry level slot e) ≡ blanked_entry level slot (renamed_long f level slot e)
unfolding blanked_entry renamed_entry
blanks_first f level slot e = by_case (is_blank_slot level slot) refl
  where
    anew : ℕ → ℕ
    anew v = named_anew (name_for f (entry_of level slot v)) v (entry_of level slot v)

    by_case : (b : Bool) → is_blank_slot level slot ≡ b → anew (cond b 0 e) ≡ cond b 0 (anew e)
    by_case true is = ap (λ x. named_anew (name_for f x) 0 x) (blank_says level slot 0 is)
    by_case false is = refl

-- ---- a table renamed by its frames, and renamed back

-- each frame that a table names goes back
abbrev pub TableGoesBack : (ℕ → Option ℕ) → (ℕ → Option ℕ) → ℕ → List ℕ → Type 0
TableGoesBack f back level page = (slot n : ℕ) → slot < 512 → entry level page slot ≡ Frame n → GoesBack f back n

-- normalising a localised table gives the table, with 0 in the blank slots
pub normalised_back : (f back : ℕ → Option ℕ) (level : ℕ) (page : List ℕ) → AreBytes page → TableGoesBack f back level page → normalised_table back level (renamed_table f level page) ≡ blanked_table level page
normalised_back f back level page all goes =
    let bytes = recursion_from_All (λ b. b < 256) page all in
    let small = λ (slot : ℕ) (lt : slot < 512). small_back f level slot (long_at page slot) back (λ n is. goes slot n lt is) (long_below (8 * slot) page bytes) in
    by_frames back level (blanked_table level (renamed_table f level page))
    ∙ ap (λ p. each_long 512 (renamed_long back level) (blanked_table level p)) (by_frames f level page)
    ∙ ap (each_long 512 (renamed_long back level)) (each_twice 512 (renamed_long f level) page small (blanked_entry level))
    ∙ each_twice 512 (λ slot e. blanked_entry level slot (renamed_long f level slot e)) page (λ slot lt. blanked_small level slot _ (small slot lt)) (renamed_long back level)
    ∙ same_longs 512 _ _ (λ slot lt. blanks_first back level slot (renamed_long f level slot (long_at page slot)) ∙ ap (blanked_entry level slot) (entry_back f level slot (long_at page slot) back (λ n is. goes slot n lt is)))

-- a localised table that is renamed back is the table
pub table_back : (f back : ℕ → Option ℕ) (level : ℕ) (page : List ℕ) → AreBytes page → length page ≡ 4096 → TableGoesBack f back level page → renamed_table back level (renamed_table f level page) ≡ page
table_back f back level page all size goes =
    let bytes = recursion_from_All (λ b. b < 256) page all in
    let small = λ (slot : ℕ) (lt : slot < 512). small_back f level slot (long_at page slot) back (λ n is. goes slot n lt is) (long_below (8 * slot) page bytes) in
    by_frames back level (renamed_table f level page)
    ∙ ap (each_long 512 (renamed_long back level)) (by_frames f level page)
    ∙ each_twice 512 (renamed_long f level) page small (renamed_long back level)
    ∙ each_stays 512 (λ slot e. renamed_long back level slot (renamed_long f level slot e)) page bytes size (λ slot lt. entry_back f level slot (long_at page slot) back (λ n is. goes slot n lt is))
