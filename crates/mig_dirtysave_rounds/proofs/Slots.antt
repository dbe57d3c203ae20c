-- A raw table brought to its form in a stream, slot by slot, with a name for each slot.
use Rattle.mig_dirtysave_rounds.proofs.Common.{◌≡◌, ℕ, ◌+◌, ◌-◌, ◌*◌, ◌/◌, ◌^◌, ◌<◌, ◌≤◌, nat_lt, Bool, true, false, cond, List, Option, Some, None, refl, sym, ap, subst, ◌∙◌, arith, Frame, long_at, entry, blanked_table, IsWithin, first_superpage, renamed_by, ChangedBelow, no_slot, is_lost, lost_at, put_slot, ltb-true, Blank, NotPresent, Superpage, is_superpage, with_frame, each_twice, next_below, still, one_changed, one_stays, walk_end}
use Rattle.std.proofs.Common.{◌%◌, ◌==◌, ◌&&◌, nat_le}
use Rattle.mig_bytes.proofs.ByteLists.{long_below}
use Rattle.mig_guest.specs.declared.table.Entry.{Entry}
use Rattle.mig_guest.specs.Tables.{entry_of, named_frame, is_present, is_large, is_blank_slot, blanked_entry}
use Rattle.mig_guest.proofs.Longs.{same_longs}
use Rattle.mig_pvtables.specs.Renaming.{with_name, named_anew, renamed_entry}
use Rattle.mig_pvtables.proofs.BlankSays.{blank_says, low_says}
use Rattle.mig_pvtables.proofs.Moduli.{long_of_each}
use Rattle.mig_pvtables.proofs.Renamed.{says, blanked_small}
use Rattle.mig_pvtables.proofs.RenameSteps.{blank_slot}

-- ---- one number

abbrev pub formed_long : (ℕ → Option ℕ) → ℕ → ℕ → ℕ → ℕ
formed_long names level slot e = renamed_entry names level slot (blanked_entry level slot e)

long_blanked : (names : ℕ → Option ℕ) (level slot e : ℕ) → is_blank_slot level slot ≡ true → formed_long names level slot e ≡ 0
unfolding blanked_entry renamed_entry
long_blanked names level slot e is = ap (renamed_entry names level slot) (ap (λ b. cond b 0 e) is) ∙ ap (named_anew (names slot) 0) (blank_says level slot 0 is)

long_named : (names : ℕ → Option ℕ) (level slot e : ℕ) → is_blank_slot level slot ≡ false → formed_long names level slot e ≡ named_anew (names slot) e (entry_of level slot e)
unfolding blanked_entry renamed_entry
long_named names level slot e is = ap (renamed_entry names level slot) (ap (λ b. cond b 0 e) is)

pub blank_long : (names : ℕ → Option ℕ) (level slot e : ℕ) → entry_of level slot e ≡ Blank → formed_long names level slot e ≡ 0
blank_long names level slot e is = long_blanked names level slot e (blank_slot level slot e is)

pub other_long : (names : ℕ → Option ℕ) (level slot e : ℕ) (x : Entry) → entry_of level slot e ≡ x → (x ≡ Blank → ⊥) → formed_long names level slot e ≡ named_anew (names slot) e x
other_long names level slot e x is apart = by_case (is_blank_slot level slot) refl
  where
    by_case : (b : Bool) → is_blank_slot level slot ≡ b → formed_long names level slot e ≡ named_anew (names slot) e x
    by_case true blank = absurd (apart (sym is ∙ blank_says level slot e blank))
    by_case false other = long_named names level slot e other ∙ ap (named_anew (names slot) e) is

-- ---- other names

long_alike : (names others : ℕ → Option ℕ) (level slot e : ℕ) → others slot ≡ names slot → formed_long names level slot e ≡ formed_long others level slot e
unfolding renamed_entry
long_alike names others level slot e same = let v = blanked_entry level slot e in ap (λ o. named_anew o v (entry_of level slot v)) (sym same)

-- only the names of the first k slots are in a page of which so many are changed
pub names_alike : (names others : ℕ → Option ℕ) (level k : ℕ) {raw now : List ℕ} → ((j : ℕ) → j < k → others j ≡ names j) → ChangedBelow 512 (formed_long names level) raw k now → ChangedBelow 512 (formed_long others level) raw k now
names_alike names others level k {raw = raw} same is = record { all = is.all; size = is.size; done = is.done ∙ same_longs 512 _ _ (λ i lt. by_case i (nat_lt i k) refl) }
  where
    by_case : (i : ℕ) (b : Bool) → nat_lt i k ≡ b → cond b (formed_long names level i (long_at raw i)) (long_at raw i) ≡ cond b (formed_long others level i (long_at raw i)) (long_at raw i)
    by_case i true below = long_alike names others level i (long_at raw i) (same i (ltb-true i k below))
    by_case i false above = refl

pub same_names : (names others : ℕ → Option ℕ) (level : ℕ) (page : List ℕ) → ((j : ℕ) → j < 512 → names j ≡ others j) → renamed_by names level page ≡ renamed_by others level page
unfolding renamed_entry
same_names names others level page same = same_longs 512 _ _ (λ j lt. ap (λ o. named_anew o (long_at page j) (entry_of level j (long_at page j))) (same j lt))

-- ---- one slot

module _ (names : ℕ → Option ℕ) (level : ℕ) {raw now : List ℕ} (slot : ℕ) (lt : slot < 512) (is : ChangedBelow 512 (formed_long names level) raw slot now) where
  pub same_long : long_at now slot ≡ long_at raw slot
  same_long = still is slot lt (next_below slot).before

  pub same_entry : entry level now slot ≡ entry level raw slot
  same_entry = ap (entry_of level slot) same_long

  other : (x : Entry) → entry level now slot ≡ x → (x ≡ Blank → ⊥) → formed_long names level slot (long_at raw slot) ≡ named_anew (names slot) (long_at raw slot) x
  other x said apart = other_long names level slot (long_at raw slot) x (sym same_entry ∙ said) apart

  pub put_step : {new : List ℕ} → new ≡ put_slot now slot (entry level now slot) (names slot) → ChangedBelow 512 (formed_long names level) raw (slot + 1) new
  put_step {new = new} put = by_case (entry level now slot) refl put
    where
      no_blank : (n : ℕ) → Frame n ≡ Blank → ⊥
      no_blank n e = cc

      by_name : (n : ℕ) (name : Option ℕ) → entry level now slot ≡ Frame n → names slot ≡ name → new ≡ put_slot now slot (Frame n) name → ChangedBelow 512 (formed_long names level) raw (slot + 1) new
      by_name n None said has put = one_stays is lt (next_below slot) put (other (Frame n) said (no_blank n) ∙ ap (with_name (long_at raw slot)) has)
      by_name n (Some m) said has put = one_changed is lt (next_below slot) put (ap (λ e. with_frame e m) same_long ∙ sym (other (Frame n) said (no_blank n) ∙ ap (with_name (long_at raw slot)) has))

      by_case : (x : Entry) → entry level now slot ≡ x → new ≡ put_slot now slot x (names slot) → ChangedBelow 512 (formed_long names level) raw (slot + 1) new
      by_case Blank said put = one_changed is lt (next_below slot) put (sym (blank_long names level slot (long_at raw slot) (sym same_entry ∙ said)))
      by_case NotPresent said put = one_stays is lt (next_below slot) put (other NotPresent said (λ e. let no : NotPresent ≡ Blank = e in cc))
      by_case Superpage said put = one_stays is lt (next_below slot) put (other Superpage said (λ e. let no : Superpage ≡ Blank = e in cc))
      by_case (Frame n) said put = by_name n (names slot) said refl put

-- ---- all slots

pub table_formed : (names : ℕ → Option ℕ) (level : ℕ) (raw now : List ℕ) → ChangedBelow 512 (formed_long names level) raw 512 now → now ≡ renamed_by names level (blanked_table level raw)
table_formed names level raw now is =
    walk_end 512 is refl
    ∙ sym (each_twice 512 (blanked_entry level) raw (λ slot lt. blanked_small level slot (long_at raw slot) (long_below (8 * slot) raw is.all)) (renamed_entry names level))

-- ---- what the slots name then

-- an entry with another frame in it names no frame above that
frame_within : (level slot e n m top : ℕ) → entry_of level slot e ≡ Frame n → m ≤ top → IsWithin top (entry_of level slot (with_frame e m))
unfolding entry_of
frame_within level slot e n m top is le =
    let present : with_frame e m % 2 ≡ e % 2 = omega arith in
    let large : with_frame e m / 2 ^ 7 % 2 ≡ e / 2 ^ 7 % 2 = omega arith in
    subst (IsWithin top) (λ i. says (is_blank_slot level slot) (sym present i == 1) (nat_le 2 level && (sym large i == 1)) (named_frame (with_frame e m))) (by_case (is_blank_slot level slot) (is_present e) (nat_le 2 level && is_large e) is)
  where
    by_case : (blank present large : Bool) → says blank present large (named_frame e) ≡ Frame n → IsWithin top (says blank present large (named_frame (with_frame e m)))
    by_case true present large is = tt
    by_case false false large is = tt
    by_case false true true is = absurd (let no : Superpage ≡ Frame n = is in cc)
    by_case false true false is = omega (arith, le)

module _ (names : ℕ → Option ℕ) (level width : ℕ) {raw now : List ℕ} (is : ChangedBelow 512 (formed_long names level) raw 512 now) (none : first_superpage level raw ≡ None)
    (found : (j : ℕ) → j < 512 → lost_at level raw names j ≡ false) (inside : (j mfn pfn : ℕ) → j < 512 → entry level raw j ≡ Frame mfn → names j ≡ Some pfn → pfn < width) (slot : ℕ) (lt : slot < 512) where
  abbrev long : ℕ
  long = long_at raw slot

  abbrev Within : ℕ → Type 0
  Within e = IsWithin (width - 1) (entry_of level slot e)

  by_name : (n : ℕ) (name : Option ℕ) → entry level raw slot ≡ Frame n → names slot ≡ name → Within (named_anew name long (Frame n))
  by_name n None said has = absurd (let no : true ≡ false = (λ i. is_lost (sym said i) (sym has i)) ∙ found slot lt in cc)
  by_name n (Some m) said has = let low = inside slot n m lt said has in frame_within level slot long n m (width - 1) said (omega (arith, low))

  by_case : (x : Entry) → entry level raw slot ≡ x → Within (formed_long names level slot long)
  by_case Blank said = subst Within (sym (blank_long names level slot long said)) (subst (IsWithin (width - 1)) (sym (blank_says level slot 0 (blank_slot level slot long said))) tt)
  by_case NotPresent said =
      subst Within (sym (other_long names level slot long NotPresent said (λ e. let no : NotPresent ≡ Blank = e in cc))) (subst (IsWithin (width - 1)) (sym said) tt)
  by_case Superpage said = absurd (let no : true ≡ false = ap is_superpage (sym said) ∙ (no_slot (λ j. is_superpage (entry level raw j))).0 none slot lt in cc)
  by_case (Frame n) said = subst Within (sym (other_long names level slot long (Frame n) said (λ e. let no : Frame n ≡ Blank = e in cc))) (by_name n (names slot) said refl)

  -- where no name is missing, each is below the width, and there is no superpage
  pub entries_within : IsWithin (width - 1) (entry level now slot)
  entries_within =
      subst (IsWithin (width - 1))
      (sym (ap (λ l. entry level l slot) (walk_end 512 is refl) ∙ ap (entry_of level slot) (long_of_each 512 (formed_long names level) raw slot lt) ∙ low_says level slot (formed_long names level slot long)))
      (by_case (entry level raw slot) refl)
