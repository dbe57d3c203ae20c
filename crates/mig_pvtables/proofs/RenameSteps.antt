-- A table renamed, slot by slot.
use Rattle.mig_pvtables.proofs.Common.{◌≡◌, ℕ, ◌+◌, ◌*◌, ◌<◌, Bool, true, false, cond, List, Option, Some, None, refl, sym, ap, ◌∙◌, nat_le, ◌&&◌, long_at, Entry, Blank, NotPresent, Superpage, Frame, entry, is_blank_slot, little_bytes, with_field, is_present, is_large, named_frame, with_frame, with_name, named_anew, name_for}
use Rattle.mig_guest.specs.Tables.{entry_of, blanked_entry}
use Rattle.mig_pvtables.proofs.LongSteps.{ChangedBelow, next_below, still, one_changed, one_stays}
use Rattle.mig_pvtables.proofs.Renamed.{says, renamed_long, renamed_case}

module _ (f : ℕ → Option ℕ) (level : ℕ) {page now : List ℕ} (slot : ℕ) (lt : slot < 512) (is : ChangedBelow 512 (renamed_long f level) page slot now) where
  same_long : long_at now slot ≡ long_at page slot
  same_long = still is slot lt (next_below slot).before

  pub same_entry : entry level now slot ≡ entry level page slot
  same_entry = ap (entry_of level slot) same_long

  told : (x : Entry) → entry level now slot ≡ x → renamed_long f level slot (long_at page slot) ≡ named_anew (name_for f x) (long_at page slot) x
  told x said = renamed_case f level slot (long_at page slot) x (sym same_entry ∙ said)

  pub named : {n m : ℕ} {new : List ℕ} → entry level now slot ≡ Frame n → f n ≡ Some m → new ≡ with_field now (8 * slot) (little_bytes 8 (with_frame (long_at now slot) m)) → ChangedBelow 512 (renamed_long f level) page (slot + 1) new
  named {n = n} {m = m} said has put = one_changed is lt (next_below slot) put (ap (λ e. with_frame e m) same_long ∙ sym (told (Frame n) said ∙ ap (with_name (long_at page slot)) has))

  pub unnamed : {n : ℕ} {new : List ℕ} → entry level now slot ≡ Frame n → f n ≡ None → new ≡ now → ChangedBelow 512 (renamed_long f level) page (slot + 1) new
  unnamed {n = n} said none same = one_stays is lt (next_below slot) same (told (Frame n) said ∙ ap (with_name (long_at page slot)) none)

  pub other : {x : Entry} {new : List ℕ} → x ≡ entry level now slot → ((n : ℕ) → x ≡ Frame n → ⊥) → new ≡ now → ChangedBelow 512 (renamed_long f level) page (slot + 1) new
  other {x = x} said none same = one_stays is lt (next_below slot) same (by_case x (sym said) none)
    where
      by_case : (x : Entry) → entry level now slot ≡ x → ((n : ℕ) → x ≡ Frame n → ⊥) → renamed_long f level slot (long_at page slot) ≡ long_at page slot
      by_case Blank said none = told Blank said
      by_case NotPresent said none = told NotPresent said
      by_case Superpage said none = told Superpage said
      by_case (Frame n) said none = absurd (none n refl)

-- ---- the blank slots

pub blanked_zero : (level slot e : ℕ) → is_blank_slot level slot ≡ true → blanked_entry level slot e ≡ 0
unfolding blanked_entry
blanked_zero level slot e is = ap (λ b. cond b 0 e) is

pub blanked_stays : (level slot e : ℕ) → is_blank_slot level slot ≡ false → blanked_entry level slot e ≡ e
unfolding blanked_entry
blanked_stays level slot e is = ap (λ b. cond b 0 e) is

pub blank_case : (b p l : Bool) (n : ℕ) → says b p l n ≡ Blank → b ≡ true
blank_case true p l n is = refl
blank_case false false l n is = let absent : NotPresent ≡ Blank = is in cc
blank_case false true true n is = let absent : Superpage ≡ Blank = is in cc
blank_case false true false n is = let absent : Frame n ≡ Blank = is in cc

pub blank_slot : (level slot e : ℕ) → entry_of level slot e ≡ Blank → is_blank_slot level slot ≡ true
unfolding entry_of
blank_slot level slot e is = blank_case (is_blank_slot level slot) (is_present e) (nat_le 2 level && is_large e) (named_frame e) is
