-- The pages of a PV host's frames as they are sent, in blank form: those of the view.
use Rattle.mig_dirtysave.proofs.Common.{◌≡◌, ℕ, ◌^◌, ◌<◌, Bool, true, false, List, Option, Some, None, refl, sym, ap, ◌∙◌, arith, option_and_then, HostFrames, pfn_in, long_at, Entry, Blank, NotPresent, Superpage, Frame, entry, blanked_page, names_in, named_by, table_in, form_page, ◌%◌, is_blank_slot, blanked_entry, blanked_table, renamed_page}
use Rattle.mig_pvtables.specs.Tables.{with_frame}
use Rattle.mig_pvtables.specs.Renaming.{with_name, named_anew, renamed_entry, renamed_by, name_for, renamed_table}
use Rattle.mig_pvtables.proofs.BlankSays.{low_says}
use Rattle.mig_pvtables.proofs.Moduli.{longs_modulo, long_of_each}
use Rattle.mig_pvtables.proofs.Renamed.{renamed_long, by_frames}
use Rattle.mig_pvtables.proofs.RenameSteps.{blanked_zero, blanked_stays}

-- ---- one number of a table, of which the low 8 bytes are written

with_low : (e m : ℕ) → with_frame (e % 2 ^ 64) m % 2 ^ 64 ≡ with_frame e m % 2 ^ 64
with_low e m = omega arith

low_low : (e : ℕ) → e % 2 ^ 64 % 2 ^ 64 ≡ e % 2 ^ 64
low_low e = omega arith

-- named by its slot, or by its frame
module _ (f : ℕ → Option ℕ) (e : ℕ) where
  named : (o : Option ℕ) → with_name (e % 2 ^ 64) o % 2 ^ 64 ≡ with_name e o % 2 ^ 64
  named None = low_low e
  named (Some m) = with_low e m

  either_named : (x : Entry) → named_anew (option_and_then f (named_by x e)) (e % 2 ^ 64) x % 2 ^ 64 ≡ named_anew (name_for f x) e x % 2 ^ 64
  either_named Blank = low_low e
  either_named NotPresent = low_low e
  either_named Superpage = low_low e
  either_named (Frame n) = named (f n)

-- ---- a table

module _ (frames : HostFrames) (level : ℕ) (page : List ℕ) where
  abbrev names : ℕ → Option ℕ
  names = names_in frames (Some (level, page))

  abbrev sent : List ℕ
  sent = renamed_by names level (blanked_table level page)

  abbrev seen : List ℕ
  seen = renamed_table (pfn_in frames) level page

  module _ (slot : ℕ) (lt : slot < 512) where
    abbrev long : ℕ
    long = long_at page slot

    seen_long : long_at seen slot ≡ renamed_long (pfn_in frames) level slot long % 2 ^ 64
    seen_long = ap (λ l. long_at l slot) (by_frames (pfn_in frames) level page) ∙ long_of_each 512 (renamed_long (pfn_in frames) level) page slot lt

    sent_long : long_at sent slot ≡ renamed_entry names level slot (blanked_entry level slot long % 2 ^ 64) % 2 ^ 64
    sent_long = long_of_each 512 (renamed_entry names level) (blanked_table level page) slot lt ∙ ap (λ v. renamed_entry names level slot v % 2 ^ 64) (long_of_each 512 (blanked_entry level) page slot lt)

    same_name : renamed_entry names level slot (long % 2 ^ 64) % 2 ^ 64 ≡ renamed_long (pfn_in frames) level slot long % 2 ^ 64
    unfolding renamed_entry
    same_name = ap (λ y. named_anew (names slot) (long % 2 ^ 64) y % 2 ^ 64) (low_says level slot long) ∙ either_named (pfn_in frames) long (entry level page slot)

    blank_case : (b : Bool) → is_blank_slot level slot ≡ b → blanked_entry level slot (long_at sent slot) ≡ blanked_entry level slot (long_at seen slot)
    blank_case true is = blanked_zero level slot (long_at sent slot) is ∙ sym (blanked_zero level slot (long_at seen slot) is)
    blank_case false is =
        ap (blanked_entry level slot)
        (sent_long ∙ ap (λ v. renamed_entry names level slot (v % 2 ^ 64) % 2 ^ 64) (blanked_stays level slot long is) ∙ same_name ∙ sym seen_long)

  same_table : blanked_table level sent ≡ blanked_table level seen
  same_table = longs_modulo 512 _ _ (λ slot lt. ap (λ v. v % 2 ^ 64) (blank_case slot lt (is_blank_slot level slot) refl))

-- ---- a page

pub same_page : (frames : HostFrames) (place level : Option ℕ) (page : Option (List ℕ))
    → blanked_page place level (form_page (table_in level page) (names_in frames (table_in level page)) page) ≡ blanked_page place level (renamed_page (pfn_in frames) level page)
same_page frames (Some k) None page = refl
same_page frames (Some k) (Some level) None = refl
same_page frames (Some k) (Some level) (Some p) = refl
same_page frames None None page = refl
same_page frames None (Some level) None = refl
same_page frames None (Some level) (Some p) = ap (λ q. Some q) (same_table frames level p)
