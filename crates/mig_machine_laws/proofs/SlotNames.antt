-- What the slots of a table name.
use Rattle.std.proofs.Common.{◌≡◌, ◌≤◌, ◌<◌, ◌⊎◌, ℕ, ◌/◌, ◌%◌, ◌^◌, Bool, true, false, cond, not, List, Some, None, nat_le, refl, ap, ◌∙◌, arith}
use Rattle.mig_guest.specs.declared.table.Entry.TheVariants.{Blank, NotPresent, Superpage, Frame}
use Rattle.mig_guest.specs.Footprints.{named_by, table_in, names_in}
use Rattle.mig_guest.specs.Tables.{entry_of, is_blank_slot, is_large, is_present, named_frame}
use Rattle.mig_machine_laws.proofs.Common.{HostFrame, HostFrames, footprint_of, level_of, long_at, pfn_in, ◌==◌, ◌&&◌, option_and_then, eq-eqb}

-- what an entry names, by whether its slot is blank and whether it is present
by_tests : (blank present large : Bool) (e : ℕ) → named_by (cond blank Blank (cond (not present) NotPresent (cond large Superpage (Frame (named_frame e))))) e ≡ cond blank None (cond present (Some (named_frame e)) None)
by_tests true present large e = refl
by_tests false false large e = refl
by_tests false true true e = refl
by_tests false true false e = refl

pub named_is : (level slot e : ℕ) → named_by (entry_of level slot e) e ≡ cond (is_blank_slot level slot) None (cond (is_present e) (Some (named_frame e)) None)
unfolding entry_of
named_is level slot e = by_tests (is_blank_slot level slot) (is_present e) (nat_le 2 level && is_large e) e

-- the same of a slot of a frame that is a table
module _ (frames : HostFrames) (frame : HostFrame) (level slot : ℕ) (page : List ℕ) (table : level_of frame.type ≡ Some level) (has : frame.page ≡ Some page) where
  abbrev e : ℕ
  e = long_at page slot

  named_by_tests : (footprint_of frames frame).names slot ≡ option_and_then (pfn_in frames) (cond (is_blank_slot level slot) None (cond (is_present e) (Some (named_frame e)) None))
  named_by_tests =
      ap (λ o. names_in frames (table_in o frame.page) slot) table
      ∙ ap (λ o. names_in frames (table_in (Some level) o) slot) has
      ∙ ap (option_and_then (pfn_in frames)) (named_is level slot e)

  named_at : (blank present : Bool) → is_blank_slot level slot ≡ blank → is_present e ≡ present → (footprint_of frames frame).names slot ≡ option_and_then (pfn_in frames) (cond blank None (cond present (Some (named_frame e)) None))
  named_at blank present b p =
      named_by_tests
      ∙ ap (λ t. option_and_then (pfn_in frames) (cond t None (cond (is_present e) (Some (named_frame e)) None))) b
      ∙ ap (λ t. option_and_then (pfn_in frames) (cond blank None (cond t (Some (named_frame e)) None))) p

pub not_blank : (level slot : ℕ) → (level ≡ 4 → (slot < 256) ⊎ (271 < slot)) → is_blank_slot level slot ≡ false
not_blank level slot outside = grind (arith, outside)

pub present : (frames : HostFrames) (frame : HostFrame) (level slot : ℕ) (page : List ℕ) → level_of frame.type ≡ Some level → frame.page ≡ Some page
    → (level ≡ 4 → (slot < 256) ⊎ (271 < slot)) → long_at page slot % 2 ≡ 1 → (footprint_of frames frame).names slot ≡ pfn_in frames (long_at page slot / 2 ^ 12 % 2 ^ 40)
present frames frame level slot page table has outside odd = named_at frames frame level slot page table has false true (not_blank level slot outside) (eq-eqb (long_at page slot % 2) 1 odd)

no_name : (frames : HostFrames) (blank : Bool) (e : ℕ) → option_and_then (pfn_in frames) (cond blank None (cond false (Some (named_frame e)) None)) ≡ None
no_name frames true e = refl
no_name frames false e = refl

pub absent : (frames : HostFrames) (frame : HostFrame) (level slot : ℕ) (page : List ℕ) → level_of frame.type ≡ Some level → frame.page ≡ Some page
    → long_at page slot % 2 ≡ 0 → (footprint_of frames frame).names slot ≡ None
absent frames frame level slot page table has even =
    named_at frames frame level slot page table has (is_blank_slot level slot) false refl (ap (λ n. n == 1) even) ∙ no_name frames (is_blank_slot level slot) (long_at page slot)

pub blank_there : (slot : ℕ) → 256 ≤ slot → slot ≤ 271 → is_blank_slot 4 slot ≡ true
blank_there slot low high = grind (arith, low, high)

pub blank : (frames : HostFrames) (frame : HostFrame) (slot : ℕ) (page : List ℕ) → level_of frame.type ≡ Some 4 → frame.page ≡ Some page → 256 ≤ slot → slot ≤ 271 → (footprint_of frames frame).names slot ≡ None
blank frames frame slot page table has low high = named_at frames frame 4 slot page table has true (is_present (long_at page slot)) (blank_there slot low high) refl
