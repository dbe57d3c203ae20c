-- Machine frames that tables name.
use Rattle.std.specs.FinMap as maps
use Rattle.std.specs.List.{list_any, range_with_len}
use Rattle.std.proofs.lemmas.List.Folds.{list_any_at}
use Rattle.std.proofs.lemmas.List.FromFn.{length-range_with_len, get_or-range_with_len}
use Rattle.mig_guest.specs.Footprints.{machine_named, table_in}
use Rattle.mig_guest.specs.Tables.{is_blank_slot, is_present, named_frame}
use Rattle.mig_host.proofs.InOrder.{no_entry, some_entry}
use Rattle.mig_machine_script.specs.HostLines.{is_machine, names_machine, table_names}
use Rattle.mig_machine_laws.proofs.Common.{HostFrame, HostFrames, level_of, long_at, ◌≡◌, ◌≤◌, ◌<◌, ◌⊎◌, ℕ, zero, suc, ◌+◌, Bool, true, false, cond, not, List, Option, Some, None, inl, inr, refl, ap, sym, ◌∙◌, arith, ◌==◌, ◌&&◌, nat_cmp_total, nat_cmp-IsAntisymmetric, and_from, and_parts, both_ways, cases_lt, eq-eqb, eqb-true, false_from_ne_true, not-true, not_from_false, or_from}
use Rattle.mig_machine_laws.specs.ScriptWords.{NamesMachineFrame}
use Rattle.mig_machine_laws.proofs.SlotNames.{blank_there, named_is, not_blank}

module _ (p : ℕ → Bool) where
  some_slot : (n k : ℕ) → k < n → p k ≡ true → list_any p (range_with_len 0 n) ≡ true
  some_slot n k less is =
      let long = length-range_with_len 0 n in
      let here : 0 + k ≡ k = omega arith in
      list_any_at p (range_with_len 0 n) k 0 (omega (arith, long, less)) (ap p (get_or-range_with_len 0 n k 0 less ∙ here) ∙ is)

  no_slot : (a n : ℕ) → ((k : ℕ) → a ≤ k → k < a + n → p k ≡ false) → list_any p (range_with_len a n) ≡ false
  no_slot a zero none = refl
  no_slot a (suc n) none =
      or_from (p a) (list_any p (range_with_len (a + 1) n)) (none a (omega arith) (omega arith)) (no_slot (a + 1) n (λ k low high. none k (omega (arith, low)) (omega (arith, high))))

-- what a slot says, by what stands in it
by_parts : (mfn n : ℕ) (blank present : Bool) → is_machine mfn (cond blank None (cond present (Some n) None)) ≡ (not blank && (present && (n == mfn)))
by_parts mfn n true present = refl
by_parts mfn n false true = refl
by_parts mfn n false false = refl

slot_says : (mfn level slot : ℕ) (page : List ℕ) → is_machine mfn (machine_named level page slot) ≡ (not (is_blank_slot level slot) && (is_present (long_at page slot) && (named_frame (long_at page slot) == mfn)))
slot_says mfn level slot page = ap (is_machine mfn) (named_is level slot (long_at page slot)) ∙ by_parts mfn (named_frame (long_at page slot)) (is_blank_slot level slot) (is_present (long_at page slot))

outside : (level slot : ℕ) → is_blank_slot level slot ≡ false → level ≡ 4 → (slot < 256) ⊎ (271 < slot)
outside level slot is four = elim (cases_lt slot 256) [
  | inl low ↦ inl low
  | inr high ↦ elim (cases_lt 271 slot) [ inl above ↦ inr above | inr below ↦ absurd (both_ways _ is (ap (λ l. is_blank_slot l slot) four ∙ blank_there slot high below)) ]
]

abbrev test : ℕ → ℕ × HostFrame → Bool
test mfn e = table_names mfn (table_in (level_of e.1.type) e.1.page)

slot_named : (mfn level slot : ℕ) (page : List ℕ) → slot < 512 → is_machine mfn (machine_named level page slot) ≡ true → table_names mfn (Some (level, page)) ≡ true
unfolding table_names
slot_named mfn level slot page less is = some_slot (λ k. is_machine mfn (machine_named level page k)) 512 slot less is

pub named_true : (frames : HostFrames) (mfn : ℕ) → NamesMachineFrame frames mfn → names_machine frames mfn ≡ true
named_true frames mfn n =
    some_entry nat_cmp_total nat_cmp-IsAntisymmetric (test mfn) frames n.pfn n.frame n.there
    (ap (λ o. table_names mfn (table_in o n.frame.page)) n.table
    ∙ ap (λ o. table_names mfn (table_in (Some n.level) o)) n.has
    ∙ slot_named mfn n.level n.slot n.page n.inside
    (slot_says mfn n.level n.slot n.page ∙ and_from _ _ (not_from_false _ (not_blank n.level n.slot n.outside_blank)) (and_from _ _ (eq-eqb _ _ n.present) (eq-eqb _ _ n.names))))

module _ (frames : HostFrames) (mfn : ℕ) (none : NamesMachineFrame frames mfn → ⊥) (pfn : ℕ) (frame : HostFrame) (there : maps.get frames pfn ≡ Some frame) where
  slot_silent : (level slot : ℕ) (page : List ℕ) → level_of frame.type ≡ Some level → frame.page ≡ Some page → slot < 512 → is_machine mfn (machine_named level page slot) ≡ false
  slot_silent level slot page table has inside = false_from_ne_true _ (λ is. let parts = and_parts _ _ (sym (slot_says mfn level slot page) ∙ is) in
      let says = and_parts _ _ parts.1 in
      none (record {
        pfn = pfn;
        frame = frame;
        there = there;
        level = level;
        table = table;
        page = page;
        has = has;
        slot = slot;
        inside = inside;
        outside_blank = outside level slot (not-true _ parts.0);
        present = eqb-true _ _ says.0;
        names = eqb-true _ _ says.1;
      }))

  frame_silent : (level : Option ℕ) (page : Option (List ℕ)) → level_of frame.type ≡ level → frame.page ≡ page → table_names mfn (table_in level page) ≡ false
  unfolding table_names
  frame_silent None page table has = refl
  frame_silent (Some level) None table has = refl
  frame_silent (Some level) (Some page) table has = no_slot (λ k. is_machine mfn (machine_named level page k)) 0 512 (λ k low high. slot_silent level k page table has (omega (arith, high)))

pub named_false : (frames : HostFrames) (mfn : ℕ) → (NamesMachineFrame frames mfn → ⊥) → names_machine frames mfn ≡ false
named_false frames mfn none =
    no_entry nat_cmp_total nat_cmp-IsAntisymmetric (test mfn) frames (λ pfn frame there. frame_silent frames mfn none pfn frame there (level_of frame.type) frame.page refl refl)
