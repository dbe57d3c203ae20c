-- A walk along the list of the P2M frames, with a mark for each PFN that was listed.
use Rattle.mig_pvtables.proofs.Common.{◌≡◌, ℕ, ◌+◌, ◌-◌, ◌*◌, ◌/◌, ◌<◌, ◌≤◌, Bool, true, false, cond, not, List, length, Option, Some, None, IsSome, is_some, refl, sym, ap, subst, inl, inr, ◌∙◌, arith, ◌==◌, ◌&&◌, ◌||◌, range_with_len, list_any, option_map, nat_cmp, eq_by_cmp, nat_cmp_total, nat_cmp-IsAntisymmetric, ltb-false, nat_lt, cases_eq, eq-eqb, ne_eqb, or_parts, get-insert, tied, false_from_ne_true, PageType, FrameOf, FrameMap, long_at, is_this, is_needed, is_notab, is_misplaced, find_misplaced, type_at, count_in, listed_in, list_any_at, length-range_with_len, get_or-range_with_len}
use Rattle.mig_pagestore_index.specs.Indexed.{ValueMap}
use Rattle.mig_pvtables.specs.Faults.{slots}
use Rattle.mig_pvtables.specs.P2mMarks.{clashes}
use Rattle.mig_pvtables.proofs.Only.{alike}
use Rattle.mig_pvtables.proofs.PvGuests.{counted, not_needed}
use Rattle.mig_pvtables.proofs.Searches.{any_in_range, any_more, cond_none, find_in_range}
use Rattle.mig_pvtables.proofs.Slots.{first_in_range}
use Rattle.std.specs.FinMap as maps

-- ---- a range

module _ (types : ℕ → Option PageType) (k : ℕ) where
  pub none_has : ((slot : ℕ) → slot < 512 → is_some (types (512 * k + slot)) ≡ false) → is_needed types k ≡ false
  unfolding slots
  none_has none = (any_in_range (λ slot. is_some (types (512 * k + slot))) 512).1 none

  pub one_has : (slot : ℕ) → slot < 512 → is_some (types (512 * k + slot)) ≡ true → is_needed types k ≡ true
  unfolding slots
  one_has slot lt some =
      list_any_at (λ slot. is_some (types (512 * k + slot))) (range_with_len 0 512) slot 0 (omega (arith, lt, length-range_with_len 0 512))
      (ap (λ s. is_some (types (512 * k + s))) (get_or-range_with_len 0 512 slot 0 lt) ∙ ap (λ q. is_some (types q)) (omega arith) ∙ some)

module _ (frames : FrameMap) (k : ℕ) where
  pub none_needed : ((q : ℕ) → 512 * k ≤ q → maps.get frames q ≡ None) → is_needed (type_at frames) k ≡ false
  none_needed none = (not_needed frames k).1 (λ s lt. none (512 * k + s) (omega arith))

  pub later_needed : (pfn : ℕ) → ((q : ℕ) → 512 * k ≤ q → q < pfn → maps.get frames q ≡ None) → 512 ≤ pfn - 512 * k → is_needed (type_at frames) k ≡ false
  later_needed pfn none far = (not_needed frames k).1 (λ s lt. none (512 * k + s) (omega arith) (omega (arith, far, lt)))

  pub some_needed : (pfn : ℕ) (frame : FrameOf) → maps.get frames pfn ≡ Some frame → 512 * k ≤ pfn → pfn - 512 * k < 512 → is_needed (type_at frames) k ≡ true
  some_needed pfn frame there le near =
      one_has (type_at frames) k (pfn - 512 * k) near
      (ap (λ q. is_some (type_at frames q)) (omega (arith, le)) ∙ ap (λ (o : Option FrameOf). is_some (option_map (λ (f : FrameOf). f.type) o)) there)

-- ---- marks

again : (mark : Option Bool) (h b : Bool) → clashes mark h ≡ false → (clashes mark b || (true && (h || b))) ≡ (h || b)
again None h b fine = refl
again (Some true) h b fine = let no : true ≡ false = fine in cc
again (Some false) true b fine = let no : true ≡ false = fine in cc
again (Some false) false true fine = refl
again (Some false) false false fine = refl

or_nothing : (a b : Bool) → (a || (false && b)) ≡ a
or_nothing true b = refl
or_nothing false b = refl

module _ (types : ℕ → Option PageType) (list : Option (List ℕ)) where
  -- the PFN is listed below place k, and one of the ranges has a frame
  abbrev pub is_again : ℕ → ℕ → Bool → Bool
  is_again k pfn needed = list_any (λ j. is_this pfn (listed_in list j) && (is_needed types j || needed)) (range_with_len 0 k)

  -- the marks at place k
  pub record AreMarked (k : ℕ) (marks : ℕ → Option Bool) : Type 0 where
    pub marked : (pfn : ℕ) (needed : Bool) → clashes (marks pfn) needed ≡ is_again k pfn needed

  -- nothing is wrong below place k
  pub record IsFineTo (k : ℕ) : Type 0 where
    pub fine : (j : ℕ) → j < k → is_misplaced types list j (listed_in list j) ≡ false

  pub nothing_marked : {marks : ℕ → Option Bool} → ((pfn : ℕ) → marks pfn ≡ None) → AreMarked 0 marks
  nothing_marked none = record { marked = λ pfn needed. ap (λ m. clashes m needed) (none pfn) }

  pub nothing_ill : IsFineTo 0
  nothing_ill = record { fine = λ j lt. absurd (omega (arith, lt)) }

  pub none_ill : {k : ℕ} → IsFineTo k → listed_in list k ≡ None → None ≡ find_misplaced types list
  none_ill {k = k} is end = sym ((find_in_range (λ n. is_misplaced types list n (listed_in list n)) (count_in list)).1 (λ j lt. is.fine j (omega (arith, lt, all_counted list end))))
    where
      all_counted : (o : Option (List ℕ)) → listed_in o k ≡ None → count_in o ≤ k
      all_counted None is = omega arith
      all_counted (Some bytes) is = ltb-false k (length bytes / 8) (cond_none (nat_lt k (length bytes / 8)) (long_at bytes k) is)

  -- what is wrong at place k, where this PFN is listed
  module _ {k : ℕ} {marks : ℕ → Option Bool} (are : AreMarked k marks) {pfn : ℕ} (at : listed_in list k ≡ Some pfn)
      {type : Option PageType} {mark : Option Bool} {needed ill : Bool} (is : type ≡ types pfn) (kept : mark ≡ marks pfn) (has : needed ≡ is_needed types k) (test : ill ≡ (not (is_notab type) || clashes mark needed)) where
    judged : ill ≡ is_misplaced types list k (listed_in list k)
    judged = test ∙ (λ i. not (is_notab (is i)) || clashes (kept i) (has i)) ∙ ap (λ b. not (is_notab (types pfn)) || b) (are.marked pfn (is_needed types k)) ∙ ap (is_misplaced types list k) (sym at)

    pub found_ill : IsFineTo k → ill ≡ true → Some k ≡ find_misplaced types list
    found_ill before bad =
        sym (first_in_range (λ n. is_misplaced types list n (listed_in list n)) 0 (count_in list) k (omega arith) (omega (arith, counted list k pfn at)) (sym judged ∙ bad) (λ j _ under. before.fine j under))

    pub more_fine : IsFineTo k → ill ≡ false → IsFineTo (k + 1)
    more_fine before good = record {
      fine = λ j lt. elim (cases_eq j k) [
        | inl e ↦ ap (λ n. is_misplaced types list n (listed_in list n)) e ∙ sym judged ∙ good
        | inr ne ↦ before.fine j (omega (arith, lt, ne))
      ];
    }

    -- it has a type, so that it has a place among the marks
    pub is_typed : ill ≡ false → IsSome type
    is_typed good = by_case type (sym test ∙ good)
      where
        by_case : (t : Option PageType) → (not (is_notab t) || clashes mark needed) ≡ false → IsSome t
        by_case None e = let no : true ≡ false = e in cc
        by_case (Some t) e = refl

    pub more_marked : {new : ℕ → Option Bool} → ill ≡ false → new pfn ≡ Some needed → ((q : ℕ) → (q ≡ pfn → ⊥) → new q ≡ marks q) → AreMarked (k + 1) new
    more_marked {new = new} good here others = record { marked = λ q b. by_case q b ∙ sym (longer q b) }
      where
        fresh : clashes (marks pfn) (is_needed types k) ≡ false
        fresh = sym (λ i. clashes (kept i) (has i)) ∙ (or_parts (not (is_notab type)) (clashes mark needed) (sym test ∙ good)).1

        longer : (q : ℕ) (b : Bool) → is_again (k + 1) q b ≡ (clashes (marks q) b || ((pfn == q) && (is_needed types k || b)))
        longer q b =
            any_more (λ j. is_this q (listed_in list j) && (is_needed types j || b)) k
            ∙ ap (λ a. a || (is_this q (listed_in list k) && (is_needed types k || b))) (sym (are.marked q b))
            ∙ ap (λ o. clashes (marks q) b || (is_this q o && (is_needed types k || b))) at

        by_case : (q : ℕ) (b : Bool) → clashes (new q) b ≡ (clashes (marks q) b || ((pfn == q) && (is_needed types k || b)))
        by_case q b = elim (cases_eq q pfn) [
          | inl e ↦ subst (λ n. clashes (new n) b ≡ (clashes (marks n) b || ((pfn == n) && (is_needed types k || b)))) (sym e)
              (ap (λ m. clashes m b) here ∙ ap (λ h. h || b) has
              ∙ sym (ap (λ t. clashes (marks pfn) b || (t && (is_needed types k || b))) (eq-eqb pfn pfn refl) ∙ again (marks pfn) (is_needed types k) b fresh))
          | inr ne ↦ ap (λ m. clashes m b) (others q ne)
              ∙ sym (ap (λ t. clashes (marks q) b || (t && (is_needed types k || b))) (ne_eqb pfn q (λ e. ne (sym e))) ∙ or_nothing (clashes (marks q) b) (is_needed types k || b))
        ]

-- ---- marks in an index, as 1 and 2

abbrev pub marks_in : ValueMap → ℕ → Option Bool
marks_in values pfn = option_map (λ v. v == 2) (maps.get values pfn)

module _ (values : ValueMap) (pfn v : ℕ) {new : ValueMap} (put : new ≡ maps.insert values pfn v) where
  got : (q : ℕ) → marks_in new q ≡ option_map (λ v. v == 2) (cond (eq_by_cmp nat_cmp q pfn) (Some v) (maps.get values q))
  got q = ap (λ m. marks_in m q) put ∙ ap (option_map (λ v. v == 2)) (get-insert nat_cmp_total values pfn v q)

  pub mark_here : {needed : Bool} → v ≡ cond needed 2 1 → marks_in new pfn ≡ Some needed
  mark_here {needed = needed} is = got pfn ∙ ap (λ b. option_map (λ v. v == 2) (cond b (Some v) (maps.get values pfn))) (alike nat_cmp_total nat_cmp-IsAntisymmetric pfn) ∙ ap (λ n. Some (n == 2)) is ∙ by_case needed
    where
      by_case : (b : Bool) → ◌≡◌ {A = Option Bool} (Some (cond b 2 1 == 2)) (Some b)
      by_case true = refl
      by_case false = refl

  pub mark_there : (q : ℕ) → (q ≡ pfn → ⊥) → marks_in new q ≡ marks_in values q
  mark_there q ne = got q ∙ ap (λ b. option_map (λ v. v == 2) (cond b (Some v) (maps.get values q))) (false_from_ne_true _ (λ t. ne (nat_cmp-IsAntisymmetric q pfn (tied _ t))))
