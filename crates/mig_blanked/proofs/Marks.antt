-- A walk along the list of the P2M frames, which marks the frames that it names.
use Rattle.mig_pvtables.proofs.Common.{◌≡◌, ℕ, ◌+◌, ◌/◌, ◌<◌, Bool, true, false, cond, List, length, Option, Some, None, IsSome, is_some, refl, sym, ap, subst, ◌∙◌, inl, inr, arith, cases_eq, eqb-true, eq-eqb, lt-ltb, ltb-true, ltb-false, false_from_ne_true, ◌==◌, nat_lt, FrameMap, PartMap, p2m_key, long_at, listed, listed_in, place_of}
use Rattle.mig_bytes.proofs.NumberMaps.{inserted, inserted_other}
use Rattle.mig_pagestore_index.specs.Indexed.{ValueMap}
use Rattle.mig_pvtables.specs.P2mFrames.{place_in}
use Rattle.mig_pvtables.proofs.Searches.{alike_false, find_in_range, none_of}
use Rattle.mig_blanked.specs.Behind.{MarkListed}
use Rattle.std.specs.FinMap as maps
use Rattle.std.specs.Ordering.{nat_cmp}

-- the marks of a walk up to here: each is of a PFN that is listed, and each frame that was named has one
pub record MarkedTo (frames : FrameMap) (parts : PartMap) (index : ℕ) (marks : ValueMap) : Type 0 where
  pub only : (pfn : ℕ) → IsSome (maps.get marks pfn) → (k : ℕ) × (listed parts k ≡ Some pfn)
  pub each : (k pfn : ℕ) → k < index → listed parts k ≡ Some pfn → IsSome (maps.get frames pfn) → IsSome (maps.get marks pfn)

pub none_marked : (frames : FrameMap) (parts : PartMap) (marks : ValueMap) → marks ≡ maps.empty → MarkedTo frames parts 0 marks
none_marked frames parts marks none = record {
  only = λ pfn has. let no : false ≡ true = sym (ap (λ (m : ValueMap). is_some (maps.get m pfn)) none ∙ ap is_some (maps.get-empty nat_cmp pfn)) ∙ has in cc;
  each = λ k pfn lt is there. absurd (omega (arith, lt));
}

module _ (frames : FrameMap) (parts : PartMap) (index : ℕ) (marks : ValueMap) (done : MarkedTo frames parts index marks) (n : ℕ) (named : listed parts index ≡ Some n) where
  -- a place up to here is below it, or is this one
  here_or_below : (k pfn : ℕ) → k < index + 1 → listed parts k ≡ Some pfn → (pfn ≡ n → ⊥) → k < index
  here_or_below k pfn lt is ne = elim (cases_eq k index) [
    | inl same ↦ absurd (ne (let both : Some pfn ≡ Some n = sym is ∙ ap (listed parts) same ∙ named in let e : pfn ≡ n = cc in e))
    | inr other ↦ omega (arith, lt, other)
  ]

  with_mark : MarkedTo frames parts (index + 1) (maps.insert marks n 1)
  with_mark = record {
    only = λ pfn has. elim (cases_eq pfn n) [
      | inl same ↦ (index, named ∙ ap Some (sym same))
      | inr ne ↦ done.only pfn (sym (ap is_some (inserted_other marks n pfn 1 ne)) ∙ has)
    ];
    each = λ k pfn lt is there. elim (cases_eq pfn n) [
      | inl same ↦ ap is_some (inserted marks n pfn 1 same)
      | inr ne ↦ ap is_some (inserted_other marks n pfn 1 ne) ∙ done.each k pfn (here_or_below k pfn lt is ne) is there
    ];
  }

  without_mark : is_some (maps.get frames n) ≡ false → MarkedTo frames parts (index + 1) marks
  without_mark absent = record {
    only = done.only;
    each = λ k pfn lt is there. elim (cases_eq pfn n) [
      | inl same ↦ let no : false ≡ true = sym absent ∙ ap (λ q. is_some (maps.get frames q)) (sym same) ∙ there in cc
      | inr ne ↦ done.each k pfn (here_or_below k pfn lt is ne) is there
    ];
  }

  pub next_marked : (new : ValueMap) → new ≡ cond (is_some (maps.get frames n)) (maps.insert marks n 1) marks → MarkedTo frames parts (index + 1) new
  next_marked new is = subst (MarkedTo frames parts (index + 1)) (sym is) (by (is_some (maps.get frames n)) refl)
    where
      by : (b : Bool) → is_some (maps.get frames n) ≡ b → MarkedTo frames parts (index + 1) (cond b (maps.insert marks n 1) marks)
      by true there = with_mark
      by false absent = without_mark absent

-- ---- the end of the list

-- a PFN that has no place in a list isn't listed, and the other way round
never_listed : (o : Option (List ℕ)) (pfn : ℕ) → is_some (place_in o pfn) ≡ false → (k : ℕ) → listed_in o k ≡ Some pfn → ⊥
unfolding place_in
never_listed None pfn none k is = cc
never_listed (Some bytes) pfn none k is =
    let fails = (find_in_range (λ j. long_at bytes j == pfn) (length bytes / 8)).0 (none_of _ none) in
    by (nat_lt k (length bytes / 8)) refl is fails
  where
    by : (b : Bool) → nat_lt k (length bytes / 8) ≡ b → cond b (Some (long_at bytes k)) None ≡ Some pfn → ((j : ℕ) → j < length bytes / 8 → (long_at bytes j == pfn) ≡ false) → ⊥
    by false at is fails = cc
    by true at is fails =
        let same : long_at bytes k ≡ pfn = cc in
        let no : false ≡ true = sym (fails k (below k (length bytes / 8) at)) ∙ eq-eqb (long_at bytes k) pfn same in cc
      where
        below : (i n : ℕ) → nat_lt i n ≡ true → i < n
        below i n is = ltb-true i n is

place_there : (o : Option (List ℕ)) (pfn : ℕ) → ((k : ℕ) → listed_in o k ≡ Some pfn → ⊥) → is_some (place_in o pfn) ≡ false
unfolding place_in
place_there None pfn never = refl
place_there (Some bytes) pfn never =
    ap is_some ((find_in_range (λ j. long_at bytes j == pfn) (length bytes / 8)).1 (λ k lt.
    false_from_ne_true (long_at bytes k == pfn) (λ passes. never k (ap (λ b. cond b (Some (long_at bytes k)) None) (lt-ltb k (length bytes / 8) lt) ∙ ap Some (eqb-true (long_at bytes k) pfn passes)))))

-- what is listed at a place is listed before the end
before_end : (o : Option (List ℕ)) (index k pfn : ℕ) → listed_in o index ≡ None → listed_in o k ≡ Some pfn → k < index
before_end None index k pfn end is = cc
before_end (Some bytes) index k pfn end is = by (nat_lt k (length bytes / 8)) (nat_lt index (length bytes / 8)) refl refl end is
  where
    by : (a b : Bool) → nat_lt k (length bytes / 8) ≡ a → nat_lt index (length bytes / 8) ≡ b → cond b (Some (long_at bytes index)) None ≡ None → cond a (Some (long_at bytes k)) None ≡ Some pfn → k < index
    by false b at past end is = cc
    by true true at past end is = cc
    by true false at past end is = omega (arith, ltb-true k (length bytes / 8) at, ltb-false index (length bytes / 8) past)

pub all_marked : (frames : FrameMap) (parts : PartMap) (index : ℕ) (marks : ValueMap) → MarkedTo frames parts index marks → listed parts index ≡ None → MarkListed frames parts marks
all_marked frames parts index marks done end pfn there = alike_false (is_some (maps.get marks pfn)) (is_some (place_of parts pfn))
    (λ unmarked. place_there (maps.get parts p2m_key) pfn (λ k is.
    let no : false ≡ true = sym unmarked ∙ done.each k pfn (before_end (maps.get parts p2m_key) index k pfn end is) is there in cc))
    (λ unplaced. false_from_ne_true (is_some (maps.get marks pfn)) (λ has.
    let (k, is) = done.only pfn has in never_listed (maps.get parts p2m_key) pfn unplaced k is))
