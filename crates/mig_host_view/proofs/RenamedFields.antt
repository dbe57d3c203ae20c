-- A field of a context that says another frame, and says the first one back.
use Rattle.mig_host_view.proofs.Common.{◌≡◌, ℕ, ◌+◌, ◌-◌, ◌*◌, ◌/◌, ◌%◌, ◌^◌, ◌<◌, Bool, true, false, cond, not, nat_le, nat_lt, ◌==◌, Option, Some, None, refl, sym, ap, subst, ◌∙◌, arith, eqb-true, eq-eqb, ne_eqb, field_at, frame_of_field, is_marked, is_used, GoesBack, field_of_frame, is_used_somewhere, field_named, value_renamed}
use Rattle.mig_pvtables.specs.VcpuContexts.{value_blanked, blanked_value}
use Rattle.mig_host_view.specs.RenamedContexts.{renamed_value}

-- ---- one field

-- a field says the frame that was written into it
pub frame_there : (field n : ℕ) → frame_of_field field (field_of_frame field n) ≡ n
frame_there field n = by_case (nat_le field 16) (field == 17)
  where
    by_case : (a b : Bool) → cond a (cond a n (cond b (n * 4096) (n * 4096 + 1))) (cond a n (cond b (n * 4096) (n * 4096 + 1)) / 4096) ≡ n
    by_case true b = refl
    by_case false true = omega arith
    by_case false false = omega arith

pub field_small : (field n : ℕ) → n < 2 ^ 40 → field_of_frame field n < 2 ^ 64
field_small field n small = by_case (nat_le field 16) (field == 17)
  where
    by_case : (a b : Bool) → cond a n (cond b (n * 4096) (n * 4096 + 1)) < 2 ^ 64
    by_case true b = omega (arith, small)
    by_case false true = omega (arith, small)
    by_case false false = omega (arith, small)

-- a number that says a frame in ctrlreg[1] is marked
one_marked : (n : ℕ) → is_marked (n * 4096 + 1) ≡ true
one_marked n = eq-eqb ((n * 4096 + 1) % 2) 1 (omega arith)

-- a field that is used in a stream is used in a host once a frame was written into it
used_stays : (id ents field v n : ℕ) → is_used id ents field v ≡ true → is_used_somewhere id ents field (field_of_frame field n) ≡ true
used_stays id ents field v n = by_case (field == 18) (field == 0) (nat_le field 16) (field == 17) (id == 0) (nat_lt ((field - 1) * 512) ents) (λ e. eqb-true field 18 e)
  where
    of_last : (field ≡ 18) → (field_of_frame field n == 0) ≡ false
    of_last e = subst (λ k. (field_of_frame k n == 0) ≡ false) (sym e) (ne_eqb (n * 4096 + 1) 0 (omega arith))

    by_case : (l z a b i g : Bool) → (l ≡ true → field ≡ 18) → cond z i (cond a g (cond b true (is_marked v))) ≡ true
        → cond l (not (field_of_frame field n == 0)) (cond z i (cond a g (cond b true (is_marked (cond a n (cond b (n * 4096) (n * 4096 + 1))))))) ≡ true
    by_case true z a b i g last is = ap not (of_last (last refl))
    by_case false true a b i g last is = is
    by_case false false true b i g last is = is
    by_case false false false true i g last is = refl
    by_case false false false false i g last is = one_marked n

-- what the blank form says of a field: ctrlreg[1] is 0 where no stream uses it
abbrev pub IsBlankField : ℕ → ℕ → Type 0
IsBlankField field v = nat_le field 16 ≡ false → (field == 17) ≡ false → is_marked v ≡ false → v ≡ 0

-- such a field that isn't used in a stream isn't used in a host
pub unused_stays : (id ents field v : ℕ) → IsBlankField field v → is_used id ents field v ≡ false → is_used_somewhere id ents field v ≡ false
unused_stays id ents field v blank is = by_case (field == 18) (λ e. eqb-true field 18 e)
  where
    last : (k : ℕ) → k ≡ 18 → IsBlankField k v → is_used id ents k v ≡ false → not (v == 0) ≡ false
    last k e = subst (λ k. IsBlankField k v → is_used id ents k v ≡ false → not (v == 0) ≡ false) (sym e) (λ blank is. ap not (eq-eqb v 0 (blank refl refl is)))

    by_case : (l : Bool) → (l ≡ true → field ≡ 18) → cond l (not (v == 0)) (is_used id ents field v) ≡ false
    by_case true eighteen = last field (eighteen refl) blank is
    by_case false eighteen = is

-- the blank form of a field that is used is what its frame makes of it
blanked_used : (id ents field v : ℕ) → is_used id ents field v ≡ true → value_blanked (Some field) (field_of_frame field (frame_of_field field v)) ≡ value_blanked (Some field) v
blanked_used id ents field v = by_case (field == 0) (nat_le field 16) (field == 17) (id == 0) (nat_lt ((field - 1) * 512) ents) (λ e. ap (λ n. nat_le n 16) (eqb-true field 0 e))
  where
    blanked : Bool → Bool → ℕ → ℕ
    blanked a b w = cond a w (cond b (w / 4096 * 4096) (cond (is_marked w) (w / 4096 * 4096 + 1) 0))

    by_case : (z a b i g : Bool) → (z ≡ true → a ≡ true) → cond z i (cond a g (cond b true (is_marked v))) ≡ true
        → blanked a b (cond a (cond a v (v / 4096)) (cond b (cond a v (v / 4096) * 4096) (cond a v (v / 4096) * 4096 + 1))) ≡ blanked a b v
    by_case z true b i g za is = refl
    by_case z false true i g za is = omega arith
    by_case true false false i g za is = let no : false ≡ true = za refl in cc
    by_case false false false i g za is =
        ap (λ t. cond t ((v / 4096 * 4096 + 1) / 4096 * 4096 + 1) 0) (one_marked (v / 4096))
        ∙ (let e : (v / 4096 * 4096 + 1) / 4096 * 4096 + 1 ≡ v / 4096 * 4096 + 1 = omega arith in e)
        ∙ sym (ap (λ t. cond t (v / 4096 * 4096 + 1) 0) is)

module _ (f back : ℕ → Option ℕ) (id ents : ℕ) where
  -- the frame of a field that is used goes back
  abbrev pub FieldGoesBack : ℕ → ℕ → Type 0
  FieldGoesBack field v = is_used id ents field v ≡ true → GoesBack f back (frame_of_field field v)

  -- a number that is renamed in a stream, and one renamed in a host
  abbrev pub first : Option ℕ → ℕ → ℕ
  first o v = value_renamed is_used f id ents o v

  abbrev then_back : Option ℕ → ℕ → ℕ
  then_back o v = value_renamed is_used_somewhere back id ents o v

  module _ (field v : ℕ) where
    pub unused : is_used id ents field v ≡ false → first (Some field) v ≡ v
    unused is = ap (λ b. cond b (field_named field v (f (frame_of_field field v))) v) is

    pub used : (m : ℕ) → is_used id ents field v ≡ true → f (frame_of_field field v) ≡ Some m → first (Some field) v ≡ field_of_frame field m
    used m is has = ap (λ b. cond b (field_named field v (f (frame_of_field field v))) v) is ∙ ap (field_named field v) has

    used_back : (m n : ℕ) → is_used_somewhere id ents field (field_of_frame field m) ≡ true → back m ≡ Some n → then_back (Some field) (field_of_frame field m) ≡ field_of_frame field n
    used_back m n is has =
        ap (λ b. cond b (field_named field (field_of_frame field m) (back (frame_of_field field (field_of_frame field m)))) (field_of_frame field m)) is
        ∙ ap (λ k. field_named field (field_of_frame field m) (back k)) (frame_there field m)
        ∙ ap (field_named field (field_of_frame field m)) has

    again_used : is_used id ents field v ≡ true → FieldGoesBack field v → then_back (Some field) (first (Some field) v) ≡ field_of_frame field (frame_of_field field v)
    again_used is goes =
        let g = goes is in
        ap (then_back (Some field)) (used g.name is g.there) ∙ used_back g.name (frame_of_field field v) (used_stays id ents field v g.name is) g.again

    again_unused : is_used id ents field v ≡ false → IsBlankField field v → then_back (Some field) (first (Some field) v) ≡ v
    again_unused is blank = ap (then_back (Some field)) (unused is) ∙ ap (λ b. cond b (field_named field v (back (frame_of_field field v))) v) (unused_stays id ents field v blank is)

    again_small : v < 2 ^ 64 → field_of_frame field (frame_of_field field v) < 2 ^ 64
    again_small fits = by_case (nat_le field 16) (field == 17)
      where
        by_case : (a b : Bool) → cond a (cond a v (v / 4096)) (cond b (cond a v (v / 4096) * 4096) (cond a v (v / 4096) * 4096 + 1)) < 2 ^ 64
        by_case true b = fits
        by_case false true = omega (arith, fits)
        by_case false false = omega (arith, fits)

  -- a number whose frame goes back is one of 8 bytes once it is renamed, and once it is renamed back, where ctrlreg[1] is 0
  -- where it isn't used; then it has the blank form that it had
  record IsBack (o : Option ℕ) (v : ℕ) : Type 0 where
    size : then_back o (first o v) < 2 ^ 64
    blank : value_blanked o (then_back o (first o v)) ≡ value_blanked o v

  module _ (field v : ℕ) (goes : FieldGoesBack field v) (fits : v < 2 ^ 64) where
    small_case : (b : Bool) → is_used id ents field v ≡ b → first (Some field) v < 2 ^ 64
    small_case true is = let g = goes is in subst (λ w. w < 2 ^ 64) (sym (used field v g.name is g.there)) (field_small field g.name g.small)
    small_case false is = subst (λ w. w < 2 ^ 64) (sym (unused field v is)) fits

    back_case : (b : Bool) → is_used id ents field v ≡ b → IsBlankField field v → IsBack (Some field) v
    back_case true is blank =
        let again = again_used field v is goes in
        record { size = subst (λ w. w < 2 ^ 64) (sym again) (again_small field v fits); blank = ap (value_blanked (Some field)) again ∙ blanked_used id ents field v is }
    back_case false is blank =
        let again = again_unused field v is blank in
        record { size = subst (λ w. w < 2 ^ 64) (sym again) fits; blank = ap (value_blanked (Some field)) again }

  -- what is asked of the number at a place, where a field stands there
  abbrev pub PlaceGoesBack : Option ℕ → ℕ → Type 0
  PlaceGoesBack o v = (field : ℕ) → o ≡ Some field → FieldGoesBack field v

  abbrev pub IsBlankPlace : Option ℕ → ℕ → Type 0
  IsBlankPlace o v = (field : ℕ) → o ≡ Some field → IsBlankField field v

  place_small : (o : Option ℕ) (v : ℕ) → PlaceGoesBack o v → v < 2 ^ 64 → first o v < 2 ^ 64
  place_small None v goes fits = fits
  place_small (Some field) v goes fits = small_case field v (goes field refl) fits (is_used id ents field v) refl

  place_back : (o : Option ℕ) (v : ℕ) → PlaceGoesBack o v → IsBlankPlace o v → v < 2 ^ 64 → IsBack o v
  place_back None v goes blank fits = record { size = fits; blank = refl }
  place_back (Some field) v goes blank fits = back_case field v (goes field refl) fits (is_used id ents field v) refl (blank field refl)

  module _ (i v : ℕ) (goes : PlaceGoesBack (field_at i) v) (fits : v < 2 ^ 64) where
    pub value_small : renamed_value is_used f id ents i v < 2 ^ 64
    unfolding renamed_value
    value_small = place_small (field_at i) v goes fits

    pub value_back_small : IsBlankPlace (field_at i) v → renamed_value is_used_somewhere back id ents i (renamed_value is_used f id ents i v) < 2 ^ 64
    unfolding renamed_value
    value_back_small blank = (place_back (field_at i) v goes blank fits).size

    pub value_back : IsBlankPlace (field_at i) v → blanked_value i (renamed_value is_used_somewhere back id ents i (renamed_value is_used f id ents i v)) ≡ blanked_value i v
    unfolding renamed_value blanked_value
    value_back blank = (place_back (field_at i) v goes blank fits).blank
