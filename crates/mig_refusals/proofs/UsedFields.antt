-- The fields of vCPU contexts that are used, the frames that they say and the types that they take are those that judging takes.
use Rattle.mig_refusals.proofs.Common.{◌≡◌, ℕ, ◌+◌, ◌-◌, ◌*◌, ◌/◌, ◌<◌, ◌≤◌, List, Bool, true, false, cond, nat_le, nat_lt, refl, sym, ap, subst, arith, eqb-true, eqb-false, eq-eqb, ne_eqb, leb-true, leb-false, le-leb, ltb-true, lt-ltb, ◌==◌, Option, Some, both_ways, le64, PageType, Notab, L4Tab, L4Pinned, lt-leb, is_notab, is_root, fits_field, TakesType, gdt_ents, field_value, frame_of_field, is_marked, is_used, IsUsedField, inl, inr, ◌∙◌, cases_Bool, false_from_ne_true}
use Rattle.mig_refusals.specs.LibxcPv.IsUsedField.{start_info, descriptors, tables, user_tables}
use Rattle.mig_refusals.specs.LibxcPv.TakesType.{plain, root, pinned_root}

module _ (id : ℕ) (context : List ℕ) where
  -- a frame of the GDT, by the number of its field
  gdt_frame : (field : ℕ) → 0 < field → field ≤ 16 → (field - 1) * 512 < gdt_ents context → IsUsedField id context field (le64 context (8 * (603 + field)))
  gdt_frame field some most less =
      let i = field - 1 in
      let at : i + 1 ≡ field = omega arith in
      let place : 4832 + 8 * i ≡ 8 * (603 + field) = omega arith in
      subst (λ f. IsUsedField id context f (le64 context (8 * (603 + field)))) at
      (subst (λ p. IsUsedField id context (i + 1) (le64 context p)) place (descriptors i (omega arith) (omega (arith, less))))

  pub used_is : (field : ℕ) → field ≤ 18 → is_used id (gdt_ents context) field (field_value context field) ≡ true → IsUsedField id context field (frame_of_field field (field_value context field))
  used_is field most used = by (field == 0) (nat_le field 16) (field == 17) refl refl refl used
    where
      by : (a b c : Bool) → (field == 0) ≡ a → nat_le field 16 ≡ b → (field == 17) ≡ c
          → cond a (id == 0) (cond b (nat_lt ((field - 1) * 512) (gdt_ents context)) (cond c true (is_marked (le64 context (8 * cond a 77 (cond b (603 + field) (cond c 626 624))))))) ≡ true
          → IsUsedField id context field (cond b (le64 context (8 * cond a 77 (cond b (603 + field) (cond c 626 624)))) (le64 context (8 * cond a 77 (cond b (603 + field) (cond c 626 624))) / 4096))
      by true true c zero low control h = subst (λ f. IsUsedField id context f (le64 context 616)) (sym (eqb-true field 0 zero)) (start_info (eqb-true id 0 h))
      by true false c zero low control h = let none : field ≡ 0 = eqb-true field 0 zero in absurd (omega (arith, leb-false field 16 low))
      by false true c zero low control h = let some : field ≡ 0 → ⊥ = eqb-false field 0 zero in gdt_frame field (omega arith) (leb-true field 16 low) (ltb-true _ _ h)
      by false false true zero low control h = subst (λ f. IsUsedField id context f (le64 context 5008 / 4096)) (sym (eqb-true field 17 control)) tables
      by false false false zero low control h =
          let other : field ≡ 17 → ⊥ = eqb-false field 17 control in
          let last : 18 ≡ field = omega (arith, leb-false field 16 low) in
          subst (λ f. IsUsedField id context f (le64 context 4992 / 4096)) last (user_tables (eqb-true _ 1 h))

  -- a field that is used, as judging takes it
  pub record IsTaken (field frame : ℕ) : Type 0 where
    pub most : field ≤ 18
    pub used : is_used id (gdt_ents context) field (field_value context field) ≡ true
    pub frame_is : frame_of_field field (field_value context field) ≡ frame

  pub used_at : (field frame : ℕ) → IsUsedField id context field frame → IsTaken field frame
  used_at _ _ (start_info zero) = record { most = omega arith; used = eq-eqb id 0 zero; frame_is = refl }
  used_at _ _ (descriptors i few less) =
      let some : (i + 1 == 0) ≡ false = ne_eqb (i + 1) 0 (λ e. omega (arith, e)) in
      let low : nat_le (i + 1) 16 ≡ true = le-leb (i + 1) 16 (omega (arith, few)) in
      let place : 8 * (603 + (i + 1)) ≡ 4832 + 8 * i = omega arith in
      record {
        most = omega (arith, few);
        used = rw (some, low) (lt-ltb _ _ (omega (arith, less)));
        frame_is = rw (low, some) (ap (le64 context) place);
      }
  used_at _ _ tables = record { most = omega arith; used = refl; frame_is = refl }
  used_at _ _ (user_tables marked) = record { most = omega arith; used = eq-eqb _ 1 marked; frame_is = refl }

-- ---- the types of the frames

module _ (field : ℕ) where
  plain_of : (o : Option PageType) → field ≤ 16 → is_notab o ≡ true → TakesType field o
  plain_of (Some Notab) low h = plain low
  plain_of _ low h = cc

  root_of : (o : Option PageType) → 17 ≤ field → is_root o ≡ true → TakesType field o
  root_of (Some L4Tab) high h = root high
  root_of (Some L4Pinned) high h = pinned_root high
  root_of _ high h = cc

  fits_takes : (o : Option PageType) → fits_field field o ≡ true → TakesType field o
  fits_takes o h = elim (cases_Bool (nat_le field 16)) [
    | inl low ↦ plain_of o (leb-true field 16 low) (sym (ap (λ b. cond b (is_notab o) (is_root o)) low) ∙ h)
    | inr high ↦ root_of o (leb-false field 16 high) (sym (ap (λ b. cond b (is_notab o) (is_root o)) high) ∙ h)
  ]

  takes_fits : (o : Option PageType) → TakesType field o → fits_field field o ≡ true
  takes_fits _ (plain low) = let is : nat_le field 16 ≡ true = le-leb field 16 low in rw is refl
  takes_fits _ (root high) = let is : nat_le field 16 ≡ false = lt-leb field 16 high in rw is refl
  takes_fits _ (pinned_root high) = let is : nat_le field 16 ≡ false = lt-leb field 16 high in rw is refl

  -- a type that the field doesn't take, as judging finds it
  pub misfit_is : (o : Option PageType) → fits_field field o ≡ false → TakesType field o → ⊥
  misfit_is o h takes = both_ways (fits_field field o) h (takes_fits o takes)

  pub is_misfit : (o : Option PageType) → (TakesType field o → ⊥) → fits_field field o ≡ false
  is_misfit o never = false_from_ne_true (fits_field field o) (λ is. never (fits_takes o is))
