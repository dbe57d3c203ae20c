-- The causes that stand in the head of an image's record.
use Rattle.mig_refusals.proofs.Common.{◌≡◌, ◌⊎◌, inl, inr, ℕ, ◌^◌, List, [], ◌∷◌, ◌++◌, length, Bool, true, false, nat_le, nat_lt, nat_eq, not, Option, Some, None, refl, sym, ap, subst, ◌∙◌, arith, leb-true, leb-false, ltb-true, eqb-true, le-leb, lt-leb, lt-ltb, false≢true, not-true, and_parts, and_from, not_from_false, or_left, or_right, or_cases, option_or, common_steps, first_fault, Cause, UnknownMandatory, OutOfOrder, BadLength, TooManyRecords, Unsupported, WrongKind, Kind, Pv, Hvm, type_allows, fault_of_long, Opening, Before, most_records, fault_of_number, HeadHas, Breaks, ◌&&◌, ◌||◌, same_Some, record_row_of, pv, type_number, type_of_number, is_optional, numbers_are_inverse, RecordType, PageData, Verify, X86PvInfo, X86PvP2mFrames, StaticDataEnd, earlier_in, is_of, static_records, content_records, broken_rules, fault_of_type, late_static, fault_of_fields, ascends, join, number_of_cause, BodyTooLong, End, most_body}
use Rattle.mig_headers.proofs.FirstCauses as firsts
use Rattle.mig_refusals.specs.Libxc.HeadHas.{too_many, bad_length, out_of_order, wrong_kind, unknown, unsupported, too_long}
use Rattle.mig_refusals.specs.Libxc.Breaks.{second_end, static_after_end, static_after_content, early_content, second_pv_info, early_p2m_frames, early_pages, late_pages, second_verify, late_verify}
use Rattle.mig_refusals.specs.Libxc.{HeadHas as has, Breaks as broken}
use Rattle.mig_refusals.proofs.Least.{Least, RowHas, To, rule_in, named}

of_pv : (kind : Kind) → pv kind ≡ true → kind ≡ Pv
of_pv Pv is = refl
of_pv Hvm is = absurd (false≢true is)

-- ---- types

same_number : (this other : RecordType) → type_number this ≡ type_number other → this ≡ other
same_number this other is =
    same_Some this other (sym (numbers_are_inverse.type_of this) ∙ ap type_of_number is ∙ numbers_are_inverse.type_of other)

same_type : (this other : RecordType) → is_of (other ∷ []) this ≡ true → this ≡ other
same_type this other is = same_number this other (grind (arith, common_steps, is))

mandatory : (this : RecordType) → is_optional (type_number this) ≡ false
mandatory End = refl
mandatory _ = refl

-- ---- rows in one list

abbrev InRow : List (Bool × Cause) → Cause → Type 0
InRow rows c = firsts.RowHas number_of_cause rule_in rows c

from_both : (xs ys : List (Bool × Cause)) (c : Cause) → InRow xs c ⊎ InRow ys c → InRow (xs ++ ys) c
from_both [] ys c (inl h) = absurd h
from_both [] ys c (inr h) = h
from_both (x ∷ xs) ys c (inl (inl h)) = inl h
from_both (x ∷ xs) ys c (inl (inr h)) = inr (from_both xs ys c (inl h))
from_both (x ∷ xs) ys c (inr h) = inr (from_both xs ys c (inr h))

module _ (was : Before) (len type : ℕ) where
  abbrev o : Opening
  o = was.opening

  abbrev types : List ℕ
  types = was.types

  abbrev Has : ℕ → Cause → Type 0
  Has = HeadHas was type len

  abbrev rules : RecordType → List (Bool × Cause)
  rules this = broken_rules o.version o.kind (earlier_in types) this

  -- the causes of a type, as the table has it or hasn't
  abbrev own_rows : Option RecordType → List (Bool × Cause)
  own_rows None = (not (is_optional type), UnknownMandatory type) ∷ []
  own_rows (Some this) = (not (record_row_of this).supported, Unsupported type) ∷ (not ((record_row_of this).of_kind o.kind), WrongKind type) ∷ rules this

  abbrev back_rows : Option RecordType → List (Bool × Cause)
  back_rows found = (not (type_allows found len), BadLength len) ∷ (nat_le most_records (length types), TooManyRecords) ∷ []

  abbrev rows : Option RecordType → List (Bool × Cause)
  rows found = (nat_lt most_body len, BodyTooLong len) ∷ (own_rows found ++ back_rows found)

  own_fault : (found : Option RecordType) → type_of_number type ≡ found → fault_of_type o.version o.kind types type ≡ first_fault (own_rows found)
  own_fault None none = grind (arith, common_steps, none)
  own_fault (Some this) is =
      let number = numbers_are_inverse.number_of type this is in
      let asked : is_optional type ≡ false = ap is_optional (sym number) ∙ mandatory this in
      rw (asked, is) (ap (λ n. first_fault ((not (record_row_of this).supported, Unsupported n) ∷ (not ((record_row_of this).of_kind o.kind), WrongKind n) ∷ rules this)) number)

  fields_are : (found : Option RecordType) → type_of_number type ≡ found → fault_of_fields was type len ≡ first_fault (rows found)
  unfolding fault_of_fields
  fields_are found is =
      ap (λ t. option_or (fault_of_long len) (option_or (fault_of_type o.version o.kind types type) (option_or (first_fault ((not (type_allows t len), BadLength len) ∷ [])) (fault_of_number types)))) is
      ∙ join_front (nat_lt most_body len)
      (ap (λ f. option_or f (first_fault (back_rows found))) (own_fault found is) ∙ join (own_rows found) (back_rows found))
    where
      join_front : (b : Bool) → option_or (fault_of_type o.version o.kind types type) (first_fault (back_rows found)) ≡ first_fault (own_rows found ++ back_rows found)
          → option_or (first_fault ((b, BodyTooLong len) ∷ [])) (option_or (fault_of_type o.version o.kind types type) (option_or (first_fault ((not (type_allows found len), BadLength len) ∷ [])) (fault_of_number types)))
          ≡ first_fault ((b, BodyTooLong len) ∷ (own_rows found ++ back_rows found))
      join_front true h = refl
      join_front false h = ap (option_or (fault_of_type o.version o.kind types type)) (join ((not (type_allows found len), BadLength len) ∷ []) ((nat_le most_records (length types), TooManyRecords) ∷ [])) ∙ h

  -- ---- a row whose test holds says a cause that stands

  of_one : (this other : RecordType) (e : Bool) (rule : ℕ) → (is_of (other ∷ []) this && e) ≡ true → (e ≡ true → Breaks o.version o.kind types other rule) → Breaks o.version o.kind types this rule
  of_one this other e rule h says = let b = and_parts (is_of (other ∷ []) this) e h in subst (λ (t : RecordType). Breaks o.version o.kind types t rule) (sym (same_type this other b.0)) (says b.1)

  late : (this : RecordType) → late_static (earlier_in types) this ≡ true → Breaks o.version o.kind types this 2
  late this h = elim (or_cases (is_of static_records this && (earlier_in types).static_data_end) (is_of (StaticDataEnd ∷ static_records) this && (earlier_in types).content) h) [
    | inl e ↦ let b = and_parts (is_of static_records this) _ e in broken.static_after_end this b.0 b.1
    | inr e ↦ let b = and_parts (is_of (StaticDataEnd ∷ static_records) this) _ e in broken.static_after_content this b.0 b.1
  ]

  to_rules : (this : RecordType) (others : List (Bool × Cause)) → type ≡ type_number this → To Has others → To Has (rules this ++ others)
  to_rules this others number behind = (
    (λ h. breaks 1 (of_one this StaticDataEnd _ 1 h broken.second_end)),
    (
      (λ h. breaks 2 (late this h)),
      (
        (λ h. let a = and_parts (nat_eq o.version 3) _ h in let b = and_parts (is_of content_records this) _ a.1 in breaks 3 (broken.early_content this (eqb-true o.version 3 a.0) b.0 (not-true _ b.1))),
        (
          (λ h. breaks 4 (of_one this X86PvInfo _ 4 h broken.second_pv_info)),
          (
            (λ h. breaks 5 (of_one this X86PvP2mFrames _ 5 h (λ e. broken.early_p2m_frames (not-true _ e)))),
            (
              (λ h. let a = and_parts (pv o.kind) _ h in breaks 6 (of_one this PageData _ 6 a.1 (λ e. broken.early_pages (of_pv o.kind a.0) (not-true _ e)))),
              (
                (λ h. breaks 7 (of_one this PageData _ 7 h broken.late_pages)),
                ((λ h. breaks 8 (of_one this Verify _ 8 h again)), behind),
              ),
            ),
          ),
        ),
      ),
    ),
  )
    where
      breaks : (rule : ℕ) → Breaks o.version o.kind types this rule → Has rule (OutOfOrder rule)
      breaks rule h = has.out_of_order this rule number h

      again : ((earlier_in types).verify || (earlier_in types).vcpu) ≡ true → Breaks o.version o.kind types Verify 8
      again h = elim (or_cases (earlier_in types).verify (earlier_in types).vcpu h) [ inl e ↦ broken.second_verify e | inr e ↦ broken.late_verify e ]

  long : nat_lt most_body len ≡ true → Has 0 (BodyTooLong len)
  long h = has.too_long (ltb-true most_body len h)

  many : nat_le most_records (length types) ≡ true → Has 0 TooManyRecords
  many h = has.too_many (leb-true most_records (length types) h)

  to : (found : Option RecordType) → type_of_number type ≡ found → To Has (rows found)
  to None none = (long, ((λ h. has.unknown (leb-false (2 ^ 31) type (not-true _ h)) none), ((λ h. absurd (false≢true h)), (many, tt))))
  to (Some this) is =
      let number = sym (numbers_are_inverse.number_of type this is) in
      let behind = to_rules this (back_rows (Some this)) number ((λ h. has.bad_length this number (not-true _ h)), (many, tt)) in
      (long, ((λ h. has.unsupported this number (not-true _ h)), ((λ h. has.wrong_kind this number (not-true _ h)), behind)))

  -- ---- a cause that stands has its row

  rule_row : (this : RecordType) (rule : ℕ) → Breaks o.version o.kind types this rule → InRow (rules this) (OutOfOrder rule)
  rule_row _ _ (second_end h) = inl (rw h refl, refl)
  rule_row _ _ (static_after_end this h e) = inr (inl (or_left _ _ (and_from _ _ h e), refl))
  rule_row _ _ (static_after_content this h e) = inr (inl (or_right _ _ (and_from _ _ h e), refl))
  rule_row _ _ (early_content this v h e) = inr (inr (inl (and_from _ _ (rw v refl) (and_from _ _ h (not_from_false _ e)), refl)))
  rule_row _ _ (second_pv_info h) = inr (inr (inr (inl (rw h refl, refl))))
  rule_row _ _ (early_p2m_frames h) = inr (inr (inr (inr (inl (rw h refl, refl)))))
  rule_row _ _ (early_pages v h) = inr (inr (inr (inr (inr (inl (rw (v, h) refl, refl))))))
  rule_row _ _ (late_pages h) = inr (inr (inr (inr (inr (inr (inl (rw h refl, refl)))))))
  rule_row _ _ (second_verify h) = inr (inr (inr (inr (inr (inr (inr (inl (or_left _ _ h, refl))))))))
  rule_row _ _ (late_verify h) = inr (inr (inr (inr (inr (inr (inr (inl (or_right _ _ h, refl))))))))

  module _ (found : Option RecordType) (is : type_of_number type ≡ found) where
    known : (this : RecordType) → type ≡ type_number this → found ≡ Some this
    known this number = sym is ∙ ap type_of_number number ∙ numbers_are_inverse.type_of this

    own : (other : Option RecordType) (c : Cause) → found ≡ other → InRow (own_rows other) c → RowHas (rows found) (rule_in c) c
    own other c same h = (refl, subst (λ f. InRow (rows f) c) (sym same) (inr (from_both (own_rows other) (back_rows other) c (inl h))))

    back : (c : Cause) → InRow (back_rows found) c → RowHas (rows found) (rule_in c) c
    back c h = (refl, inr (from_both (own_rows found) (back_rows found) c (inr h)))

    from : (k : ℕ) (c : Cause) → Has k c → RowHas (rows found) k c
    from _ _ (too_many h) = back TooManyRecords (inr (inl (le-leb _ _ h, refl)))
    from _ _ (bad_length this number h) = back (BadLength len) (inl (not_from_false _ (ap (λ f. type_allows f len) (known this number) ∙ h), refl))
    from _ _ (out_of_order this rule number h) = own (Some this) (OutOfOrder rule) (known this number) (inr (inr (rule_row this rule h)))
    from _ _ (wrong_kind this number h) = own (Some this) (WrongKind type) (known this number) (inr (inl (not_from_false _ h, refl)))
    from _ _ (unknown small none) = own None (UnknownMandatory type) (sym is ∙ none) (inl (not_from_false _ (lt-leb _ _ small), refl))
    from _ _ (unsupported this number h) = own (Some this) (Unsupported type) (known this number) (inl (not_from_false _ h, refl))
    from _ _ (too_long h) = (refl, inl (lt-ltb _ _ h, refl))

  -- of a record head the cause that judging gives is the one that is named
  pub head_least : Least Has (fault_of_fields was type len)
  head_least = by (type_of_number type) refl
    where
      in_order : (found : Option RecordType) → ascends number_of_cause rule_in (rows found) ≡ true
      in_order None = refl
      in_order (Some this) = refl

      by : (found : Option RecordType) → type_of_number type ≡ found → Least Has (fault_of_fields was type len)
      by found is = subst (Least Has) (sym (fields_are found is)) (named Has (rows found) (in_order found) (to found is) (from found is))
