-- A type has no fault exactly where it is in order.
use Rattle.std.proofs.Common.{◌≡◌, ◌⊎◌, ℕ, ◌^◌, ◌≤◌, Bool, true, false, not, ◌&&◌, ◌||◌, ◌==◌, if◌then◌else◌, List, [], ◌∷◌, length, Option, Some, None, refl, sym, ap, ◌∙◌, inl, inr, arith}
use Rattle.std.specs.List.{AllByRecursion}
use Rattle.std.proofs.lemmas.Bool.{eqb-true, leb-true, not-false, or_parts, cases_Bool, not_from_true, or_cases, or_from, or_right}
use Rattle.std.proofs.lemmas.Option.{slice_get_past}
use Rattle.mig_headers.specs.declared.kind.Kind.{Kind}
use Rattle.mig_headers.specs.declared.kind.Kind.TheVariants.{Pv, Hvm}
use Rattle.mig_headers.specs.declared.fault.Cause.{Cause}
use Rattle.mig_headers.specs.declared.record_type.RecordType.{RecordType}
use Rattle.mig_headers.specs.declared.record_type.RecordType.TheVariants.{PageData, X86PvInfo, X86PvP2mFrames, Verify, StaticDataEnd}
use Rattle.mig_headers.proofs.FirstFaults.{rows_fine, no_fault}
use Rattle.mig_headers.specs.RecordTypes.{record_types, record_row_of, pv, type_number, type_of_number, is_optional}
use Rattle.mig_headers.proofs.RecordNumbers.{numbers_are_inverse, same_number}
use Rattle.mig_headers.proofs.Chains.{and_false, then_false}
use Rattle.mig_order.specs.Order.{Earlier, earlier_in, is_of, some_earlier, static_records, content_records, vcpu_records, causes, fault_of_mandatory, fault_after, fault_of_type, KeepsOrder, IsInOrder, optional, ordered}
use Rattle.mig_order.specs.Gate.{FaultlessIsInOrder}

-- no row's test holds
abbrev AllClear : List (Bool × Cause) → Type 0
AllClear rows = AllByRecursion (λ row. row.0 ≡ false) rows

pub same_type : (this other : RecordType) → is_of (other ∷ []) this ≡ true → this ≡ other
same_type this other is = elim (or_cases (type_number this == type_number other) false is) [
  | inl e ↦ same_number this other (eqb-true (type_number this) (type_number other) e)
  | inr e ↦ absurd (cc)
]

pub of_pv : (kind : Kind) → pv kind ≡ true → kind ≡ Pv
of_pv Pv is = refl
of_pv Hvm is = absurd (cc)

-- what the rows say, in words
keeps : (version : ℕ) (kind : Kind) (types : List ℕ) (this : RecordType) → AllClear (causes version kind (earlier_in types) this) → KeepsOrder version kind types this
keeps version kind types this (_, (_, (end, (static, (content, (info, (p2m, (pages, (vcpus, (verify, _)))))))))) =
    let late = or_parts (is_of static_records this && some_earlier types (StaticDataEnd ∷ [])) (is_of (StaticDataEnd ∷ static_records) this && some_earlier types content_records) static in
    record {
      one_static_data_end = λ is. then_false (is_of (StaticDataEnd ∷ []) this) (some_earlier types (StaticDataEnd ∷ [])) end (rw is refl);
      static_before_its_end = then_false (is_of static_records this) (some_earlier types (StaticDataEnd ∷ [])) late.0;
      static_before_content = λ is. then_false (is_of (StaticDataEnd ∷ static_records) this) (some_earlier types content_records) late.1 (or_right (type_number this == type_number StaticDataEnd) (is_of static_records this) is);
      static_end_before_content = λ is. then_false (is_of (StaticDataEnd ∷ static_records) this) (some_earlier types content_records) late.1 (rw is refl);
      content_after_static_end = λ is of. not-false (some_earlier types (StaticDataEnd ∷ [])) (then_false (is_of content_records this) (not (some_earlier types (StaticDataEnd ∷ []))) (then_false (version == 3) (is_of content_records this && not (some_earlier types (StaticDataEnd ∷ []))) content (rw is refl)) of);
      one_pv_info = λ is. then_false (is_of (X86PvInfo ∷ []) this) (some_earlier types (X86PvInfo ∷ [])) info (rw is refl);
      p2m_after_pv_info = λ is. not-false (some_earlier types (X86PvInfo ∷ [])) (then_false (is_of (X86PvP2mFrames ∷ []) this) (not (some_earlier types (X86PvInfo ∷ []))) p2m (rw is refl));
      pv_pages_after_p2m = λ is of. not-false (some_earlier types (X86PvP2mFrames ∷ [])) (then_false (is_of (PageData ∷ []) this) (not (some_earlier types (X86PvP2mFrames ∷ []))) (then_false (pv kind) (is_of (PageData ∷ []) this && not (some_earlier types (X86PvP2mFrames ∷ []))) pages (rw is refl)) (rw of refl));
      pages_before_vcpus = λ is. then_false (is_of (PageData ∷ []) this) (some_earlier types vcpu_records) vcpus (rw is refl);
      one_verify = λ is. (no_late is).0;
      verify_before_vcpus = λ is. (no_late is).1;
    }
  where
    no_late : this ≡ Verify → (some_earlier types (Verify ∷ []) ≡ false) × (some_earlier types vcpu_records ≡ false)
    no_late is =
        or_parts (some_earlier types (Verify ∷ [])) (some_earlier types vcpu_records)
        (then_false (is_of (Verify ∷ []) this) (some_earlier types (Verify ∷ []) || some_earlier types vcpu_records) verify (rw is refl))

-- what the words say, in rows
clear : (version : ℕ) (kind : Kind) (types : List ℕ) (this : RecordType) → (record_row_of this).supported ≡ true → (record_row_of this).of_kind kind ≡ true → KeepsOrder version kind types this → AllClear (causes version kind (earlier_in types) this)
clear version kind types this supported of_kind order =
    let earlier = some_earlier types in
    let one_end = and_false (is_of (StaticDataEnd ∷ []) this) (earlier (StaticDataEnd ∷ [])) (λ is. order.one_static_data_end (same_type this StaticDataEnd is)) in
    let content = and_false (version == 3) (is_of content_records this && not (earlier (StaticDataEnd ∷ [])))
    (λ three. and_false (is_of content_records this) (not (earlier (StaticDataEnd ∷ []))) (λ is. not_from_true (earlier (StaticDataEnd ∷ [])) (order.content_after_static_end (eqb-true version 3 three) is))) in
    let one_info = and_false (is_of (X86PvInfo ∷ []) this) (earlier (X86PvInfo ∷ [])) (λ is. order.one_pv_info (same_type this X86PvInfo is)) in
    let p2m = and_false (is_of (X86PvP2mFrames ∷ []) this) (not (earlier (X86PvInfo ∷ []))) (λ is. not_from_true (earlier (X86PvInfo ∷ [])) (order.p2m_after_pv_info (same_type this X86PvP2mFrames is))) in
    let pages = and_false (pv kind) (is_of (PageData ∷ []) this && not (earlier (X86PvP2mFrames ∷ [])))
    (λ of. and_false (is_of (PageData ∷ []) this) (not (earlier (X86PvP2mFrames ∷ []))) (λ is. not_from_true (earlier (X86PvP2mFrames ∷ [])) (order.pv_pages_after_p2m (of_pv kind of) (same_type this PageData is)))) in
    let vcpus = and_false (is_of (PageData ∷ []) this) (earlier vcpu_records) (λ is. order.pages_before_vcpus (same_type this PageData is)) in
    let verify = and_false (is_of (Verify ∷ []) this) (earlier (Verify ∷ []) || earlier vcpu_records)
    (λ is. or_from (earlier (Verify ∷ [])) (earlier vcpu_records) (order.one_verify (same_type this Verify is)) (order.verify_before_vcpus (same_type this Verify is))) in
    let known = not_from_true (record_row_of this).supported supported in
    (known, (not_from_true ((record_row_of this).of_kind kind) of_kind, (one_end, (late, (content, (one_info, (p2m, (pages, (vcpus, (verify, tt))))))))))
  where
    behind_content : is_of (StaticDataEnd ∷ static_records) this ≡ true → some_earlier types content_records ≡ false
    behind_content is = elim (or_cases (type_number this == type_number StaticDataEnd) (is_of static_records this) is) [
      | inl e ↦ order.static_end_before_content (same_number this StaticDataEnd (eqb-true (type_number this) (type_number StaticDataEnd) e))
      | inr e ↦ order.static_before_content e
    ]

    late : ((is_of static_records this && some_earlier types (StaticDataEnd ∷ [])) || (is_of (StaticDataEnd ∷ static_records) this && some_earlier types content_records)) ≡ false
    late = or_from (is_of static_records this && some_earlier types (StaticDataEnd ∷ [])) (is_of (StaticDataEnd ∷ static_records) this && some_earlier types content_records)
        (and_false (is_of static_records this) (some_earlier types (StaticDataEnd ∷ [])) order.static_before_its_end)
        (and_false (is_of (StaticDataEnd ∷ static_records) this) (some_earlier types content_records) behind_content)

none_optional : (number : ℕ) (o : Option Cause) → (if is_optional number then None else o) ≡ None → (2 ^ 31 ≤ number) ⊎ (o ≡ None)
none_optional number o is = elim (cases_Bool (is_optional number)) [
  | inl e ↦ inl (leb-true (2 ^ 31) number e)
  | inr e ↦ inr (rw e at is)
]

in_order : (version : ℕ) (kind : Kind) (types : List ℕ) (number : ℕ) (found : Option RecordType) → type_of_number number ≡ found
    → fault_of_mandatory version kind (earlier_in types) number found ≡ None → IsInOrder version kind types number
in_order version kind types number None found is = absurd (cc)
in_order version kind types number (Some this) found is =
    let all = rows_fine (causes version kind (earlier_in types) this) is in
    ordered this (sym (numbers_are_inverse.number_of number this found))
    (not-false (record_row_of this).supported all.0)
    (not-false ((record_row_of this).of_kind kind) all.1.0)
    (keeps version kind types this all)

faultless : (version : ℕ) (kind : Kind) (types : List ℕ) (number : ℕ) → IsInOrder version kind types number → fault_of_type version kind types number ≡ None
faultless version kind types number (optional above) = let e : is_optional number ≡ true = grind arith in rw e refl
faultless version kind types number (ordered this is supported of_kind order) =
    rw is (skipped (is_optional (type_number this)) (fault_of_mandatory version kind (earlier_in types) (type_number this) (type_of_number (type_number this)))
    (rw (numbers_are_inverse.type_of this) (no_fault (causes version kind (earlier_in types) this) (clear version kind types this supported of_kind order))))
  where
    skipped : (b : Bool) (o : Option Cause) → o ≡ None → (if b then None else o) ≡ None
    skipped true o h = refl
    skipped false o h = h

pub faultless_is_in_order : FaultlessIsInOrder
faultless_is_in_order version kind types number = (
  (λ is. elim (none_optional number (fault_of_mandatory version kind (earlier_in types) number (type_of_number number)) is) [
    | inl above ↦ optional above
    | inr mandatory ↦ in_order version kind types number (type_of_number number) refl mandatory
  ]),
  faultless version kind types number,
)

-- a type without fault is one of the stream's kind, if the table has it
pub has_kind : (version : ℕ) (kind : Kind) (earlier : Earlier) (number : ℕ) → fault_after version kind earlier number ≡ None → (this : RecordType) → type_of_number number ≡ Some this → (record_row_of this).of_kind kind ≡ true
has_kind version kind earlier number fine this found = elim (none_optional number (fault_of_mandatory version kind earlier number (type_of_number number)) fine) [
  | inl above ↦ absurd (no_type (sym (slice_get_past record_types number (past number above)) ∙ found))
  | inr mandatory ↦ not-false ((record_row_of this).of_kind kind) (rows_fine (causes version kind earlier this) (ap (fault_of_mandatory version kind earlier number) (sym found) ∙ mandatory)).1.0
]
  where
    past : (n : ℕ) → 2 ^ 31 ≤ n → length record_types ≤ n
    past n above = omega arith

    no_type : {this : RecordType} → None ≡ Some this → ⊥
    no_type e = cc
