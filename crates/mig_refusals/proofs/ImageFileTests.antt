-- What the truth values in the conditions of a guest image say.
use Rattle.mig_refusals.proofs.Common.{Bool, FinMap, HostOf, Hvm, IsAntisymmetric, IsSome, IsTotalOrder, Kind, L4Pinned, L4Tab, Less, List, None, Notab, Option, Ordering, PageType, PartCode, PartKey, PartMap, Pv, Some, [], and_from, and_parts, ap, arith, cases_lt, eq-eqb, eqb-true, false, false≢true, inl, inr, le-leb, leb-true, list_any, nat_cmp-IsAntisymmetric, nat_cmp_total, nat_eq, nat_le, none-some, not, or_cases, part_cmp, part_exact, part_total, refl, subst, sym, true, ℕ, ◌∙◌, ◌∷◌, ◌≡◌, ◌≤◌, ◌⊎◌, is_type_of, HostFrame, IsAbove, code_of_number, row_of, all_there, found_passes, some_entry, code_fits, has_frame_from, has_part_from, head_type_number, all_types, number_of, type_of, type_or_none, Broken, L1Pinned, L1Tab, L2Pinned, L2Tab, L3Pinned, L3Tab, Xalloc, Xtab, All-head, All-tail, All, Equal, Greater, number_found, numbered, code_allows, ImageTestsSay, IsCodeOf, IsNoType}
use Rattle.mig_host.proofs.HostedGuests.{some_value}
use Rattle.mig_guest.proofs.PartCursor.{less}
use Rattle.mig_headers.proofs.PairTexts.{canonical_pairs_are_computed}
use Rattle.mig_host.specs.HostView.{has_machine}
use Rattle.mig_image.proofs.KeyTests.{part_there}
use Rattle.std.specs.Ordering.{is_lt, ordering_reverse}
use Rattle.std.specs.FinMap as maps
use Rattle.mig_image.proofs.ImageWords.{each_zero, zero_each}

-- an entry of a map that passes a test
module _ {K X : Type 0} {R : K → K → Ordering} (total : IsTotalOrder R) (exact : IsAntisymmetric R) (p : K × X → Bool) (m : FinMap R X) where
  abbrev There : K × X → Type 0
  There e = maps.get m e.0 ≡ Some e.1

  abbrev Passing : Type 0
  Passing = (q : K) × (v : X) × (maps.get m q ≡ Some v) × (p (q, v) ≡ true)

  among : (es : List (K × X)) → All There es → list_any p es ≡ true → Passing
  among [] all any = absurd (false≢true any)
  among (e ∷ es) all any = elim (or_cases (p e) (list_any p es) any) [ inl is ↦ (e.0, e.1, All-head There e es all, is) | inr rest ↦ among es (All-tail There e es all) rest ]

  passing : list_any p (maps.entries m) ≡ true → Passing
  passing any = among (maps.entries m) (all_there total exact m) any

-- ---- frames

pub frame_from : (h : HostOf) (pfn : ℕ) → has_frame_from h pfn ≡ true → (q : ℕ) × IsSome (maps.get h.frames q) × (pfn ≤ q)
frame_from h pfn any = let (q, v, at, passes) = passing nat_cmp_total nat_cmp-IsAntisymmetric (λ e. nat_le pfn e.0) h.frames any in (q, subst IsSome (sym at) refl, leb-true pfn q passes)

pub from_frame : (h : HostOf) (pfn q : ℕ) → IsSome (maps.get h.frames q) → pfn ≤ q → has_frame_from h pfn ≡ true
from_frame h pfn q some le = let (v, at) = some_value _ some in some_entry nat_cmp_total nat_cmp-IsAntisymmetric (λ e. nat_le pfn e.0) h.frames q v at (le-leb pfn q le)

pub machine_of : (h : HostOf) (machine : ℕ) → has_machine h machine ≡ true → (q : ℕ) × (frame : HostFrame) × (maps.get h.frames q ≡ Some frame) × (frame.machine ≡ machine)
machine_of h machine any = let (q, v, at, passes) = passing nat_cmp_total nat_cmp-IsAntisymmetric (λ e. nat_eq e.1.machine machine) h.frames any in (q, v, at, eqb-true v.machine machine passes)

pub of_machine : (h : HostOf) (machine q : ℕ) (frame : HostFrame) → maps.get h.frames q ≡ Some frame → frame.machine ≡ machine → has_machine h machine ≡ true
of_machine h machine q frame at is = some_entry nat_cmp_total nat_cmp-IsAntisymmetric (λ e. nat_eq e.1.machine machine) h.frames q frame at (eq-eqb frame.machine machine is)

-- ---- parts

abbrev IsFrom : PartKey → PartKey → Type 0
IsFrom key q = (q ≡ key) ⊎ IsAbove (Some key) q

module _ (parts : PartMap) (key : PartKey) where
  from_key : (q : PartKey) (r : Ordering) → part_cmp q key ≡ r → not (is_lt r) ≡ true → IsFrom key q
  from_key q Less is passes = absurd (false≢true passes)
  from_key q Equal is passes = inl (part_exact q key is)
  from_key q Greater is passes = inr (part_total.antisymm key q ∙ ap ordering_reverse is)

  pub part_from : has_part_from parts key ≡ true → (q : PartKey) × IsSome (maps.get parts q) × IsFrom key q
  part_from any = let (q, v, at, passes) = passing part_total part_exact (λ e. not (is_lt (part_cmp e.0 key))) parts any in (q, subst IsSome (sym at) refl, from_key q (part_cmp q key) refl passes)

  pub from_part : (q : PartKey) → IsSome (maps.get parts q) → IsFrom key q → has_part_from parts key ≡ true
  from_part q some (inl same) = part_there key parts (subst (λ k. IsSome (maps.get parts k)) same some)
  from_part q some (inr above) = let (v, at) = some_value _ some in some_entry part_total part_exact (λ e. not (is_lt (part_cmp e.0 key))) parts q v at (ap (λ r. not (is_lt r)) (part_total.antisymm q key ∙ ap ordering_reverse above))

-- ---- types

other_some : (kind : Kind) (t : PageType) (n : ℕ) → is_type_of kind t ≡ false → number_of t ≡ n → IsNoType kind n
other_some Pv Xtab n fails is = inr (inl (omega (arith, is)))
other_some Pv _ n fails is = absurd (false≢true (sym fails))
other_some Hvm Notab n fails is = absurd (false≢true (sym fails))
other_some Hvm Broken n fails is = absurd (false≢true (sym fails))
other_some Hvm Xalloc n fails is = absurd (false≢true (sym fails))
other_some Hvm _ n fails is = inr (inr (refl, (λ e. omega (arith, is, e)), (λ e. omega (arith, is, e)), (λ e. omega (arith, is, e))))

-- the numbers of the types that an HVM guest's frames have
no_hvm : (n : ℕ) → (n ≡ 0) ⊎ ((n ≡ 13) ⊎ (n ≡ 14)) → IsNoType Hvm n → ⊥
no_hvm n is (inl (a, b)) = grind (arith, is, a, b)
no_hvm n is (inr (inl a)) = grind (arith, is, a)
no_hvm n is (inr (inr (_, a, b, c))) = elim is [ inl e ↦ a e | inr other ↦ elim other [ inl e ↦ b e | inr e ↦ c e ] ]

some_other : (kind : Kind) (t : PageType) → IsNoType kind (number_of t) → is_type_of kind t ≡ false
some_other Pv Xtab h = refl
some_other Pv _ (inl (a, b)) = absurd (omega (arith, a, b))
some_other Pv _ (inr (inl a)) = absurd (omega (arith, a))
some_other Pv _ (inr (inr (hvm, _, _, _))) = (let no : Pv ≡ Hvm = hvm in cc)
some_other Hvm Notab h = absurd (no_hvm 0 (inl refl) h)
some_other Hvm Broken h = absurd (no_hvm 13 (inr (inl refl)) h)
some_other Hvm Xalloc h = absurd (no_hvm 14 (inr (inr refl)) h)
some_other Hvm _ h = refl

module _ (kind : Kind) (n : ℕ) where
  unnamed : type_of n ≡ None → IsNoType kind n
  unnamed none = elim (cases_lt n 15) [
    | inr above ↦ inr (inl above)
    | inl less ↦ inl (
      (let a = not_of 0 Notab refl in let b = not_of 1 L1Tab refl in let c = not_of 2 L2Tab refl in let d = not_of 3 L3Tab refl in let e = not_of 4 L4Tab refl in grind (arith, a, b, c, d, e)),
      (let a = not_of 9 L1Pinned refl in let b = not_of 10 L2Pinned refl in let c = not_of 11 L3Pinned refl in let d = not_of 12 L4Pinned refl in let e = not_of 13 Broken refl in let f = not_of 14 Xalloc refl in grind (arith, less, a, b, c, d, e, f)),
    )
  ]
    where
      not_of : (k : ℕ) (t : PageType) → type_of k ≡ Some t → n ≡ k → ⊥
      not_of k t is e = none-some t (sym none ∙ ap type_of e ∙ is)

  number_is : (t : PageType) → type_of n ≡ Some t → number_of t ≡ n
  number_is t is = eqb-true (number_of t) n (found_passes (λ t. nat_eq (number_of t) n) all_types t is)

  other_type : is_type_of kind (type_or_none (type_of n)) ≡ false → IsNoType kind n
  other_type fails = by (type_of n) refl fails
    where
      by : (o : Option PageType) → type_of n ≡ o → is_type_of kind (type_or_none o) ≡ false → IsNoType kind n
      by None none fails = unnamed none
      by (Some t) is fails = other_some kind t n fails (number_is t is)

  type_other : IsNoType kind n → is_type_of kind (type_or_none (type_of n)) ≡ false
  type_other other = by (type_of n) refl
    where
      by : (o : Option PageType) → type_of n ≡ o → is_type_of kind (type_or_none o) ≡ false
      by None none = some_other kind Xtab (inr (inl (omega arith)))
      by (Some t) is = some_other kind t (subst (IsNoType kind) (sym (number_is t is)) other)

-- ---- codes

fits_known : (n : ℕ) (kind : Kind) (key : PartKey) (o : Option PartCode) → code_of_number n ≡ o → code_fits o kind key ≡ true → IsCodeOf n (λ code. ((row_of code).of_kind kind ≡ true) × ((row_of code).keys key.key1 key.key2 ≡ true))
fits_known n kind key None is h = absurd (false≢true h)
fits_known n kind key (Some code) is h = (code, number_found n code is, and_parts _ _ h)

allowed_known : (n width len : ℕ) (o : Option PartCode) → code_of_number n ≡ o → code_allows o width len ≡ true → IsCodeOf n (λ code. (row_of code).allows width len ≡ true)
allowed_known n width len None is h = absurd (false≢true h)
allowed_known n width len (Some code) is h = (code, number_found n code is, h)

pub tests_say : ImageTestsSay
tests_say = record {
  other_type = λ version kind head. (other_type kind (head_type_number version head), type_other kind (head_type_number version head));
  frame_from = λ h pfn. (frame_from h pfn, λ (q, some, le). from_frame h pfn q some le);
  machine = λ h machine. (machine_of h machine, λ (q, frame, at, is). of_machine h machine q frame at is);
  part_from = λ parts key. (part_from parts key, λ (q, some, from). from_part parts key q some from);
  all_zero = λ bytes. (each_zero bytes, zero_each bytes);
  pairs = canonical_pairs_are_computed;
  fits = λ n kind key. (fits_known n kind key (code_of_number n) refl, λ (code, is, both). ap (λ o. code_fits o kind key) (numbered n code is) ∙ and_from _ _ both.0 both.1);
  allowed = λ n width len. (allowed_known n width len (code_of_number n) refl, λ (code, is, allows). ap (λ o. code_allows o width len) (numbered n code is) ∙ allows);
}
