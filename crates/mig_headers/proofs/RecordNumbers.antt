-- The numbers of the record types.
use Rattle.std.proofs.Common.{◌≡◌, ℕ, zero, suc, ◌+◌, List, [], ◌∷◌, Bool, true, false, nat_eq, Some, refl, sym, ap, ◌∙◌, arith, eqb-true}
use Rattle.std.specs.Prelude.{slice_get, ◌&&◌}
use Rattle.mig_headers.proofs.Common.{and_parts}
use Rattle.mig_headers.specs.declared.record_type.RecordType.{RecordType}
use Rattle.mig_headers.specs.declared.record_type.RecordType.TheVariants.{End}
use Rattle.mig_headers.specs.RecordTypes.{type_number, type_of_number, is_optional, record_types, NumbersAreInverse}

type_of : (kind : RecordType) → type_of_number (type_number kind) ≡ Some kind
type_of End = refl
type_of _ = refl

-- a type with another's number is the other
pub same_number : (this other : RecordType) → type_number this ≡ type_number other → this ≡ other
same_number this other is = let e : Some this ≡ Some other = sym (type_of this) ∙ ap type_of_number is ∙ type_of other in grind arith

pub mandatory : (this : RecordType) → is_optional (type_number this) ≡ false
mandatory End = refl
mandatory _ = refl

-- the types stand in the order of their numbers, from k on
abbrev are_numbered : ℕ → List RecordType → Bool
are_numbered k [] = true
are_numbered k (kind ∷ kinds) = nat_eq (type_number kind) k && are_numbered (suc k) kinds

number_at : (k : ℕ) (kinds : List RecordType) (n : ℕ) (kind : RecordType) → are_numbered k kinds ≡ true → slice_get kinds n ≡ Some kind → type_number kind ≡ k + n
number_at k [] n kind all is = cc
number_at k (first ∷ rest) zero kind all is =
    let e : first ≡ kind = grind arith in
    sym (ap type_number e) ∙ eqb-true (type_number first) k (and_parts (nat_eq (type_number first) k) (are_numbered (suc k) rest) all).0 ∙ omega arith
number_at k (first ∷ rest) (suc n) kind all is =
    number_at (suc k) rest n kind (and_parts (nat_eq (type_number first) k) (are_numbered (suc k) rest) all).1 is ∙ omega arith

pub numbers_are_inverse : NumbersAreInverse
numbers_are_inverse = record {
  type_of = type_of;
  number_of = λ number kind is. number_at 0 record_types number kind refl is ∙ omega arith;
}
