-- What an index is: a finite map from number to value, and how many more numbers can be set without asking for memory.
use Rattle.std.specs.Prelude.{ℕ, zero, suc, ◌^◌, refl}
use Rattle.std.specs.Ordering.{nat_cmp}
use Rattle.std.specs.FinMap as maps
use Rattle.std.specs.Coded.{Coded, code_by, coded×, coded_ℕ}

-- numbers are below this
abbrev pub number_limit : ℕ
number_limit = 2 ^ 52

-- values by number
abbrev pub ValueMap : Type 0
ValueMap = maps.FinMap nat_cmp ℕ

pub record Indexed : Type 0 where
  pub values : ValueMap
  pub spare : ℕ

abbrev pub indexed_code : Coded Indexed
indexed_code = code_by (ValueMap × ℕ) (coded× (maps.code coded_ℕ coded_ℕ) coded_ℕ) (λ x. (x.values, x.spare)) (λ p. record { values = p.0; spare = p.1 }) (λ _. refl)

-- the map, where the value of this number is v; 0 is none
unfoldable pub valued : ValueMap → ℕ → ℕ → ValueMap
valued m n zero = m
valued m n (suc v) = maps.insert m n (suc v)

-- the values that f tells of the numbers below n; 0 is none
unfoldable pub gathered : (ℕ → ℕ) → ℕ → ValueMap
gathered f zero = maps.empty
gathered f (suc n) = valued (gathered f n) n (f n)
