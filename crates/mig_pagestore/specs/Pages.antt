-- What a page store is: a finite map from PFN to the bytes of a page, and a number of spare pages.
use Rattle.std.specs.Prelude.{ℕ, ◌+◌, ◌<◌, List, ◌++◌, take, drop, length, IsSome, refl}
use Rattle.mig_pagestore.specs.Common.{nat_cmp, Coded, code_by, coded×, coded_ℕ, coded_list, pfn_limit}
use Rattle.std.specs.FinMap as map

-- a finite map from PFN to bytes
abbrev pub PageMap : Type 0
PageMap = map.FinMap nat_cmp (List ℕ)

-- the pages that are there, and how many more can be put without asking for memory
pub record Store : Type 0 where
  pub pages : PageMap
  pub spare : ℕ

-- a store is stored as the pair of its fields
abbrev pub store_code : Coded Store
store_code =
    code_by (PageMap × ℕ) (coded× (map.code coded_ℕ (coded_list coded_ℕ)) coded_ℕ) (λ s. (s.pages, s.spare)) (λ p. record { pages = p.0; spare = p.1 }) (λ _. refl)

-- every PFN that is there is below the limit
abbrev pub IsSmall : PageMap → Type 0
IsSmall m = (pfn : ℕ) → IsSome (map.get m pfn) → pfn < pfn_limit

-- xs with the bytes from `at` on replaced by ys
abbrev pub spliced : List ℕ → ℕ → List ℕ → List ℕ
spliced xs at ys = take at xs ++ ys ++ drop (at + length ys) xs
