-- What a contract sees of a slab: the pages that were put into it, in their order, and how many it has places for.
use Rattle.std.specs.Prelude.{ℕ, List, refl}
use Rattle.mig_pagestore.specs.Common.{Coded, code_by, coded×, coded_list, coded_ℕ}

-- the pages, each a list of 4096 bytes, and the number of places
pub record Pages : Type 0 where
  pub pages : List (List ℕ)
  pub places : ℕ

abbrev pub pages_code : Coded Pages
pages_code = code_by (List (List ℕ) × ℕ) (coded× (coded_list (coded_list coded_ℕ)) coded_ℕ) (λ s. (s.pages, s.places)) (λ p. record { pages = p.0; places = p.1 }) (λ _. refl)
