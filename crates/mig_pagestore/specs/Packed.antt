-- How pages lie in slabs, one slab behind another.
use Rattle.std.specs.Prelude.{◌≡◌, ℕ, zero, suc, ◌+◌, ◌-◌, ◌<◌, ◌≤◌, min, List, [], ◌∷◌, length, map, ◌++◌, refl}
use Rattle.mig_pagestore.specs.Common.{Coded, code_by, coded×, coded_list, coded_ℕ}
use Rattle.mig_pagestore.specs.Slab.{Pages}

-- the first n places hold pages, and the others are empty
unfoldable pub IsPacked : List Pages → ℕ → Type 0
IsPacked [] n = n ≡ 0
IsPacked (s ∷ ss) n = (length s.pages ≤ s.places) × (s.places ≤ n → length s.pages ≡ s.places) × (n ≤ s.places → length s.pages ≡ n) × IsPacked ss (n - s.places)

-- all pages, in their order
unfoldable pub all_pages : List Pages → List (List ℕ)
all_pages [] = []
all_pages (s ∷ ss) = s.pages ++ all_pages ss

-- how many places a slab has behind so many places: 64 more than all before it, and 16,384 at the most
abbrev pub places_after : ℕ → ℕ
places_after a = min (a + 64) 16384

-- how many places there are before the slab of this number
unfoldable pub places_before : ℕ → ℕ
places_before zero = 0
places_before (suc k) = places_before k + places_after (places_before k)

-- the place is number `at` in the slab of this number
pub record IsFound (place slab at : ℕ) : Type 0 where
  pub is : places_before slab + at ≡ place
  pub small : at < places_after (places_before slab)

-- n places from this one on lie in one slab
pub record LieInOne (place n : ℕ) : Type 0 where
  pub slab : ℕ
  pub at : ℕ
  pub found : IsFound place slab at
  pub fits : at + n ≤ places_after (places_before slab)

-- slabs of these sizes lie behind `from` places, and `to` places end with them
unfoldable pub AreLaid : List ℕ → ℕ → ℕ → Type 0
AreLaid [] from to = from ≡ to
AreLaid (k ∷ ks) from to = (k ≡ places_after from) × AreLaid ks (from + k) to

-- the pages in their order, and how many more there is room for
pub record Placed : Type 0 where
  pub pages : List (List ℕ)
  pub room : ℕ

abbrev pub arena_code : Coded Placed
arena_code = code_by (List (List ℕ) × ℕ) (coded× (coded_list (coded_list coded_ℕ)) coded_ℕ) (λ a. (a.pages, a.room)) (λ p. record { pages = p.0; room = p.1 }) (λ _. refl)

abbrev pub slab_sizes : List Pages → List ℕ
slab_sizes ss = map (λ s. s.places) ss

-- slabs with `places` in all, of which the first n hold pages
pub record IsArena (ss : List Pages) (n places : ℕ) : Type 0 where
  pub packed : IsPacked ss n
  pub laid : AreLaid (slab_sizes ss) 0 places
  pub few : places ≤ 1073758208
