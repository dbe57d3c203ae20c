-- The parts of a guest: a finite map from keys to bytes.
use Rattle.std.specs.Prelude.{◌≡◌, ◌≤◌, ℕ, length, List, [], ◌∷◌, map, filter, fold, not, ◌==◌, Option, Some, None, IsSome}
use Rattle.mig_guest.specs.Common.{Less, is_lt, Coded, coded_ℕ, coded_list, Vec, most_policy_entries}
use Rattle.std.specs.FinMap as maps
use Rattle.mig_guest.specs.declared.part_key.PartKey.{PartKey}
use Rattle.mig_guest.specs.contracts.part_key.PartKey as part_key
use Rattle.mig_guest.specs.Order.{part_cmp, IsAbove}

-- parts by key
abbrev pub PartMap : Type 0
PartMap = maps.FinMap part_cmp (List ℕ)

abbrev pub parts_code : Coded PartMap
parts_code = maps.code part_key.the_row.coded (coded_list coded_ℕ)

-- the parts that a list of keys and byte vectors shows
abbrev pub parts_seen : {Z : Type 0} → List (PartKey × Vec ℕ Z) → PartMap
parts_seen es = maps.from_entries (map (λ e. (e.0, e.1.items)) es)

-- a part with its key
abbrev pub Part : Type 0
Part = PartKey × List ℕ

-- ---- what sets parts

-- a part set, in place of the one of its key
abbrev pub put_part : PartMap → Part → PartMap
put_part m p = maps.insert m p.0 p.1

-- parts set one after another: of each key the last decides
abbrev pub put_parts : PartMap → List Part → PartMap
put_parts m ps = fold put_part m ps

-- all parts of a code replaced by these; where there are none of these, nothing changes
abbrev pub replace_code : ℕ → PartMap → List (PartKey × List ℕ) → PartMap
replace_code code m [] = m
replace_code code m (p ∷ ps) = put_parts (maps.retain_keys m (λ k. not (k.code == code))) (p ∷ ps)

-- ---- the parts of one code

abbrev pub parts_of : {X : Type 0} → ℕ → List (PartKey × X) → List (PartKey × X)
parts_of code es = filter (λ e. e.0.code == code) es

-- those behind a key of this code, or all
abbrev pub parts_after : {X : Type 0} → ℕ → Option PartKey → List (PartKey × X) → List (PartKey × X)
parts_after code None es = parts_of code es
parts_after code (Some k) es = filter (λ e. is_lt (part_cmp k e.0)) (parts_of code es)

-- the first of them, where there is one, and then those behind it
abbrev pub NextPart : {X : Type 0} → ℕ → Option PartKey → List (PartKey × X) → Option (PartKey × X) → Type 0
NextPart code after es None = parts_after code after es ≡ []
NextPart code after es (Some e) = parts_after code after es ≡ e ∷ parts_after code (Some e.0) es

-- no more entries of a policy than its record can have
abbrev pub FitsPolicy : ℕ → PartMap → Type 0
FitsPolicy code parts = length (parts_of code (maps.entries parts)) ≤ most_policy_entries

-- ---- all parts, one after another

-- the parts behind a key, or all
abbrev pub parts_behind : {X : Type 0} → Option PartKey → List (PartKey × X) → List (PartKey × X)
parts_behind None es = es
parts_behind (Some k) es = filter (λ e. is_lt (part_cmp k e.0)) es

-- the first of them, where there is one, and then those behind it
abbrev pub NextBehind : {X : Type 0} → Option PartKey → List (PartKey × X) → Option (PartKey × X) → Type 0
NextBehind after es None = parts_behind after es ≡ []
NextBehind after es (Some e) = parts_behind after es ≡ e ∷ parts_behind (Some e.0) es

-- of the keys above one, or of all, the least that has a part
pub record IsNextKey (parts : PartMap) (after : Option PartKey) (next : PartKey) : Type 0 where
  pub above : IsAbove after next
  pub there : IsSome (maps.get parts next)
  pub least : (key : PartKey) → IsAbove after key → part_cmp key next ≡ Less → maps.get parts key ≡ None

-- that one, or none, where none has a part
abbrev pub NextKey : PartMap → Option PartKey → Option PartKey → Type 0
NextKey parts after None = (key : PartKey) → IsAbove after key → maps.get parts key ≡ None
NextKey parts after (Some next) = IsNextKey parts after next
