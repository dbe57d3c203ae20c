-- The data of the toolstack in a legacy stream, as Xen's libxl saved them up to Xen 4.5: where the device model has mapped
-- memory of its own into the guest. A version, the number of entries, and the entries, numbers low byte first.
use Rattle.std.specs.Prelude.{◌≡◌, ◌<◌, ℕ, List, [], ◌∷◌, ◌++◌, length, Option, Some, None, ⊤}
use Rattle.mig_legacy.specs.Common.{All, le32, le64}

-- memory of the device model: where the guest sees it, where it began, its size, and its name, if it has one
pub record Physmap : Type 0 where
  pub phys : ℕ
  pub start : ℕ
  pub size : ℕ
  pub name : Option (List ℕ)

-- a name's bytes, a zero behind it; nothing where there is none
abbrev pub name_bytes : Option (List ℕ) → List ℕ
name_bytes None = []
name_bytes (Some name) = name ++ 0 ∷ []

-- no zero stands in a name
abbrev pub IsName : Option (List ℕ) → Type 0
IsName None = ⊤
IsName (Some name) = All (λ b. 0 < b) name

-- the four fields before the name: three numbers of 8 bytes, and the length of the name's bytes in 4
pub record IsPhysmapHead (head : List ℕ) (e : Physmap) : Type 0 where
  pub len : length head ≡ 28
  pub phys : le64 head 0 ≡ e.phys
  pub start : le64 head 8 ≡ e.start
  pub size : le64 head 16 ≡ e.size
  pub name : le32 head 24 ≡ length (name_bytes e.name)

-- entries one after another, each with its head, its name and 4 bytes that say nothing
abbrev pub ArePhysmaps : List ℕ → List Physmap → Type 0
ArePhysmaps bytes [] = bytes ≡ []
ArePhysmaps bytes (e ∷ es) = (head : List ℕ) × (pad : List ℕ) × (rest : List ℕ) × (bytes ≡ head ++ (name_bytes e.name ++ (pad ++ rest))) × IsPhysmapHead head e × IsName e.name × (length pad ≡ 4) × ArePhysmaps rest es

-- the version is 1, and so many entries stand behind it as it says, and nothing behind them
pub record IsToolstack (body : List ℕ) (es : List Physmap) : Type 0 where
  pub head : List ℕ
  pub rest : List ℕ
  pub whole : body ≡ head ++ rest
  pub len : length head ≡ 8
  pub version : le32 head 0 ≡ 1
  pub count : le32 head 4 ≡ length es
  pub each : ArePhysmaps rest es
