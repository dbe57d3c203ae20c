-- Bytes of a stream whose outermost END isn't whole: headers, whole records none of which is END, and a part of one more;
-- bare, or inside a libxl stream.
use Rattle.std.specs.Prelude.{◌≡◌, ◌≢◌, ◌⊎◌, ℕ, ◌<◌, ◌≤◌, Bool, List, [], ◌∷◌, ◌++◌, length, take}
use Rattle.mig_dirtysave.specs.Common.{AllByRecursion, IsRecord, Record}
use Rattle.mig_bytes.specs.Fields.{be64}
use Rattle.mig_headers.specs.Headers.{marker, IsLibxlHeader}

-- ---- records that are cut off

-- these records, one after another
abbrev pub AreRecords : List Record → List ℕ → Type 0
AreRecords [] bytes = bytes ≡ []
AreRecords (r ∷ rs) bytes = (text : List ℕ) × (rest : List ℕ) × (bytes ≡ text ++ rest) × IsRecord r.0 r.1 text × AreRecords rs rest

-- none of them is END
abbrev pub HaveNoEnd : List Record → Type 0
HaveNoEnd rs = AllByRecursion (λ (r : Record). r.0 ≢ 0) rs

-- some first bytes of a record, END or another, and not all; perhaps none
pub record IsCutRecord (bytes : List ℕ) : Type 0 where
  pub type : ℕ
  pub body : List ℕ
  pub text : List ℕ
  pub is : IsRecord type body text
  pub n : ℕ
  pub less : n < length text
  pub front : bytes ≡ take n text

-- whole records without END, and a part of one more
pub record AreCutOff (bytes : List ℕ) : Type 0 where
  pub records : List Record
  pub texts : List ℕ
  pub part : List ℕ
  pub whole : bytes ≡ texts ++ part
  pub are : AreRecords records texts
  pub no_end : HaveNoEnd records
  pub cut : IsCutRecord part

-- ---- an image

-- the image header and the domain header, 40 bytes together, and records that are cut off
pub record IsCutImage (bytes : List ℕ) : Type 0 where
  pub headers : List ℕ
  pub rest : List ℕ
  pub whole : bytes ≡ headers ++ rest
  pub size : length headers ≡ 40
  pub cut_off : AreCutOff rest

-- an image without its END, or not even all of its headers
abbrev pub IsUnendedImage : List ℕ → Type 0
IsUnendedImage bytes = (length bytes < 40) ⊎ IsCutImage bytes

-- an image without its END that begins with the marker, as far as it goes: a bare one
pub record IsUnendedBare (bytes : List ℕ) : Type 0 where
  pub unended : IsUnendedImage bytes
  pub marked : 8 ≤ length bytes → be64 bytes 0 ≡ marker

-- ---- a libxl stream

-- headers of an image, records up to its END, and records behind it that are cut off
pub record IsUnclosedImage (bytes : List ℕ) : Type 0 where
  pub headers : List ℕ
  pub records : List Record
  pub texts : List ℕ
  pub last : List ℕ
  pub behind : List ℕ
  pub whole : bytes ≡ headers ++ (texts ++ (last ++ behind))
  pub size : length headers ≡ 40
  pub are : AreRecords records texts
  pub no_end : HaveNoEnd records
  pub is_end : IsRecord 0 [] last
  pub cut_off : AreCutOff behind

-- the header, LIBXC_CONTEXT right behind it, and an image without its END, or one that is ended, with records behind it
-- that are cut off
pub record IsCutLibxl (bytes : List ℕ) : Type 0 where
  pub header : List ℕ
  pub legacy : Bool
  pub context : List ℕ
  pub inside : List ℕ
  pub whole : bytes ≡ header ++ (context ++ inside)
  pub is_header : IsLibxlHeader header legacy
  pub is_context : IsRecord 1 [] context
  pub unended : IsUnendedImage inside ⊎ IsUnclosedImage inside

-- a libxl stream without its END, or not even all of its header and LIBXC_CONTEXT, which have 24 bytes
abbrev pub IsUnendedLibxl : List ℕ → Type 0
IsUnendedLibxl bytes = (length bytes < 24) ⊎ IsCutLibxl bytes

-- a stream of either form without its outermost END
abbrev pub IsUnended : List ℕ → Type 0
IsUnended bytes = IsUnendedBare bytes ⊎ IsUnendedLibxl bytes
