-- What a saver keeps of the host that it was made for.
use Rattle.std.specs.Prelude.{◌≡◌, ℕ, true, refl}
use Rattle.std.specs.FinMap as maps
use Rattle.std.specs.Coded.{Coded, code_by, coded×, coded_ℕ}
use Rattle.mig_dirtysave.specs.Common.{Kind, PartKey, HostOf, PartMap, parts_code, is_early, SameSettings}
use Rattle.mig_headers.specs.contracts.kind.Kind as kind

pub record SaverOf : Type 0 where
  pub kind : Kind
  pub width : ℕ
  pub early : PartMap
  pub settings : PartMap

-- a saver is stored as its fields
abbrev pub saver_code : Coded SaverOf
saver_code =
    code_by (Kind × (ℕ × (PartMap × PartMap))) (coded× kind.the_row.coded (coded× coded_ℕ (coded× parts_code parts_code)))
    (λ s. (s.kind, (s.width, (s.early, s.settings)))) (λ p. record { kind = p.0; width = p.1.0; early = p.1.1.0; settings = p.1.1.1 }) (λ _. refl)

-- the saver is for a host of its kind and width, its early parts, and settings with these keys and lengths
pub record PreparedFor (s : SaverOf) (h : HostOf) : Type 0 where
  pub kind : h.kind ≡ s.kind
  pub width : h.width ≡ s.width
  pub early : (key : PartKey) → is_early key.code ≡ true → maps.get h.parts key ≡ maps.get s.early key
  pub settings : SameSettings h.parts s.settings
