-- What a host is: a guest as it is in a machine, where each frame number has a machine frame.
use Rattle.std.specs.Prelude.{◌≡◌, ℕ, ◌≤◌, ◌<◌, ◌^◌, true, List, length, Option, Some, is_some, refl, ◌==◌, find}
use Rattle.mig_guest.specs.Common.{option_map, nat_cmp, Coded, code_by, coded×, coded_ℕ, coded_list, coded_option, Kind, Pv, PageType, type_has_data, top_limit, machine_limit}
use Rattle.std.specs.FinMap as maps
use Rattle.mig_headers.specs.contracts.kind.Kind as kind
use Rattle.mig_pagetypes.specs.contracts.page_type.PageType as page_type
use Rattle.mig_guest.specs.declared.part_key.PartKey.{PartKey}
use Rattle.mig_guest.specs.Frames.{IsFew, is_type_of}
use Rattle.mig_guest.specs.Formed.{IsRowPart, IsRawContent}
use Rattle.mig_guest.specs.Parts.{PartMap, FitsPolicy, parts_code}

-- a frame: its type, its machine frame (MFN), and the raw page where the type has data
pub record HostFrame : Type 0 where
  pub type : PageType
  pub machine : ℕ
  pub page : Option (List ℕ)

-- frames by PFN
abbrev pub HostFrames : Type 0
HostFrames = maps.FinMap nat_cmp HostFrame

-- the PFN that has a machine frame
abbrev pub pfn_in : HostFrames → ℕ → Option ℕ
pfn_in frames mfn = option_map (λ e. e.0) (find (λ e. e.1.machine == mfn) (maps.entries frames))

-- every PFN is below the width; the parts are raw, as they stand in the machine
pub record HostOf : Type 0 where
  pub kind : Kind
  pub width : ℕ
  pub frames : HostFrames
  pub parts : PartMap

-- ---- a valid host

-- the greatest width, and the greatest of a host that is saved
abbrev pub most_width : ℕ
most_width = 2 ^ 52

abbrev pub most_saved_width : ℕ
most_saved_width = 2 ^ 28

-- a frame of a host of this kind and width
pub record IsHostFrame (kind : Kind) (width pfn : ℕ) (frame : HostFrame) : Type 0 where
  pub inside : pfn < width
  pub type : is_type_of kind frame.type ≡ true
  pub some_machine : 0 < frame.machine
  pub machine : frame.machine < machine_limit
  pub in_step : is_some frame.page ≡ type_has_data frame.type
  pub whole : (page : List ℕ) → frame.page ≡ Some page → length page ≡ 4096

-- a part of a host, which is raw
abbrev pub IsHostPart : Kind → ℕ → PartKey → List ℕ → Type 0
IsHostPart = IsRowPart IsRawContent

-- no machine frame belongs to two frames
abbrev pub IsOneToOne : HostFrames → Type 0
IsOneToOne frames = (p q : ℕ) (f g : HostFrame) → maps.get frames p ≡ Some f → maps.get frames q ≡ Some g → f.machine ≡ g.machine → p ≡ q

pub record IsValid (h : HostOf) : Type 0 where
  pub width : h.width ≤ most_width
  pub some_width : h.kind ≡ Pv → 0 < h.width
  pub pv_width : h.kind ≡ Pv → h.width ≤ top_limit
  pub frames : (pfn : ℕ) (frame : HostFrame) → maps.get h.frames pfn ≡ Some frame → IsHostFrame h.kind h.width pfn frame
  pub one_to_one : IsOneToOne h.frames
  pub few : IsFew h.frames
  pub parts : (key : PartKey) (bytes : List ℕ) → maps.get h.parts key ≡ Some bytes → IsHostPart h.kind h.width key bytes
  pub leaves : FitsPolicy 17 h.parts
  pub msrs : FitsPolicy 18 h.parts

-- ---- how a host is stored

abbrev pub host_frame_code : Coded HostFrame
host_frame_code =
    code_by (PageType × (ℕ × Option (List ℕ))) (coded× page_type.the_row.coded (coded× coded_ℕ (coded_option (coded_list coded_ℕ))))
    (λ f. (f.type, (f.machine, f.page))) (λ p. record { type = p.0; machine = p.1.0; page = p.1.1 }) (λ _. refl)

abbrev pub host_code : Coded HostOf
host_code =
    code_by (Kind × (ℕ × (HostFrames × PartMap))) (coded× kind.the_row.coded (coded× coded_ℕ (coded× (maps.code coded_ℕ host_frame_code) parts_code)))
    (λ h. (h.kind, (h.width, (h.frames, h.parts)))) (λ p. record { kind = p.0; width = p.1.0; frames = p.1.1.0; parts = p.1.1.1 }) (λ _. refl)
