-- What a store of frames is: a finite map from PFN to a type, and a page or none, and a number of spare pages.
use Rattle.std.specs.Prelude.{◌≡◌, ◌≢◌, ⊤, ℕ, ◌+◌, ◌<◌, List, [], ◌∷◌, length, Option, Some, is_some, refl}
use Rattle.mig_pagestore.specs.Common.{nat_cmp, option_and_then, Coded, code_by, coded×, coded_ℕ, coded_list, coded_option, PageType, Xtab, type_has_data, pfn_limit}
use Rattle.std.specs.FinMap as maps
use Rattle.mig_pagetypes.specs.contracts.page_type.PageType as page_type

-- a frame's type, and its page or none
pub record FrameOf : Type 0 where
  pub type : PageType
  pub page : Option (List ℕ)

-- frames by PFN
abbrev pub FrameMap : Type 0
FrameMap = maps.FinMap nat_cmp FrameOf

-- the frames that are there, and how many more can be put without asking for memory
pub record Framed : Type 0 where
  pub frames : FrameMap
  pub spare : ℕ

-- the page of this PFN's frame; none where it has no frame, or its frame no page
abbrev pub frame_page : FrameMap → ℕ → Option (List ℕ)
frame_page m pfn = option_and_then (λ f. f.page) (maps.get m pfn)

-- these are the pages of the frames from a number on, one by one
abbrev pub IsRun : FrameMap → ℕ → List (List ℕ) → Type 0
IsRun m pfn [] = ⊤
IsRun m pfn (page ∷ pages) = (frame_page m pfn ≡ Some page) × IsRun m (pfn + 1) pages

-- the frame isn't absent, and has a page of 4096 bytes exactly where its type has data
pub record IsFrame (frame : FrameOf) : Type 0 where
  pub there : frame.type ≢ Xtab
  pub in_step : is_some frame.page ≡ type_has_data frame.type
  pub whole : (page : List ℕ) → frame.page ≡ Some page → length page ≡ 4096

-- every PFN is below the limit, and every frame is one that a guest can have
abbrev pub IsSized : FrameMap → Type 0
IsSized m = (pfn : ℕ) (frame : FrameOf) → maps.get m pfn ≡ Some frame → (pfn < pfn_limit) × IsFrame frame

-- the frames, where the frame of pfn is set: XTAB takes it away
abbrev pub framed : FrameMap → ℕ → PageType → Option (List ℕ) → FrameMap
framed m pfn Xtab page = maps.remove m pfn
framed m pfn type page = maps.insert m pfn (record { type = type; page = page })

-- a frame is stored as the pair of its fields
abbrev pub frame_code : Coded FrameOf
frame_code = code_by (PageType × Option (List ℕ)) (coded× page_type.the_row.coded (coded_option (coded_list coded_ℕ))) (λ f. (f.type, f.page)) (λ p. record { type = p.0; page = p.1 }) (λ _. refl)

abbrev pub frames_code : Coded FrameMap
frames_code = maps.code coded_ℕ frame_code

abbrev pub framed_code : Coded Framed
framed_code = code_by (FrameMap × ℕ) (coded× frames_code coded_ℕ) (λ s. (s.frames, s.spare)) (λ p. record { frames = p.0; spare = p.1 }) (λ _. refl)
