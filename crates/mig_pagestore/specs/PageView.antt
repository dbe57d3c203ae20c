-- How frames are seen as pages.
use Rattle.std.specs.Prelude.{◌≡◌, ℕ, List, [], Some, IsSome}
use Rattle.mig_pagestore.specs.Common.{unwrap_or}
use Rattle.std.specs.FinMap as maps
use Rattle.mig_pagestore.specs.Frames.{FrameOf, FrameMap}
use Rattle.mig_pagestore.specs.Pages.{PageMap}
use Rattle.mig_pagestore.specs.Mapped.{mapped}

abbrev pub bytes_of : FrameOf → List ℕ
bytes_of f = unwrap_or f.page []

abbrev pub pages_seen : FrameMap → PageMap
pages_seen frames = mapped bytes_of frames

-- every frame has a page
pub record HasPages (frames : FrameMap) : Type 0 where
  pub has : (q : ℕ) (f : FrameOf) → maps.get frames q ≡ Some f → IsSome f.page
