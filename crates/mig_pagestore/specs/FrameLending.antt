-- What a store of frames ends as, where a `&mut` to one of its pages is returned.
use Rattle.std.specs.Prelude.{ℕ, List, Option, Some, None}
use Rattle.std.specs.FinMap as maps
use Rattle.std.specs.Borrow.{LendsIf, MutBor, Fml, Array, u8}
use Rattle.mig_pagestore.specs.Frames.{FrameOf, FrameMap, Framed}
use Rattle.mig_pagestore.specs.FrameView.{whole_page}
use Rattle.mig_pagestore.specs.contracts.frame_store.FrameStore.{the_row}

-- the frames, where a frame that is there has w as its page
abbrev pub repaged : Option FrameOf → FrameMap → ℕ → List ℕ → FrameMap
repaged None m pfn w = m
repaged (Some f) m pfn w = maps.insert m pfn (record f { page = Some (whole_page w) })

abbrev pub with_page : FrameMap → ℕ → List ℕ → FrameMap
with_page m pfn w = repaged (maps.get m pfn) m pfn w

-- at `Some` the frames end with the last bytes behind r as the page of pfn; at `None` they stay, and spare stays
abbrev pub LendsFramePage : MutBor Framed → ℕ → Option (MutBor (List ℕ)) → Fml
LendsFramePage s pfn r = LendsIf the_row (Array u8 4096) s r (λ w. record s.now { frames = with_page s.now.frames pfn w }) s.now
