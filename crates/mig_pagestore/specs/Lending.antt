-- What a store ends as, where a `&mut` to one of its pages is returned.
use Rattle.std.specs.Prelude.{ℕ, List, Option}
use Rattle.std.specs.FinMap as map
use Rattle.std.specs.Borrow.{LendsIf, MutBor, Fml, Array, u8}
use Rattle.mig_pagestore.specs.Pages.{Store}
use Rattle.mig_pagestore.specs.FrameView.{whole_page}
use Rattle.mig_pagestore.specs.contracts.page_store.PageStore.{the_row}

-- s with w as the page of pfn
abbrev pub with_stored_page : Store → ℕ → List ℕ → Store
with_stored_page s pfn w = record s { pages = map.insert s.pages pfn (whole_page w) }

-- at `Some` the store ends with the last bytes behind r as the page of pfn; at `None` it stays
abbrev pub LendsStoredPage : MutBor Store → ℕ → Option (MutBor (List ℕ)) → Fml
LendsStoredPage s pfn r = LendsIf the_row (Array u8 4096) s r (with_stored_page s.now pfn) s.now
