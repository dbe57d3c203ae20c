-- A host with one of its frames, or one of its parts, changed.
use Rattle.std.specs.Prelude.{ℕ, List, Option, Some, None, option_and_then, replicate, if◌then◌else◌}
use Rattle.std.specs.Option.{option_map, unwrap_or}
use Rattle.std.specs.FinMap as maps
use Rattle.mig_pagetypes.specs.declared.page_type.PageType.{PageType}
use Rattle.mig_host.specs.Common.{type_has_data, HostOf, HostFrame, HostFrames}
use Rattle.mig_pagestore.specs.Pages.{spliced}

-- the page of a frame that is there
abbrev pub raw_page_at : HostFrames → ℕ → Option (List ℕ)
raw_page_at frames pfn = option_and_then (λ f. f.page) (maps.get frames pfn)

abbrev pub put_or_stay : Option HostFrame → HostOf → ℕ → (HostFrame → HostFrame) → HostOf
put_or_stay None h pfn change = h
put_or_stay (Some f) h pfn change = record h { frames = maps.insert h.frames pfn (change f) }

-- a host with a frame changed, where it is there
abbrev pub changed_at : HostOf → ℕ → (HostFrame → HostFrame) → HostOf
changed_at h pfn change = put_or_stay (maps.get h.frames pfn) h pfn change

-- with another type and page; the machine frame stays
abbrev pub retyped : HostOf → ℕ → PageType → Option (List ℕ) → HostOf
retyped h pfn type page = changed_at h pfn (λ f. record { type = type; machine = f.machine; page = page })

-- ---- what the changes do

-- these bytes stand in the page from this byte on
abbrev pub page_written : HostOf → ℕ → ℕ → List ℕ → HostOf
page_written h pfn at bytes = changed_at h pfn (λ f. record f { page = option_map (λ page. spliced page at bytes) f.page })

-- the page that goes with a type: a new one is zero
abbrev pub page_for : PageType → Option (List ℕ) → Option (List ℕ)
page_for type page = if type_has_data type then Some (unwrap_or page (replicate 4096 0)) else None

-- another type, with the page that goes with it
abbrev pub typed : HostOf → ℕ → PageType → HostOf
typed h pfn type = changed_at h pfn (λ f. record { type = type; machine = f.machine; page = page_for type f.page })

-- another machine frame
abbrev pub exchanged : HostOf → ℕ → ℕ → HostOf
exchanged h pfn mfn = changed_at h pfn (λ f. record f { machine = mfn })

-- without this frame
abbrev pub without_frame : HostOf → ℕ → HostOf
without_frame h pfn = record h { frames = maps.remove h.frames pfn }
