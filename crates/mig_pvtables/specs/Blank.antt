-- The blank form of a guest: nothing in it is the hypervisor's own, or is made anew where the guest is restored.
use Rattle.std.specs.Prelude.{◌≡◌, ℕ, List, map, replicate, Option, Some, None, ◌==◌, if◌then◌else◌}
use Rattle.mig_pvtables.specs.Common.{option_map, Ordering, AreBytes, Kind, Pv, Hvm, level_of, PartKey, FrameOf, GuestOf, PartMap, blanked_table}
use Rattle.std.specs.FinMap as maps
use Rattle.mig_pvtables.specs.P2mFrames.{place_of}
use Rattle.mig_pvtables.specs.VcpuContexts.{blanked_context, blanked_shared}

-- a map with each value changed, by its key
abbrev pub each_value : {K X Y : Type 0} {R : K → K → Ordering} → (K → X → Y) → maps.FinMap R X → maps.FinMap R Y
each_value f m = maps.from_entries (map (λ e. (e.0, f e.0 e.1)) (maps.entries m))

unfoldable pub zero_page : List ℕ
zero_page = replicate 4096 0

-- the page of a frame, changed where the frame is a table of some level
abbrev pub table_changed : (ℕ → List ℕ → List ℕ) → Option ℕ → Option (List ℕ) → Option (List ℕ)
table_changed f (Some level) page = option_map (f level) page
table_changed f None page = page

-- the page of a frame: of a P2M frame a zero page, of a table the table with its blank slots 0
abbrev pub blanked_page : Option ℕ → Option ℕ → Option (List ℕ) → Option (List ℕ)
blanked_page (Some k) level page = option_map (λ _. zero_page) page
blanked_page None level page = table_changed blanked_table level page

abbrev pub blanked_frame : PartMap → ℕ → FrameOf → FrameOf
blanked_frame parts pfn frame = record { type = frame.type; page = blanked_page (place_of parts pfn) (level_of frame.type) frame.page }

-- of the parts, the contexts of vCPUs and the shared page have a blank form
abbrev pub blanked_part : PartKey → List ℕ → List ℕ
blanked_part key bytes = if key.code == 4 then blanked_context bytes else if key.code == 7 then blanked_shared bytes else bytes

abbrev pub blank_of : Kind → GuestOf → GuestOf
blank_of Hvm g = g
blank_of Pv g = record g { frames = each_value (blanked_frame g.parts) g.frames; parts = each_value blanked_part g.parts }

-- the blank form of a guest: an HVM guest is its own
abbrev pub blank : GuestOf → GuestOf
blank g = blank_of g.kind g

-- each number in a page or a part is a byte
pub record IsOfBytes (g : GuestOf) : Type 0 where
  pub pages : (pfn : ℕ) (frame : FrameOf) (page : List ℕ) → maps.get g.frames pfn ≡ Some frame → frame.page ≡ Some page → AreBytes page
  pub parts : (key : PartKey) (bytes : List ℕ) → maps.get g.parts key ≡ Some bytes → AreBytes bytes
