-- A guest as it is in a machine: its tables and the contexts of its vCPUs name machine frames (MFN), where in a stream
-- they name frame numbers (PFN).
use Rattle.std.specs.Prelude.{ℕ, List, Option, Some, None, ◌==◌, if◌then◌else◌}
use Rattle.mig_host_view.specs.Common.{option_map, Kind, Pv, Hvm, level_of, PartKey, FrameOf, GuestOf, PartMap, each_value, table_changed, place_of, p2m_page, renamed_table, Usage, is_used}
use Rattle.mig_host_view.specs.RenamedContexts.{renamed_context}

-- ---- a guest whose tables and contexts have other names in them: f gives the new name of a frame, where it has one

-- the page of a frame, where that is a table of some level
abbrev pub renamed_page : (ℕ → Option ℕ) → Option ℕ → Option (List ℕ) → Option (List ℕ)
renamed_page f level page = table_changed (renamed_table f) level page

abbrev pub renamed_frame : (ℕ → Option ℕ) → FrameOf → FrameOf
renamed_frame f frame = record { type = frame.type; page = renamed_page f (level_of frame.type) frame.page }

-- of the parts, the contexts of vCPUs have names in them
abbrev pub renamed_part : Usage → (ℕ → Option ℕ) → PartKey → List ℕ → List ℕ
renamed_part used f key bytes = if key.code == 4 then renamed_context used f key.key1 bytes else bytes

abbrev pub renamed : Usage → (ℕ → Option ℕ) → GuestOf → GuestOf
renamed used f g = record g { frames = each_value (λ pfn frame. renamed_frame f frame) g.frames; parts = each_value (renamed_part used f) g.parts }

-- ---- a guest as it is restored: mfn_of gives the machine frame of a PFN, where it has one

-- of a P2M frame listed at k the page holds the machine frames of its range; of a table, machine frames for PFNs
abbrev pub localised_page : Option ℕ → (ℕ → Option ℕ) → Option ℕ → Option (List ℕ) → Option (List ℕ)
localised_page (Some k) mfn_of level page = option_map (λ _. p2m_page mfn_of k) page
localised_page None mfn_of level page = renamed_page mfn_of level page

abbrev pub localised_frame : PartMap → (ℕ → Option ℕ) → ℕ → FrameOf → FrameOf
localised_frame parts mfn_of pfn frame = record { type = frame.type; page = localised_page (place_of parts pfn) mfn_of (level_of frame.type) frame.page }

abbrev pub localised_of : Kind → (ℕ → Option ℕ) → GuestOf → GuestOf
localised_of Hvm mfn_of g = g
localised_of Pv mfn_of g = record g { frames = each_value (localised_frame g.parts mfn_of) g.frames; parts = each_value (renamed_part is_used mfn_of) g.parts }

-- an HVM guest holds no machine frames
abbrev pub localised : (ℕ → Option ℕ) → GuestOf → GuestOf
localised mfn_of g = localised_of g.kind mfn_of g
