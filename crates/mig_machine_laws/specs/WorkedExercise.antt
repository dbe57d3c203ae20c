-- The host of the exercise with 8 frames, worked through from the words that tell it.
use Rattle.std.specs.Prelude.{◌≡◌, ◌<◌, ℕ, ◌*◌, ◌/◌, List, [], ◌∷◌, get_or, ◌==◌, if◌then◌else◌}
use Rattle.mig_machine_laws.specs.Common.{PageType, long_at}
use Rattle.mig_pagetypes.specs.declared.page_type.PageType.TheVariants.{Notab, L1Tab, L2Tab, L3Tab, L4Pinned}

-- a page says these numbers, from slot 0 on, and in each slot behind them another one
abbrev pub PageSays : List ℕ → List ℕ → ℕ → Type 0
PageSays page numbers other = (slot : ℕ) → slot < 512 → long_at page slot ≡ get_or numbers slot other

-- the start page, the GDT, a tree of four tables, the P2M frame, and one frame of data
abbrev pub eight_types : List PageType
eight_types = Notab ∷ Notab ∷ L4Pinned ∷ L3Tab ∷ L2Tab ∷ L1Tab ∷ Notab ∷ Notab ∷ []

-- their machine frames, counted up from the last
abbrev pub eight_machines : List ℕ
eight_machines = 2000007 ∷ 2000006 ∷ 2000005 ∷ 2000004 ∷ 2000003 ∷ 2000002 ∷ 2000001 ∷ 2000000 ∷ []

-- what is at each place of the vCPU's context: rdx at byte 616, gdt_frames[0] at byte 4832, how many descriptors the GDT has
-- at byte 4960, and ctrlreg[3] at byte 5008
abbrev pub eight_context : ℕ → ℕ
eight_context place = if place == 616 / 8 then 2000007 else if place == 4832 / 8 then 2000006 else if place == 4960 / 8 then 512 else if place == 5008 / 8 then 2000005 * 4096 else 0
