-- The guest of the worked PV stream, tests/examples/cases/pv-stream.case, as it was sent, before it is brought to its
-- blank form. It has frames 1 to 9, among them tables of levels 1 to 4 (4 to 7) and one P2M frame, and one vCPU.
use Rattle.std.specs.Prelude.{ℕ, ◌-◌, ◌^◌, List, [], ◌∷◌, Some, ◌==◌, replicate, if◌then◌else◌}
use Rattle.std.specs.FinMap as maps
use Rattle.mig_pvtables.specs.Common.{Pv, PageType, Notab, L1Tab, L2Tab, L3Tab, L4Pinned, FrameOf, GuestOf, longs, Part, p2m_key, vcpu_key, shared_key}

-- the number that a list gives a place, and 0 where it gives none
abbrev pub number_at : List (ℕ × ℕ) → ℕ → ℕ
number_at [] i = 0
number_at (e ∷ es) i = if i == e.0 then e.1 else number_at es i

-- a page of one byte
unfoldable pub page_of_byte : ℕ → List ℕ
page_of_byte byte = replicate 4096 byte

abbrev pub worked_page : ℕ → FrameOf
worked_page byte = record { type = Notab; page = Some (page_of_byte byte) }

-- a table, by its slots that aren't 0
abbrev pub worked_table : PageType → List (ℕ × ℕ) → FrameOf
worked_table type slots = record { type = type; page = Some (longs 512 (number_at slots)) }

-- 0x8067 is present and names frame 8, as 0x4067, 0x5067 and 0x6067 name frames 4, 5 and 6; 0xdead000 isn't present; slot
-- 260 of a level 4 table is the hypervisor's
abbrev pub worked_frames : List (ℕ × FrameOf)
worked_frames =
    (1, worked_page 0x01)
    ∷ (2, worked_page 0xee)
    ∷ (3, worked_page 0x03)
    ∷ (4, worked_table L1Tab ((1, 0x8067) ∷ (9, 0xdead000) ∷ []))
    ∷ (5, worked_table L2Tab ((0, 0x4067) ∷ []))
    ∷ (6, worked_table L3Tab ((0, 0x5067) ∷ []))
    ∷ (7, worked_table L4Pinned ((0, 0x6067) ∷ (260, 2 ^ 64 - 1) ∷ []))
    ∷ (8, worked_page 0x08)
    ∷ (9, worked_page 0x09)
    ∷ []

-- of the vCPU's context rdx (byte 616), gdt_frames[0] (byte 4832), gdt_ents (byte 4960) and ctrlreg[3] (byte 5008) aren't 0
abbrev pub worked_context : List (ℕ × ℕ)
worked_context = (77, 1) ∷ (604, 3) ∷ (620, 512) ∷ (626, 0x7000) ∷ []

-- the P2M frame is frame 2, and of SHARED_INFO the number at byte 3096 isn't 0
abbrev pub worked_parts : List Part
worked_parts = (p2m_key, longs 1 (λ _. 2)) ∷ (shared_key, longs 512 (number_at ((387, 0x99) ∷ []))) ∷ (vcpu_key 0, longs 646 (number_at worked_context)) ∷ []

abbrev pub worked_pv_guest : GuestOf
worked_pv_guest = record { kind = Pv; top = 15; frames = maps.from_entries worked_frames; parts = maps.from_entries worked_parts }
