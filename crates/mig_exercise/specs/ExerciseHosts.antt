-- The host of the exercise: a PV guest with so many frames, one tree of page tables, and frames of data.
use Rattle.std.specs.Prelude.{◌≡◌, ℕ, zero, suc, ◌+◌, ◌-◌, ◌*◌, ◌/◌, ◌^◌, ◌<◌, List, length, min, Option, Some, None, ◌==◌, nat_lt, if◌then◌else◌}
use Rattle.std.specs.FinMap as maps
use Rattle.mig_exercise.specs.Common.{Pv, HostOf, HostFrame, HostFrames, longs}
use Rattle.mig_pagetypes.specs.declared.page_type.PageType.{PageType}
use Rattle.mig_pagetypes.specs.declared.page_type.PageType.TheVariants.{Notab, L1Tab, L2Tab, L3Tab, L4Pinned}
use Rattle.mig_guest.specs.Parts.{PartMap}
use Rattle.mig_guest.specs.PartKeys.{p2m_key, vcpu_key, shared_key}
use Rattle.mig_pvtables.specs.P2mPages.{p2m_page}
use Rattle.mig_pvtables.specs.VcpuContexts.{field_place, field_of_frame}
use Rattle.mig_exercise.specs.Numbers.{number}

-- ---- which frame is what: of n frames, PFN 0 is the start page, 1 the GDT, 2 to 5 are tables of level 4 to 1, then come the
-- P2M frames, and all others are data

-- how many P2M frames there are: each is for 512 PFNs
abbrev pub p2m_frame_count : ℕ → ℕ
p2m_frame_count n = (n - 1) / 512 + 1

abbrev pub first_data : ℕ → ℕ
first_data n = 6 + p2m_frame_count n

abbrev pub data_count : ℕ → ℕ
data_count n = n - first_data n

abbrev pub exercise_type : ℕ → PageType
exercise_type pfn = if pfn == 2 then L4Pinned else if pfn == 3 then L3Tab else if pfn == 4 then L2Tab else if pfn == 5 then L1Tab else Notab

-- ---- machine frames: the last PFN has machine frame 2000000, and they are counted up from it to the first

abbrev pub exercise_machine : ℕ → ℕ → ℕ
exercise_machine n pfn = 2000000 + (n - 1 - pfn)

abbrev pub exercise_machine_of : ℕ → ℕ → Option ℕ
exercise_machine_of n pfn = if nat_lt pfn n then Some (exercise_machine n pfn) else None

-- ---- pages

-- a present entry with these flags, which is no superpage
abbrev pub present_entry : ℕ → ℕ
present_entry machine = machine * 2 ^ 12 + 0x67

-- a table whose first slots name the frames from this PFN on
abbrev pub table_naming : ℕ → ℕ → ℕ → List ℕ
table_naming n count pfn = longs 512 (λ slot. if nat_lt slot count then present_entry (exercise_machine n (pfn + slot)) else 0)

abbrev pub page_of_zeros : List ℕ
page_of_zeros = longs 512 (λ _. 0)

-- the page of a PFN; `contents` gives those of the frames of data, counted from 0
abbrev pub exercise_page : ℕ → (ℕ → List ℕ) → ℕ → List ℕ
exercise_page n contents pfn =
    if nat_lt pfn 2 then page_of_zeros else if nat_lt pfn 5 then table_naming n 1 (pfn + 1) else if pfn == 5 then table_naming n (min (data_count n) 512) (first_data n)
    else if nat_lt pfn (first_data n) then p2m_page (exercise_machine_of n) (pfn - 6) else contents (pfn - first_data n)

-- ---- the host

abbrev pub exercise_frame : ℕ → (ℕ → List ℕ) → ℕ → HostFrame
exercise_frame n contents pfn = record { type = exercise_type pfn; machine = exercise_machine n pfn; page = Some (exercise_page n contents pfn) }

-- the first m frames
unfoldable pub frames_up_to : ℕ → (ℕ → List ℕ) → ℕ → HostFrames
frames_up_to n contents zero = maps.empty
frames_up_to n contents (suc m) = maps.insert (frames_up_to n contents m) m (exercise_frame n contents m)

-- the one vCPU: rdx names the start page, its GDT of 512 descriptors stands in one frame, and ctrlreg[3] names the table of
-- level 4
abbrev pub exercise_context : ℕ → List ℕ
exercise_context n =
    longs 646 (λ place.
    if place == field_place 0 then field_of_frame 0 (exercise_machine n 0)
    else if place == field_place 1 then field_of_frame 1 (exercise_machine n 1)
    else if place == 620 then 512
    else if place == field_place 17 then field_of_frame 17 (exercise_machine n 2) else 0)

-- which PFNs are P2M frames
abbrev pub exercise_p2m_list : ℕ → List ℕ
exercise_p2m_list n = longs (p2m_frame_count n) (λ k. 6 + k)

unfoldable pub exercise_parts : ℕ → PartMap
exercise_parts n = maps.insert (maps.insert (maps.insert maps.empty p2m_key (exercise_p2m_list n)) shared_key page_of_zeros) (vcpu_key 0) (exercise_context n)

-- the host whose frames of data have these pages
abbrev pub host_with : ℕ → (ℕ → List ℕ) → HostOf
host_with n contents = record { kind = Pv; width = n; frames = frames_up_to n contents n; parts = exercise_parts n }

-- at the start data frame i has number i in its first 8 bytes, and else zeros
abbrev pub first_contents : ℕ → ℕ → List ℕ
first_contents seed i = longs 512 (λ slot. if slot == 0 then number seed i else 0)

abbrev pub host_of_exercise : ℕ → ℕ → HostOf
host_of_exercise seed n = host_with n (first_contents seed)

-- a page for each frame of data
abbrev pub ArePages : (ℕ → List ℕ) → Type 0
ArePages contents = (i : ℕ) → length (contents i) ≡ 4096

-- ---- how many frames an exercise may have

pub record IsExerciseSize (n : ℕ) : Type 0 where
  pub least : 7 < n
  pub most : n < 65537

-- how many bytes the canonical stream of its guest has
abbrev pub exercise_canon_len : ℕ → ℕ
exercise_canon_len n = 9376 + 8 * p2m_frame_count n + 16 * ((n + 1023) / 1024) + 4104 * n
