-- Which frame an address means to a vCPU (Intel SDM volume 3, "4-level paging"; AMD64 manual volume 2, "Long-mode page
-- translation"; Xen public/arch-x86/xen.h, vcpu_guest_context), wherever the guest stands: in a stream, in which fields and
-- entries name frame numbers (PFN), or in a host, in which they name the PFN that has their machine frame.
use Rattle.std.specs.Prelude.{◌≡◌, ◌⊎◌, ◌≤◌, ℕ, ◌+◌, ◌-◌, ◌*◌, ◌/◌, ◌%◌, ◌^◌, List, Some, None, IsSome, option_and_then}
use Rattle.std.specs.FinMap as maps
use Rattle.mig_walk.specs.Common.{level_of, vcpu_key, Root, said_by, Standing}
use Rattle.mig_pagetypes.specs.declared.page_type.PageType.{PageType}
use Rattle.mig_guest.specs.declared.table.Entry.{Entry}
use Rattle.mig_guest.specs.declared.table.Entry.TheVariants as entries
use Rattle.mig_walk.specs.declared.walk.Walked.{Walked}
use Rattle.mig_walk.specs.declared.walk.Walked.TheVariants.{Frame, NoVcpu, NotCanonical, Absent, NotTable}

-- the slot that an address selects in a table of a level from 1 to 4: nine bits for each level, above twelve bits that select
-- a byte of a page
unfoldable pub slot_of : ℕ → ℕ → ℕ
slot_of address level = address / 2 ^ (3 + 9 * level) % 512

-- bits 63 to 47 are all equal: all 0, or all 1
abbrev pub IsCanonical : ℕ → Type 0
IsCanonical address = (address / 2 ^ 47 ≡ 0) ⊎ (address / 2 ^ 47 ≡ 2 ^ 17 - 1)

-- the frame of a PFN is a table of this level, pinned or not
abbrev pub IsTableOf : Standing → ℕ → ℕ → Type 0
IsTableOf s level pfn = option_and_then level_of (s.types pfn) ≡ Some level

-- it is one of the hypervisor's own slots, or isn't present
abbrev pub NamesNothing : Entry → Type 0
NamesNothing entry = (entry ≡ entries.Blank) ⊎ (entry ≡ entries.NotPresent)

-- On its way from level 4 down, an address comes to the frame of a PFN at a level: at level 4 to the frame that ctrlreg[3]
-- of the vCPU names; and at a level below to each frame that is named by the entry, in the address's slot, of a table of the
-- level above to which it comes there. At level 0 it has come to the frame that it means.
pub data Reach (s : Standing) (vcpu address : ℕ) : ℕ → ℕ → Type 0 where
  by_root : (context : List ℕ) (pfn : ℕ) → maps.get s.parts (vcpu_key vcpu) ≡ Some context → s.names (said_by Root context) ≡ Some pfn → Reach s vcpu address 4 pfn
  by_entry : (level table number pfn : ℕ) → Reach s vcpu address (level + 1) table → IsTableOf s (level + 1) table
      → s.says table (slot_of address (level + 1)) ≡ entries.Frame number → s.names number ≡ Some pfn → Reach s vcpu address level pfn

-- What each answer says. The number of a frame is the one that names its PFN: the PFN itself in a stream, and the machine
-- frame in a host.
pub data IsWalked (s : Standing) (vcpu address : ℕ) : Walked → Type 0 where
  no_vcpu : maps.get s.parts (vcpu_key vcpu) ≡ None → IsWalked s vcpu address NoVcpu
  not_canonical : IsSome (maps.get s.parts (vcpu_key vcpu)) → (IsCanonical address → ⊥) → IsWalked s vcpu address NotCanonical
  absent : IsCanonical address → (level pfn : ℕ) → Reach s vcpu address level pfn → IsTableOf s level pfn
      → NamesNothing (s.says pfn (slot_of address level)) → IsWalked s vcpu address (Absent level)
  not_table : IsCanonical address → (level pfn : ℕ) → 1 ≤ level → level ≤ 3 → Reach s vcpu address level pfn
      → (IsTableOf s level pfn → ⊥) → IsWalked s vcpu address (NotTable level)
  frame : IsCanonical address → (number pfn : ℕ) (kind : PageType) → Reach s vcpu address 0 pfn → s.names number ≡ Some pfn
      → s.types pfn ≡ Some kind → IsWalked s vcpu address (Frame number kind)

-- exactly one answer holds
abbrev pub IsWalkedOnce : Standing → ℕ → ℕ → Type 0
IsWalkedOnce s vcpu address = (answer : Walked) × IsWalked s vcpu address answer × ((other : Walked) → IsWalked s vcpu address other → other ≡ answer)

-- ---- a guest that is restored

-- the answer with another number for the one of a frame
abbrev pub at_machine : (ℕ → ℕ) → Walked → Walked
at_machine machine_of (Frame pfn kind) = Frame (machine_of pfn) kind
at_machine machine_of answer = answer
