-- What the way of an address needs, and where it has come to.
use Rattle.std.specs.Prelude.{◌≡◌, ◌<◌, ℕ, List, length, Some, IsSome}
use Rattle.std.specs.FinMap as maps
use Rattle.mig_guest.specs.declared.table.Entry.TheVariants.{Superpage, Frame}
use Rattle.mig_walk.specs.Common.{vcpu_key, Root, said_by, Standing}
use Rattle.mig_walk.specs.Walks.{IsTableOf, Reach}

-- the context of the vCPU is whole, and its root is a table of level 4; no slot of a table holds a superpage; each frame that
-- a slot names is there; and what is named has a type
pub record CanBeWalked (s : Standing) (vcpu : ℕ) : Type 0 where
  pub size : (context : List ℕ) → maps.get s.parts (vcpu_key vcpu) ≡ Some context → length context ≡ 5168
  pub root : (context : List ℕ) → maps.get s.parts (vcpu_key vcpu) ≡ Some context → (pfn : ℕ) × (s.names (said_by Root context) ≡ Some pfn) × IsTableOf s 4 pfn
  pub small : (pfn slot : ℕ) → slot < 512 → s.says pfn slot ≡ Superpage → ⊥
  pub known : (pfn slot number : ℕ) → slot < 512 → s.says pfn slot ≡ Frame number → IsSome (s.names number)
  pub typed : (number pfn : ℕ) → s.names number ≡ Some pfn → IsSome (s.types pfn)

-- a number names the frame to which the address comes at a level; at level 4 that is a table of this level
pub record IsReached (s : Standing) (vcpu address level number : ℕ) : Type 0 where
  pub pfn : ℕ
  pub named : s.names number ≡ Some pfn
  pub reached : Reach s vcpu address level pfn
  pub top : level ≡ 4 → IsTableOf s 4 pfn
