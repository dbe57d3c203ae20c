-- What reading and sending one PFN does, and what a set of them does.
use Rattle.std.specs.Prelude.{◌≡◌, ℕ, zero, suc, ◌+◌, ◌*◌, ◌≤◌, List, [], ◌++◌, length, true, false, Option, Some, None, if◌then◌else◌}
use Rattle.mig_dirtysave_rounds.specs.Common.{option_map, HostFrames, FrameTold, IsSent, rounds_read, Pfns, no_pfns, members, size, footprint, MachineState, IsSameShape}
use Rattle.mig_dirtysave_rounds.specs.declared.found.Found.{Found}
use Rattle.mig_dirtysave_rounds.specs.declared.found.Found.TheVariants as found
use Rattle.mig_dirtysave_rounds.specs.declared.found.Worst.{Worst}
use Rattle.mig_dirtysave_rounds.specs.Findings.{Finding, judged}
use Rattle.mig_dirtysave_rounds.specs.Findings.Finding.{Gone, Shows, HasSuperpage, LacksFrame}
use Rattle.mig_dirtysave_rounds.specs.Step.{most_calls}
use Rattle.mig_dirtysave_rounds.specs.Parts.{front, rest}
use Rattle.mig_dirtysave_rounds.specs.Entries.{pfns_sent, AreTold, MostSent}
use Rattle.mig_dirtysave_rounds.specs.Current.{Notes, Current}

-- ---- the first tables that no stream can have

abbrev pub or_first : {A : Type 0} → Option A → Option A → Option A
or_first (Some x) y = Some x
or_first None y = y

-- the slot of the superpage that was found
abbrev pub found_super : Found → Option ℕ
found_super found.Gone = None
found_super (found.Shows kind) = None
found_super (found.Superpage kind slot) = Some slot
found_super (found.NoFrame kind slot) = None

-- and of the entry whose machine frame has no PFN
abbrev pub found_lost : Found → Option ℕ
found_lost found.Gone = None
found_lost (found.Shows kind) = None
found_lost (found.Superpage kind slot) = None
found_lost (found.NoFrame kind slot) = Some slot

-- the same two, of a finding
abbrev pub super_of : Finding → Option ℕ
super_of Gone = None
super_of (Shows frame) = None
super_of (HasSuperpage type slot) = Some slot
super_of (LacksFrame type slot) = None

abbrev pub lost_of : Finding → Option ℕ
lost_of Gone = None
lost_of (Shows frame) = None
lost_of (HasSuperpage type slot) = None
lost_of (LacksFrame type slot) = Some slot

-- a PFN with a slot of its table
abbrev pub place : ℕ → Option ℕ → Option (ℕ × ℕ)
place p slot = option_map (λ s. (p, s)) slot

-- of the PFNs below n the first that has a slot, with it
unfoldable pub first_pfn : (ℕ → Option ℕ) → ℕ → Option (ℕ × ℕ)
first_pfn f zero = None
first_pfn f (suc n) = or_first (first_pfn f n) (place n (f n))

-- f within a set, and nothing outside it
abbrev pub within_set : Pfns → (ℕ → Option ℕ) → ℕ → Option ℕ
within_set set f q = if set q then f q else None

-- the first superpage of the set's members below i, and the first entry whose machine frame has no PFN
pub record IsWorst (i : ℕ) (set : Pfns) (frames : HostFrames) (worst : Worst) : Type 0 where
  pub superpage : worst.superpage ≡ first_pfn (within_set set (λ q. super_of (judged (footprint frames q)))) i
  pub lost : worst.lost ≡ first_pfn (within_set set (λ q. lost_of (judged (footprint frames q)))) i

-- ---- a set of PFNs

-- its members below i were read from s to t, each once, and nothing else was asked
pub record ReadsFront (i : ℕ) (set : Pfns) (s t : MachineState) : Type 0 where
  pub shape : IsSameShape s.host t.host
  pub honest : t.honest ≡ s.honest
  pub paused : t.paused ≡ s.paused
  pub stopped : s.paused ≡ true → t.host ≡ s.host
  pub taken : t.history.taken ≡ s.history.taken
  pub count : t.history.live ≡ s.history.live
  pub read : t.history.since.read ≡ front i set
  pub once : t.history.since.twice ≡ false
  pub least : size i set ≤ t.history.since.calls
  pub most : t.history.since.calls ≤ most_calls s.host.kind * size i set

-- and sent, ascending: `before` was sent at s, and `after` at t. Over an honest machine the invariant is carried on, and
-- over one that is paused, as if its log were empty.
pub record SendsFront (i : ℕ) (set : Pfns) (s t : MachineState) (before after : List FrameTold) (notes later : Notes) : Type 0 where
  pub names : pfns_sent after ≡ pfns_sent before ++ members i set
  pub told : AreTold s.host.kind s.host.width before → AreTold s.host.kind s.host.width after
  pub live : s.honest ≡ true → Current set s.log s.host.frames before notes → Current (rest i set) t.log t.host.frames after later
  pub still : s.paused ≡ true → Current set no_pfns s.host.frames before notes → Current (rest i set) no_pfns t.host.frames after later

-- whatever was sent before with so many flushes, these PFNs were sent behind it, with one flush more
abbrev pub SendsSet : ℕ → Pfns → MachineState → MachineState → Option (List ℕ) → Option (List ℕ) → Notes → Notes → Type 0
SendsSet width set s t old new notes later = (start : Option (List ℕ)) (flushes : ℕ) (before : List FrameTold) → IsSent start old flushes [] before
    → (after : List FrameTold) × IsSent start new (flushes + 1) [] after × SendsFront width set s t before after notes later

-- where what was sent at s was all that was read before, most of what was read at t stands in whole records
abbrev pub SetLeavesBehind : MachineState → MachineState → Option (List ℕ) → Option (List ℕ) → Type 0
SetLeavesBehind s t old new = (start : Option (List ℕ)) (flushes : ℕ) (before : List FrameTold) → IsSent start old flushes [] before
    → pfns_sent before ≡ rounds_read s.host.width s.history.taken → AreTold s.host.kind s.host.width before → MostSent start new s.host.kind s.host.width t.history
