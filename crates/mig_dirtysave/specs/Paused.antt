-- A paused machine as a saver judges it: by the types that it saw last, with names that are looked up one at a time.
use Rattle.std.specs.Prelude.{◌≡◌, ℕ, List, [], ◌∷◌, Option, Some, None, is_some, get_or}
use Rattle.std.specs.Option.{option_map}
use Rattle.std.specs.FinMap as maps
use Rattle.mig_dirtysave.specs.Common.{Unsound, PartKey, GuestOf, HostOf, HostFrame, pfn_in, PartMap, MachineState, Ran, each_value, first_cause, is_used_somewhere, view, row_1, row_2, row_3, row_4, row_5, row_6, Standing, in_host, before_saver}
use Rattle.mig_pagetypes.specs.declared.page_type.PageType.{PageType}
use Rattle.mig_host_view.specs.Localised.{renamed_part}

-- the type that was seen last at each frame number
abbrev pub types_seen : List (Option PageType) → ℕ → Option PageType
types_seen types pfn = get_or types pfn None

-- the host as a saver has it that saw these types
abbrev pub standing_seen : HostOf → List (Option PageType) → Standing
standing_seen h types = before_saver h (types_seen types)

-- the same with the parts that the saver holds
abbrev pub standing_with : HostOf → List (Option PageType) → PartMap → Standing
standing_with h types parts = record (standing_seen h types) { parts = parts }

-- from s to t machine frames were looked up of a paused machine, and nothing else was asked: the host stays
pub record OnlyLooksUp (s t : MachineState) : Type 0 where
  pub ran : Ran s t t.log
  pub host : t.host ≡ s.host
  pub paused : t.paused ≡ s.paused
  pub taken : t.history.taken ≡ s.history.taken
  pub live : t.history.live ≡ s.history.live
  pub read : t.history.since.read ≡ s.history.since.read
  pub twice : t.history.since.twice ≡ s.history.since.twice

-- the types that were seen are those of the host's frames
abbrev pub HasTypes : HostOf → List (Option PageType) → Type 0
HasTypes h types = (pfn : ℕ) → types_seen types pfn ≡ option_map (λ (f : HostFrame). f.type) (maps.get h.frames pfn)

-- the first of the rows that speak of tables, in all of a host's tables
abbrev pub first_in_tables : HostOf → Option Unsound
first_in_tables h = first_cause (row_3 h.width (in_host h) ∷ row_4 h.width (in_host h) ∷ [])

-- the first row that stands, where `tables` is what was found in the tables, and where no context is an HVM guest's
abbrev pub first_around : Option Unsound → Standing → Option Unsound
first_around tables s = first_cause (row_1 s ∷ row_2 s ∷ tables ∷ row_5 s ∷ row_6 s ∷ [])

-- the guest with PFNs in the contexts that it holds, in place of the machine frames of a host
abbrev pub with_names : HostOf → GuestOf → GuestOf
with_names h g = record g { parts = each_value (renamed_part is_used_somewhere (pfn_in h.frames)) g.parts }

-- each part that the guest holds is the host's, and it holds all contexts of vCPUs
pub record HoldsOf (h : HostOf) (g : GuestOf) : Type 0 where
  pub same : (key : PartKey) (bytes : List ℕ) → maps.get g.parts key ≡ Some bytes → maps.get h.parts key ≡ Some bytes
  pub contexts : (key : PartKey) → key.code ≡ 4 → maps.get g.parts key ≡ maps.get h.parts key

-- the guest with the parts of the guest that the host is seen as, of those whose keys it holds
abbrev pub with_view : HostOf → GuestOf → GuestOf
with_view h g = record g { parts = maps.retain_keys (view h).parts (λ key. is_some (maps.get g.parts key)) }
