-- A body once some first bytes of it were taken: what is known of it, and how it is cut into pieces.
use Rattle.std.specs.Prelude.{◌≡◌, ◌≤◌, ℕ, ◌+◌, ◌-◌, ◌*◌, ◌/◌, min, true, List, [], ◌++◌, length, drop, fold, Option, ⊤}
use Rattle.mig_relay_bodies.specs.Common.{option_or, layout, fault_of_entries, fault_of_pv_info, fault_of_p2m, fault_of_body, fault_of_content, fault_of_scan, VcpuBasic, VcpuExtended, HvmParam, scan, Cause, pairs_fault, fault_of_context}
use Rattle.mig_records.specs.declared.layout.Layout.{Layout}
use Rattle.mig_relay_bodies.specs.Bodies.{fault_of_pair_body}
use Rattle.mig_relay_bodies.specs.ContextChain.{IsBegunContext, chain_piece}
use Rattle.mig_relay_bodies.specs.PairPieces.{no_bytes, then_byte}
use Rattle.mig_relay_bodies.specs.declared.body.BodySeen.{BodySeen}
use Rattle.mig_relay_bodies.specs.declared.known.BodyForm.{BodyForm}
use Rattle.mig_relay_bodies.specs.declared.known.BodyForm.TheVariants.{PvInfo, P2mFrames, BasicVcpu, OtherVcpu, HvmParams, EmulatorPairs, EmulatorContext}
use Rattle.mig_relay_bodies.specs.declared.known.Knows.{Knows}
use Rattle.mig_relay_bodies.specs.declared.known.Knows.TheVariants.{Nothing, Entries, Texts, Params, Basic, Verdict}

-- ---- the pieces

-- The most bytes of a first piece. That of HVM parameters has 8 bytes and 255 whole entries, and the later ones have 256
-- entries; that of an emulator's pairs has its id and its index.
abbrev pub first_piece : BodyForm → ℕ
first_piece HvmParams = 4088
first_piece EmulatorPairs = 8
first_piece _ = 4096

-- how many bytes the next piece has, where so many of a body of this length were taken
abbrev pub piece_of : Knows → ℕ → ℕ → ℕ
piece_of (Nothing form) taken len = min (len - taken) (first_piece form)
piece_of (Entries chain) taken len = chain_piece chain taken len
piece_of _ taken len = min (len - taken) 4096

-- how many bytes the next piece of this body has
abbrev pub piece_len : BodySeen → ℕ
piece_len seen = piece_of seen.knows seen.taken seen.len

-- ---- what is known

-- The fault of a whole body of this form. Of the records of vCPUs other than X86_PV_VCPU_BASIC it is the same for each.
abbrev pub fault_of_form : BodyForm → List ℕ → Option Cause
fault_of_form PvInfo body = fault_of_pv_info body
fault_of_form P2mFrames body = fault_of_p2m body
fault_of_form BasicVcpu body = fault_of_body VcpuBasic body
fault_of_form OtherVcpu body = fault_of_body VcpuExtended body
fault_of_form HvmParams body = fault_of_body HvmParam body
fault_of_form EmulatorPairs body = fault_of_pair_body body
fault_of_form EmulatorContext body = fault_of_context body

-- the lengths of such bodies
abbrev pub FitsForm : BodyForm → ℕ → Type 0
FitsForm PvInfo len = len ≡ 8
FitsForm BasicVcpu len = len ≡ 5176
FitsForm form len = 8 ≤ len

-- how HVM parameters are spelled: behind their number an index and a value each, of 8 bytes
abbrev pub params : Layout
params = layout true 8 0 8

-- the fault of the body that begins so and goes on so, by what is known of its beginning
abbrev pub fault_behind : Knows → List ℕ → List ℕ → Option Cause
fault_behind (Nothing form) begun more = fault_of_form form (begun ++ more)
fault_behind (Entries chain) begun more = fault_of_scan (scan (begun ++ more))
fault_behind (Texts named pairs) begun more = option_or (pairs_fault (drop 8 (begun ++ more))) named
fault_behind (Params first) begun more = option_or first (fault_of_entries HvmParam params (length more / 16) more)
fault_behind (Basic named) begun more = option_or named (fault_of_content VcpuBasic (drop 8 (begun ++ more)))
fault_behind (Verdict fault) begun more = fault

-- behind so many bytes whole entries of parameters stand
abbrev pub EndsInEntries : ℕ → ℕ → Type 0
EndsInEntries taken len = (n : ℕ) × (taken + 16 * n ≡ len)

-- What the bytes that were taken are, where this is known of them. They are none of a body of this form; the beginning
-- of a chain of entries, or of pairs behind an emulator's id and index; whole parameters; or the first piece of a
-- vCPU's basic context.
abbrev pub KnowsBegun : Knows → ℕ → List ℕ → Type 0
KnowsBegun (Nothing form) len begun = (begun ≡ []) × FitsForm form len
KnowsBegun (Entries chain) len begun = IsBegunContext chain len begun
KnowsBegun (Texts named pairs) len begun = (8 ≤ length begun) × (pairs ≡ fold then_byte no_bytes (drop 8 begun))
KnowsBegun (Params first) len begun = EndsInEntries (length begun) len
KnowsBegun (Basic named) len begun = (length begun ≡ 4096) × (len ≡ 5176)
KnowsBegun (Verdict fault) len begun = ⊤

-- These first bytes of a body of this length, which has this fault, were taken. In whatever way it goes on to its
-- length, its fault is the one that what is known says of that way.
pub record IsKnown (knows : Knows) (len : ℕ) (fault : List ℕ → Option Cause) (begun : List ℕ) : Type 0 where
  pub stands : KnowsBegun knows len begun
  pub says : (more : List ℕ) → length (begun ++ more) ≡ len → fault (begun ++ more) ≡ fault_behind knows begun more

-- a body with this fault, once these first bytes of it were taken
pub record IsBegunBody (seen : BodySeen) (fault : List ℕ → Option Cause) (begun : List ℕ) : Type 0 where
  pub taken : seen.taken ≡ length begun
  pub known : IsKnown seen.knows seen.len fault begun
