-- A valid host meets what the test of whether it can be seen as a guest requires.
use Rattle.mig_host.proofs.Common.{◌≡◌, ℕ, ◌+◌, ◌-◌, ◌≤◌, ◌^◌, true, length, List, Option, Some, None, Result, Ok, Err, refl, sym, subst, ◌∙◌, arith, eqb-true, one_code, FrameMap, HostOf, IsHostPart, IsValid, PartKey, PartMap, MachineMap, machine_in, Kind, row_of, code_number, p2m_key, PartCode, pfn_in, each_value, count_in, IsSound, unsoundness, without_machine, guest_in, sound_is_faultless, ◌*◌, ◌/◌, IfOk, P2mFrames, VcpuBasic, unsound_rows}
use Rattle.mig_headers.specs.declared.unsound.Unsound.{Unsound}
use Rattle.mig_pvtables.specs.Faults.{first_cause}
use Rattle.mig_host.proofs.HostMaps.{joined, without_machines}
use Rattle.std.specs.FinMap as maps

-- the frames of a host without their machine frames are those that it keeps
pub frames_kept : (frames : FrameMap) (machines : MachineMap) → frames ≡ each_value (λ pfn f. without_machine f) (joined frames machines)
frames_kept frames machines = sym (without_machines frames (machine_in machines))

-- a part of a host has the length that the row of its code allows
pub length_allowed : (code : PartCode) (kind : Kind) (width : ℕ) (key : PartKey) (bytes : List ℕ) → IsHostPart kind width key bytes → key.code ≡ code_number code → (row_of code).allows width (length bytes) ≡ true
length_allowed code kind width key bytes is number = subst (λ c. (row_of c).allows width (length bytes) ≡ true) (one_code is.code code (sym is.number ∙ number)) is.len

module _ (h : HostOf) (valid : IsValid h) where
  few_in : (o : Option (List ℕ)) → maps.get h.parts p2m_key ≡ o → count_in o ≤ 2 ^ 43
  few_in None is = omega arith
  few_in (Some bytes) is =
      let size : length bytes ≡ 8 * ((h.width - 1) / 512 + 1) = eqb-true (length bytes) (8 * ((h.width - 1) / 512 + 1)) (length_allowed P2mFrames h.kind h.width p2m_key bytes (valid.parts p2m_key bytes is) refl) in
      omega (arith, valid.width, size)

  -- a host lists no more P2M frames than its width asks for
  pub few_listed : count_in (maps.get h.parts p2m_key) ≤ 2 ^ 43
  few_listed = few_in (maps.get h.parts p2m_key) refl

  pub contexts_long : (key : PartKey) (context : List ℕ) → maps.get h.parts key ≡ Some context → key.code ≡ 4 → length context ≡ 5168
  contexts_long key context is code = eqb-true (length context) 5168 (length_allowed VcpuBasic h.kind h.width key context (valid.parts key context is) code)

-- where nothing is in the way, the host is sound
pub sound_if_none : (h : HostOf) → unsoundness h ≡ None → IsSound h
sound_if_none h none = (sound_is_faultless h).1 none

-- what is found in the frames and the parts that a host keeps is in the way of seeing it
pub cause_found : {E : Type 0} (h : HostOf) (kind : Kind) (frames : FrameMap) (parts : PartMap) (r : Result (Option Unsound) E) → kind ≡ h.kind → frames ≡ (guest_in h).frames → parts ≡ h.parts
    → IfOk r (λ found. found ≡ first_cause (unsound_rows kind frames parts (pfn_in h.frames))) → IfOk r (λ found. found ≡ unsoundness h)
cause_found h kind frames parts (Ok found) a b c is = is ∙ (λ i. first_cause (unsound_rows (a i) (b i) (c i) (pfn_in h.frames)))
cause_found h kind frames parts (Err e) a b c is = tt
