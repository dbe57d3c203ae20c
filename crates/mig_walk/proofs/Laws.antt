-- Laws of answers over whole guests and sound hosts.
use Rattle.mig_walk.proofs.Common.{◌≡◌, ℕ, ◌≤◌, true, List, Option, Some, None, IsSome, refl, sym, subst, inl, inr, option_and_then, option_map, Kind, Hvm, level_of, IsPart, width_of, FrameOf, FrameMap, GuestOf, HostOf, IsValid, long_at, vcpu_key, IsWhole, IsSound, guest_in, some_value, Standing, said_in, said_of, in_stream, in_host, NoVcpu, Absent, slot_of, IsCanonical, IsTableOf, NamesNothing, IsWalked, IsWalkedOnce, CanBeWalked, no_vcpu, absent, le-leb, ◌&&◌, is_blank_slot}
use Rattle.mig_pvtables.proofs.BlankSays.{blank_says}
use Rattle.mig_walk.proofs.SomeAnswer.{walked_once, root_reached}
use Rattle.mig_walk.proofs.Standings.{guest_ready, host_ready, one_number, one_machine, not_hvm}
use Rattle.std.specs.FinMap as maps

pub guest_once : (g : GuestOf) (vcpu address : ℕ) → IsWhole g → IsWalkedOnce (in_stream g) vcpu address
guest_once g vcpu address whole = walked_once (in_stream g) vcpu address (guest_ready g whole vcpu) (one_number g.frames)

pub host_once : (h : HostOf) (vcpu address : ℕ) → IsValid h → IsSound h → IsWalkedOnce (in_host h) vcpu address
host_once h vcpu address valid sound = walked_once (in_host h) vcpu address (host_ready h valid sound vcpu) (one_machine h.frames)

pub hvm_part : (g : GuestOf) → IsWhole g → g.kind ≡ Hvm → (vcpu : ℕ) → maps.get g.parts (vcpu_key vcpu) ≡ None
hvm_part g whole hvm vcpu = by_part (maps.get g.parts (vcpu_key vcpu)) refl
  where
    by_part : (o : Option (List ℕ)) → maps.get g.parts (vcpu_key vcpu) ≡ o → o ≡ None
    by_part None is = refl
    by_part (Some context) is = absurd (not_hvm g whole vcpu context is (subst (λ (k : Kind). IsPart k (width_of g) (vcpu_key vcpu) context) hvm (whole.formed.parts (vcpu_key vcpu) context is)))

pub hvm_none : (g : GuestOf) (vcpu address : ℕ) → IsWhole g → g.kind ≡ Hvm → IsWalked (in_stream g) vcpu address NoVcpu
hvm_none g vcpu address whole hvm = no_vcpu (hvm_part g whole hvm vcpu)

-- ---- a slot of the hypervisor

is_own : (slot : ℕ) → 256 ≤ slot → slot ≤ 271 → is_blank_slot 4 slot ≡ true
is_own slot low high = (λ i. le-leb 256 slot low i && le-leb slot 271 high i)

module _ (frames : FrameMap) (slot : ℕ) (low : 256 ≤ slot) (high : slot ≤ 271) where
  own_named : (o : Option FrameOf) → option_and_then level_of (option_map (λ (f : FrameOf). f.type) o) ≡ Some 4 → NamesNothing (said_of o slot)
  own_named None is = cc
  own_named (Some frame) is = subst (λ l. NamesNothing (said_in l frame.page slot)) (sym is) (by_page frame.page)
    where
      by_page : (page : Option (List ℕ)) → NamesNothing (said_in (Some 4) page slot)
      by_page None = inr refl
      by_page (Some page) = inl (blank_says 4 slot (long_at page slot) (is_own slot low high))

module _ (s : Standing) (vcpu address : ℕ) (ready : CanBeWalked s vcpu) (own : (pfn : ℕ) → IsTableOf s 4 pfn → NamesNothing (s.says pfn (slot_of address 4))) where
  ends_at_own : IsSome (maps.get s.parts (vcpu_key vcpu)) → IsCanonical address → IsWalked s vcpu address (Absent 4)
  ends_at_own there canonical =
      let (context, is) = some_value (maps.get s.parts (vcpu_key vcpu)) there in
      let at = root_reached s vcpu address ready context is in
      absent canonical 4 at.pfn at.reached (at.top refl) (own at.pfn (at.top refl))

pub guest_blank : (g : GuestOf) (vcpu address : ℕ) → IsWhole g → IsSome (maps.get g.parts (vcpu_key vcpu)) → IsCanonical address → 256 ≤ slot_of address 4 → slot_of address 4 ≤ 271
    → IsWalked (in_stream g) vcpu address (Absent 4)
guest_blank g vcpu address whole there canonical low high =
    ends_at_own (in_stream g) vcpu address (guest_ready g whole vcpu) (λ pfn is. own_named g.frames (slot_of address 4) low high (maps.get g.frames pfn) is) there canonical

pub host_blank : (h : HostOf) (vcpu address : ℕ) → IsValid h → IsSound h → IsSome (maps.get h.parts (vcpu_key vcpu)) → IsCanonical address → 256 ≤ slot_of address 4 → slot_of address 4 ≤ 271
    → IsWalked (in_host h) vcpu address (Absent 4)
host_blank h vcpu address valid sound there canonical low high =
    ends_at_own (in_host h) vcpu address (host_ready h valid sound vcpu) (λ pfn is. own_named (guest_in h).frames (slot_of address 4) low high (maps.get (guest_in h).frames pfn) is) there canonical
