-- The records of an image from its headers to its end, stage by stage.
use Rattle.mig_canon.proofs.Common.{◌≡◌, ℕ, ◌+◌, ◌*◌, ◌<◌, ◌^◌, List, [], ◌++◌, false, Option, Some, None, refl, sym, subst, ◌∙◌, arith, append_assoc, le_refl, Kind, Hvm, Pv, GuestOf, FrameMap, PartMap, IsFew, IsFormed, IsTop, HasNoEmulators, p2m_key, p2m_body, p2m_records, Record, records_in_order, static_codes, last_codes, pv_last_codes, vcpus_below, info_records, last_records, Nothing, Lists, empty_guest, IsComplete, IsSome, ends, static_end, info, p2m_frames, no_part}
use Rattle.mig_canon.specs.Canon.{p2m_record, all_vcpus}
use Rattle.mig_pvtables.specs.Whole.{IsWhole}
use Rattle.mig_pvtables.proofs.HvmGuests.{hvm_complete}
use Rattle.mig_pvtables.proofs.PvGuests.{pv_complete}
use Rattle.mig_restore_form.specs.Mean.{sent}
use Rattle.mig_canon.proofs.CanonMaps.{with_parts, holds_none, holds_codes, holds_all}
use Rattle.mig_canon.proofs.CanonOnce.{all_at_once}
use Rattle.mig_canon.proofs.CanonParts.{Fits}
use Rattle.mig_canon.proofs.CanonSteps.{guest_with, State, looser, unmoved, more, codes_more, vcpus_state}
use Rattle.mig_canon.proofs.CanonStages.{start, begun, settled, listed, framed, info_step, p2m_step, hvm_written, pv_written, vcpus_written}
use Rattle.mig_canon.proofs.PvMaps.{static_set, list_set, last_set, pv_parts, pv_parts_again, list_is_set}
use Rattle.mig_canon.proofs.PvSays.{info_body, info_says, p2m_says, p2m_body_len, vcpu_part_says}
use Rattle.std.specs.FinMap as maps

-- ---- what the records mean

-- the parts behind STATIC_DATA_END and a PV guest's P2M frames
abbrev pub listed_set : Kind → GuestOf → PartMap
listed_set Hvm g = static_set g
listed_set Pv g = list_set g

-- and behind all records
abbrev pub all_set : Kind → GuestOf → PartMap
all_set Hvm g = with_parts last_codes g (static_set g)
all_set Pv g = pv_parts g

pub parts_again : (g : GuestOf) (kind : Kind) → g.kind ≡ kind → IsFormed g → HasNoEmulators g.parts → all_set kind g ≡ g.parts
parts_again g Hvm is formed plain = holds_all g (all_set Hvm g) formed is plain (holds_codes last_codes g _ (static_set g) (holds_codes static_codes g (λ x. false) maps.empty (holds_none g.parts)))
parts_again g Pv is formed plain = pv_parts_again g formed is

pub complete_of : (g : GuestOf) (kind : Kind) → g.kind ≡ kind → IsWhole g → IsComplete kind g
complete_of g Hvm is whole = hvm_complete g is whole.faultless
complete_of g Pv is whole = pv_complete g is whole.faultless

pub few_of : (g : GuestOf) (kind : Kind) → IsComplete kind g → IsFew g.frames
few_of g Hvm complete = complete.1
few_of g Pv complete = complete.few

-- ---- the records

pub nothing_fits : (kind : Kind) (top : ℕ) → Fits kind top 0x10 [] Nothing
nothing_fits kind top = record { says = static_end; short = omega arith }

pub end_fits : (kind : Kind) (top : ℕ) → Fits kind top 0 [] Nothing
end_fits kind top = record { says = ends; short = omega arith }

pub at_start : (kind : Kind) → State kind [] (empty_guest kind) start 0
unfolding sent
at_start kind = record { records = []; spells = no_part; means = refl; going = refl; content = false; vcpu = false; stands = refl; few = le_refl 0 }

pub begun_state : (kind : Kind) → State kind (info_records kind) (empty_guest kind) (begun kind) 1
begun_state Hvm = looser (at_start Hvm) 1 (omega arith)
begun_state Pv = more (at_start Pv) info_step (record { says = info info_body info_says.1 info_says.0; short = omega arith }) (omega arith) refl

-- the record of the P2M frames that are there
pub p2m_state : (g : GuestOf) → g.kind ≡ Pv → IsFormed g → (o : Option (List ℕ)) → maps.get g.parts p2m_key ≡ o → IsSome o → (bodies : List Record) (most : ℕ) → most < 2 ^ 28 → State Pv bodies (guest_with Pv 0 maps.empty (static_set g)) (settled Pv) most
    → State Pv (bodies ++ p2m_record g.top o) (guest_with Pv g.top maps.empty (list_set g)) (listed Pv) (most + 1)
p2m_state g is formed None there some bodies most room s = absurd (cc)
p2m_state g is formed (Some frames) there some bodies most room s =
    let fits : Fits Pv 0 3 (p2m_body g.top frames) (Lists g.top frames) =
    record { says = p2m_frames g.top frames (p2m_body g.top frames) (p2m_says g formed is frames there); short = (p2m_body_len g formed is frames there).1 } in
    subst (λ (h : GuestOf). State Pv (bodies ++ p2m_record g.top (Some frames)) h (listed Pv) (most + 1)) (list_is_set g maps.empty frames there) (more s p2m_step fits room refl)

pub listed_state : (g : GuestOf) (kind : Kind) → g.kind ≡ kind → IsFormed g → IsComplete kind g → (bodies : List Record) (most : ℕ) → most < 2 ^ 28 → State kind bodies (guest_with kind 0 maps.empty (static_set g)) (settled kind) most
    → State kind (bodies ++ p2m_records kind g) (guest_with kind g.top maps.empty (listed_set kind g)) (listed kind) (most + 1)
listed_state g Hvm is formed complete bodies most room s =
    let top : g.top ≡ 0 = subst (λ (k : Kind). IsTop k g.top) is formed.top in
    subst (λ t. State Hvm (bodies ++ []) (guest_with Hvm t maps.empty (static_set g)) (listed Hvm) (most + 1)) (sym top) (unmoved s)
listed_state g Pv is formed complete bodies most room s = p2m_state g is formed (maps.get g.parts p2m_key) refl complete.p2m_there bodies most room s

-- all frames are behind
pub framed_state : (kind : Kind) (bodies : List Record) (g : GuestOf) (most : ℕ) → State kind bodies g (listed kind) most → State kind bodies g (framed kind) most
framed_state kind bodies g most s = record { records = s.records; spells = s.spells; means = s.means; going = s.going; content = s.content; vcpu = false; stands = s.stands; few = s.few }

-- at most so many records behind the frames
abbrev pub behind : ℕ
behind = 2 ^ 15

pub last_state : (g : GuestOf) (kind : Kind) → IsFormed g → (frames : FrameMap) (bodies : List Record) (most : ℕ) → most + behind < 2 ^ 28 → State kind bodies (guest_with kind g.top frames (listed_set kind g)) (framed kind) most
    → State kind (bodies ++ last_records kind g) (guest_with kind g.top frames (all_set kind g)) (framed kind) (most + behind)
unfolding all_vcpus
last_state g Hvm formed frames bodies most room s =
    looser (codes_more g formed last_codes hvm_written (all_at_once g formed last_codes refl) bodies (guest_with Hvm g.top frames (static_set g)) most (omega (arith, room)) s) (most + behind) (omega arith)
last_state g Pv formed frames bodies most room s =
    let lasts = records_in_order pv_last_codes g in
    let now = codes_more g formed pv_last_codes pv_written (all_at_once g formed pv_last_codes refl) bodies (guest_with Pv g.top frames (list_set g)) most (omega (arith, room)) s in
    let all = vcpus_state g vcpus_written (vcpu_part_says g formed) (bodies ++ lasts) (guest_with Pv g.top frames (last_set g)) (most + 2) now 4096 (omega (arith, room)) in
    looser (subst (λ l. State Pv l (guest_with Pv g.top frames (pv_parts g)) (framed Pv) (most + 2 + 4 * 4096)) (append_assoc bodies lasts (vcpus_below g 4096)) all) (most + behind) (omega arith)

pub regroup : (a b c d e f : List Record) → ((((a ++ b) ++ c) ++ d) ++ e) ++ f ≡ a ++ (b ++ (c ++ (d ++ (e ++ f))))
regroup a b c d e f = append_assoc (((a ++ b) ++ c) ++ d) e f ∙ append_assoc ((a ++ b) ++ c) d (e ++ f) ∙ append_assoc (a ++ b) c (d ++ (e ++ f)) ∙ append_assoc a b (c ++ (d ++ (e ++ f)))
