-- An HVM guest at the end of its stream: two causes are tried, of its context and of how many frames it has.
use Rattle.mig_pvtables.proofs.Common.{◌≡◌, ◌∷◌, [], length, Bool, true, false, cond, nat_lt, Some, None, is_none, IsSome, refl, sym, ap, ◌∙◌, option_or, Missing, TooManyFrames, Hvm, most_frames, GuestOf, IsFormed, blank, blank_of, first_cause, faults_for, fault_of_guest, IsWhole, IsFew, context_key}
use Rattle.std.specs.Prelude.{◌↔◌}
use Rattle.mig_headers.specs.Rows.{first_fault}
use Rattle.mig_headers.specs.declared.fault.Cause.{Cause}
use Rattle.mig_pvtables.proofs.Searches.{all_none, is_there, are_few}
use Rattle.std.specs.FinMap as maps

pub hvm_blank : (g : GuestOf) → g.kind ≡ Hvm → blank g ≡ g
hvm_blank g is = ap (λ k. blank_of k g) is

by_kind : (g : GuestOf) → g.kind ≡ Hvm → fault_of_guest g ≡ first_cause (faults_for Hvm g)
by_kind g is = ap (λ k. first_cause (faults_for k g)) is

unless : (b c : Bool) (x y : Cause) → option_or (cond b (Some x) None) (option_or (cond c (Some y) None) None) ≡ first_fault ((b, x) ∷ (c, y) ∷ [])
unless true c x y = refl
unless false true x y = refl
unless false false x y = refl

pub hvm_fault : (g : GuestOf) → g.kind ≡ Hvm → fault_of_guest g ≡ first_fault ((is_none (maps.get g.parts context_key), Missing 9) ∷ (nat_lt most_frames (length (maps.entries g.frames)), TooManyFrames) ∷ [])
hvm_fault g is = by_kind g is ∙ unless (is_none (maps.get g.parts context_key)) (nat_lt most_frames (length (maps.entries g.frames))) (Missing 9) TooManyFrames

-- ---- complete

pub hvm_complete : (g : GuestOf) → g.kind ≡ Hvm → fault_of_guest g ≡ None → IsSome (maps.get g.parts context_key) × IsFew g.frames
hvm_complete g is none =
    let (context, (few, _)) = (all_none (faults_for Hvm g)).0 (sym (by_kind g is) ∙ none) in
    ((is_there (maps.get g.parts context_key) (Missing 9)).0 context, (are_few (length (maps.entries g.frames))).0 few)

pub hvm_faultless : (g : GuestOf) → g.kind ≡ Hvm → IsSome (maps.get g.parts context_key) → IsFew g.frames → fault_of_guest g ≡ None
hvm_faultless g is context few = by_kind g is ∙ (all_none (faults_for Hvm g)).1 ((is_there (maps.get g.parts context_key) (Missing 9)).1 context, ((are_few (length (maps.entries g.frames))).1 few, tt))

pub hvm_whole : (g : GuestOf) → g.kind ≡ Hvm → IsWhole g ↔ (IsFormed g × IsSome (maps.get g.parts context_key) × IsFew g.frames)
hvm_whole g is = (
  λ whole. let (context, few) = hvm_complete g is whole.faultless in (whole.formed, context, few),
  λ words. record { formed = words.0; faultless = hvm_faultless g is words.1 words.2 },
)
