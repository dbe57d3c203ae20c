use Rattle.mig_restore.proofs.Common.{put_frames, typed_at, Nothing, lists_of, Truncated, fault_of_p2m, refl, rules, ◌≡◌, ◌∙◌, List, ℕ, Option, Some, Result, ap, sym, subst, Judged, AgreesWithJudging, Stop, Cause, RecordType, code_of_number, PartCode, Content, code_of_type, has_length, same_kinds, sets_no_emulator, fault_of_pv_info, front_said}
use Rattle.mig_restore_form.proofs.Bodies.{coded_is, shaped_code}
use Rattle.mig_restore_form.specs.Judging.{info_at, p2m_at}
use Rattle.mig_restore.proofs.Noted.{said_only, still, typed_stays}
use Rattle.mig_restore.proofs.Fronts.{front_typed}
use Rattle.mig_restore.proofs.body.take_typed.Goals as goal

found : (this : RecordType) (code : PartCode) (number : ℕ) (r : Option PartCode) → code_of_type this ≡ code_of_number number → r ≡ code_of_number number → r ≡ Some code → code_of_type this ≡ Some code
found this code number r a b is = a ∙ sym b ∙ is

-- what is read as one says is read as the other
as_coded : {X : Type 0} (R : X → Content → Type 0) (a b : Option (List ℕ)) (f h : List ℕ → Judged Cause Content) (r : Result X (Stop Cause)) → ((i : List ℕ) → h i ≡ f i) → AgreesWithJudging R a b f r → AgreesWithJudging R a b h r
as_coded R a b f h r same given = subst (λ (k : List ℕ → Judged Cause Content). AgreesWithJudging R a b k r) (λ j i. sym (same i) j) given

pub take_sets-requires : goal.take_sets-requires
take_sets-requires g c =
    let is = found c.args.this c.in-Some.code c.number.result c.from_number.result (ap code_of_number (sym c.number.ensures)) c.from_number.ensures c.in-Some.is in
    record {
      small = c.requires.small;
      allowed = has_length c.args.this c.in-Some.code is c.args.len c.requires.allowed;
      of_kind = sym (same_kinds c.args.this c.in-Some.code is c.args.guest.now.kind) ∙ c.requires.of_kind;
      no_emulator = sets_no_emulator c.args.this c.in-Some.code is;
    }

pub returns-in-Some : goal.returns-in-Some
returns-in-Some g c =
    let kind = c.args.guest.now.kind in let top = c.args.guest.now.top in
    let is = found c.args.this c.in-Some.code c.number.result c.from_number.result (ap code_of_number (sym c.number.ensures)) c.from_number.ensures c.in-Some.is in
    record {
      read = as_coded _ _ _ _ _ _ (λ i. coded_is kind top c.args.this c.in-Some.code c.args.len i is (shaped_code c.args.this c.in-Some.code is c.in_default.not-X86PvP2mFrames)) (c.take_sets.ensures.read g.F.KeepsFrames.put);
      grown = c.take_sets.ensures.grown;
      faults = c.take_sets.ensures.faults;
      noted = still g.F.KeepsFrames.notes c.goes_on.ensures.read_on _ c.args.keeper.now _ _ (typed_at kind top (Some c.args.this) c.args.len) (put_frames kind) _ (front_typed kind top c.args.len (Some c.args.this))
          (λ i rest said judged frames. typed_stays kind top c.args.len frames c.args.this c.in_default.not-PageData i rest said judged)
          (as_coded _ _ _ _ _ _ (λ i. coded_is kind top c.args.this c.in-Some.code c.args.len i is (shaped_code c.args.this c.in-Some.code is c.in_default.not-X86PvP2mFrames)) (c.take_sets.ensures.read g.F.KeepsFrames.put));
    }

pub returns-in-X86PvP2mFrames-clause-read : goal.returns-in-X86PvP2mFrames-clause-read
returns-in-X86PvP2mFrames-clause-read g c = let told = c.take_p2m.ensures.read g.F.KeepsFrames.put in search rules

pub returns-in-X86PvInfo-clause-noted : goal.returns-in-X86PvInfo-clause-noted
returns-in-X86PvInfo-clause-noted g c =
    let kind = c.args.guest.now.kind in
    let told = still g.F.KeepsFrames.notes c.goes_on.ensures.read_on _ c.args.keeper.now _ _ (info_at c.args.len) (put_frames kind) _ (front_said Truncated fault_of_pv_info (λ _. Nothing) c.args.len)
    (λ i rest said judged frames. said_only (λ d. put_frames kind d frames ≡ frames) Truncated fault_of_pv_info (λ _. Nothing) c.args.len i rest said (λ _. refl) judged) c.take_info.ensures.read in
    search rules

pub returns-in-X86PvP2mFrames-clause-noted : goal.returns-in-X86PvP2mFrames-clause-noted
returns-in-X86PvP2mFrames-clause-noted g c =
    let kind = c.args.guest.now.kind in
    let told = still g.F.KeepsFrames.notes c.goes_on.ensures.read_on _ c.args.keeper.now _ _ (p2m_at c.args.len) (put_frames kind) _ (front_said Truncated fault_of_p2m lists_of c.args.len)
    (λ i rest said judged frames. said_only (λ d. put_frames kind d frames ≡ frames) Truncated fault_of_p2m lists_of c.args.len i rest said (λ _. refl) judged) (c.take_p2m.ensures.read g.F.KeepsFrames.put) in
    search rules
