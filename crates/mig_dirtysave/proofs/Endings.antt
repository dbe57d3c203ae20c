-- How a save ends, by the answer of the step that ended it.
use Rattle.mig_dirtysave.proofs.Common.{◌≡◌, ℕ, ◌≤◌, List, [], append-nil, Option, Some, true, sym, ap, subst, ◌∙◌, arith, Result, Ok, Err, length, length-map, HostOf, MachineState, Unsound, UnsoundHas, is_of_no_type, unsoundness, entries_read, FrameTold, all_told, FramesSaved, KeepsShape, OnlyLooksUp, TellMost, pfns_sent, IsTrusted, IsErrAnd, no_history, IsSameShape, all_read, HasRounds, IfUnsound, LeavesNoStream, PausesMachine, SaveEnds, SaveAnswer}
use Rattle.mig_dirtysave.specs.SaveAnswers.{answer_to}
use Rattle.mig_dirtysave_rounds.specs.declared.found.SendFault.{SendFault}
use Rattle.mig_dirtysave_rounds.specs.declared.found.SendFault.TheVariants as faults
use Rattle.mig_dirtysave.specs.declared.answer.SaveAnswer.TheVariants as answers
use Rattle.mig_dirtysave.specs.declared.answer.SaveReport.{SaveReport}
use Rattle.mig_dirtysave.proofs.Ends.{Stopped, nothing_read, stopped_behind, stopped_no_stream}
use Rattle.mig_dirtysave.proofs.Looked.{all_stays, read_stays, rounds_stay, trust_stays}
use Rattle.mig_dirtysave_rounds.proofs.Steps.{told_alike}

-- ---- a stream that was stopped

-- before anything was read
pub nothing_left : (s : MachineState) → s.history ≡ no_history → entries_read s.host.width s.history ≤ 1024
nothing_left s unread = omega (arith, nothing_read s.host.width s.history unread)

pub leaves : (s t : MachineState) (old new : Option (List ℕ)) → Stopped old new s.host t.history → LeavesNoStream s t old new
leaves s t old new stopped = record { no_stream = stopped_no_stream old new s.host t.history stopped; behind = stopped_behind old new s.host t.history stopped }

-- all that was read was sent, and then machine frames alone were looked up
pub told_most : (s m t : MachineState) (old new : Option (List ℕ)) (u : Option Unsound) → KeepsShape s m → OnlyLooksUp m t → (f : FramesSaved old new m u) → TellMost s.host.kind s.host.width t.history f.batches
told_most s m t old new u kept looks f = record {
  told = told_alike (all_told f.batches) kept.shape.kind kept.shape.width f.told;
  missing = [];
  order = all_stays m t looks s.host.width ∙ ap (λ (w : ℕ). all_read w m.history) (sym kept.shape.width) ∙ sym f.order ∙ sym (append-nil (pfns_sent (all_told f.batches)));
  few = omega arith;
}

module _ (s t : MachineState) (old new : Option (List ℕ)) where
  passed_on : (r : Result SaveReport SaveAnswer) (e : SaveAnswer) → IsErrAnd r (λ x. x ≡ e) → SaveEnds s t old new (Err e) → SaveEnds s t old new r
  passed_on (Ok report) e same ends = absurd same
  passed_on (Err x) e same ends = subst (λ (a : SaveAnswer). SaveEnds s t old new (Err a)) (sym same) ends

  -- by a failed write
  pub ends_unwritten : (r : Result SaveReport SaveAnswer) → IsErrAnd r (λ x. x ≡ answers.WriteFault) → LeavesNoStream s t old new → SaveEnds s t old new r
  ends_unwritten r same left = passed_on r answers.WriteFault same left

  -- by rounds that failed
  pub ends_unsent : (r : Result SaveReport SaveAnswer) (fault : SendFault) → IsErrAnd r (λ x. x ≡ answer_to fault) → LeavesNoStream s t old new → SaveEnds s t old new r
  ends_unsent r faults.MachineFault same left = passed_on r answers.MachineFault same left
  ends_unsent r faults.WriteFault same left = passed_on r answers.WriteFault same left

-- ---- a paused machine of which machine frames were looked up since

module _ (s m t : MachineState) (looks : OnlyLooksUp m t) where
  pub pauses : m.paused ≡ true → HasRounds m → KeepsShape s m → PausesMachine s t
  pauses paused rounds kept = record {
    paused = looks.paused ∙ paused;
    rounds = rounds_stay m t looks rounds;
    kept = record { shape = subst (IsSameShape s.host) (sym looks.host) kept.shape; honest = looks.ran.honest ∙ kept.honest };
  }

  -- by the step that judges the host
  pub ends_judged : (old new : Option (List ℕ)) (r : Result SaveReport SaveAnswer) (e : SaveAnswer) → IsErrAnd r (λ x. x ≡ e) → PausesMachine s t → IfUnsound {X = Unit {0}} (Err e) (λ u. IsTrusted m → unsoundness m.host ≡ Some u)
      → IfUnsound {X = Unit {0}} (Err e) (λ u. is_of_no_type u ≡ true → (place : ℕ) × UnsoundHas m.host place u) → LeavesNoStream s t old new → SaveEnds s t old new r
  ends_judged old new r e same pause first stands left = passed_on s t old new r e same (by e first stands)
    where
      by : (a : SaveAnswer) → IfUnsound {X = Unit {0}} (Err a) (λ u. IsTrusted m → unsoundness m.host ≡ Some u) → IfUnsound {X = Unit {0}} (Err a) (λ u. is_of_no_type u ≡ true → (place : ℕ) × UnsoundHas m.host place u) → SaveEnds s t old new (Err a)
      by (answers.Unsound u) first stands = record {
        pause = pause;
        first = λ trusted. ap unsoundness looks.host ∙ first (trust_stays m t looks trusted);
        stands = λ of. subst (λ (h : HostOf). (place : ℕ) × UnsoundHas h place u) (sym looks.host) (stands of);
        unwritten = left;
      }
      by answers.MachineFault first stands = left
      by answers.WriteFault first stands = left

  -- as many entries were sent as frame numbers were read
  pub entries_are : (old new : Option (List ℕ)) (u : Option Unsound) (entries : ℕ) (f : FramesSaved old new m u) → entries ≡ entries_read m.host.width m.history → entries ≡ length (all_read t.host.width t.history)
  entries_are old new u entries f is = is ∙ sym f.count ∙ sym (length-map (all_told f.batches) (λ (e : FrameTold). e.pfn)) ∙ ap (λ (l : List ℕ). length l) (f.order ∙ read_stays m t looks)
