-- How many rounds there are, and which logs go on.
use Rattle.std.specs.Prelude.{◌||◌}
use Rattle.mig_guest.specs.Rounds.{GoesOn, OfEachLog}
use Rattle.mig_machine_laws.proofs.Common.{Kind, Hvm, LogTook, History, Rounds, to_read, size, all_below, BatchesCut, FrameTold, IsBehind, all_told, ◌≡◌, ◌≤◌, ◌<◌, ◌+◌, ◌∷◌, ◌++◌, ℕ, List, [], length, Option, Bool, true, false, inl, inr, refl, ap, subst, arith, length-append}
use Rattle.mig_machine_laws.specs.FiveRounds.{full_round, last_log, five_rounds}

pub number : (kind : Kind) (width : ℕ) (h : History) → (r : Rounds kind width h) → (1 ≤ length r.live) × (length r.live ≤ 5)
number kind width h r = r.number

pub few : (kind : Kind) (width : ℕ) (h : History) → (r : Rounds kind width h) → length r.live < 5 → size width (to_read width r.live) < 50
few kind width h r lt = elim r.sizes.1 [ inl small ↦ small | inr five ↦ omega (arith, five, lt) ]

abbrev AllGoOn : ℕ → List LogTook → Type 0
AllGoOn width logs = OfEachLog (λ before log. GoesOn width before) logs

earlier_goes_on : (width : ℕ) (later earlier : List LogTook) (log : LogTook) → AllGoOn width (later ++ log ∷ earlier) → 0 < length later → 50 ≤ size width log.log
earlier_goes_on width [] earlier log all some = omega (arith, some)
earlier_goes_on width (x ∷ []) earlier log all some = all.1
earlier_goes_on width (x ∷ y ∷ later) earlier log all some = earlier_goes_on width (y ∷ later) earlier log all.0 (omega arith)

pub many : (kind : Kind) (width : ℕ) (h : History) → (r : Rounds kind width h) → (later earlier : List LogTook) (log : LogTook) → r.live ≡ later ++ log ∷ earlier → 0 < length later → 50 ≤ size width log.log
many kind width h r later earlier log is some = earlier_goes_on width later earlier log (subst (AllGoOn width) is r.sizes.0) some

stays : (a : Bool) → (a || false) ≡ true → a ≡ true
stays true is = refl
stays false is = is

pub worked : Rounds Hvm 50 five_rounds × (five_rounds.live ≡ 5)
worked = (
  record {
    live = full_round ∷ full_round ∷ full_round ∷ full_round ∷ full_round ∷ [];
    last = last_log;
    logs = refl;
    before_pause = refl;
    number = (omega arith, omega arith);
    reads = (((((tt, refl), refl), refl), refl), refl);
    sizes = ((((((tt, tt), omega arith), omega arith), omega arith), omega arith), inr refl);
    calls = (((((tt, refl), refl), refl), refl), refl);
    stopped = (refl, refl);
    rest = λ p is. stays (all_below 50 p) is;
    once = ((((((tt, refl), refl), refl), refl), refl), refl);
  },
  refl,
)

pub behind : (start now : Option (List ℕ)) (more : ℕ) (sent : List FrameTold) → IsBehind start now more sent → (batches : List (List FrameTold)) × BatchesCut start now batches × (length sent + more ≤ length (all_told batches) + 1024)
behind start now more sent is = (is.batches, is.cut, omega (arith, ap length is.all, length-append (all_told is.batches) is.held, is.few))
