-- How much is read in all, and how many records that makes.
use Rattle.mig_dirtysave_rounds.proofs.Common.{arith, ◌≡◌, ℕ, zero, suc, ◌+◌, ◌*◌, ◌≤◌, ◌^◌, List, [], ◌∷◌, length, Option, false, sym, ap, subst, ◌∙◌, append-nil, length-append, nat_tests, length-map, Kind, PageType, FrameTold, IsSent, nothing_sent, Pfns, size, members, all_below, pfns_of_words, History, LogTook, no_history, MachineState, IsValidState, Rounds, rounds_read, all_read, Worst, IsBelow, entries_read, entries_read_before, AreTold, frames_meant, Notes, notes_of, LiveSent, SendsRounds, SavedSent, worst_fault, FramesSaved, IsUnused, size-le, all_told, AreSized, AreFull, few_batches, pfns_sent}
use Rattle.std.proofs.Math.Nat.{suc-mul}
use Rattle.mig_dirtysave_rounds.proofs.Ends.{sent_start}
use Rattle.mig_dirtysave_rounds.proofs.Saves.{length_rounds, size_none}

taken_small : (width : ℕ) (l : List LogTook) → entries_read_before width l ≤ length l * width
taken_small width [] = omega arith
taken_small width (last ∷ before) = omega (arith, taken_small width before, size-le last.asked.read width, suc-mul (length before) width)

five_times : (n width : ℕ) → n ≤ 5 → n * width ≤ 5 * width
five_times zero width le = omega arith
five_times (suc zero) width le = omega arith
five_times (suc (suc zero)) width le = omega arith
five_times (suc (suc (suc zero))) width le = omega arith
five_times (suc (suc (suc (suc zero)))) width le = omega arith
five_times (suc (suc (suc (suc (suc zero))))) width le = omega arith
five_times (suc (suc (suc (suc (suc (suc n)))))) width le = absurd (omega arith)

-- at most six sets are read
total_small : (kind : Kind) (width : ℕ) (h : History) → Rounds kind width h → entries_read width h ≤ 6 * width
total_small kind width h r =
    omega (arith, ap (entries_read_before width) r.logs, ap (λ (s : Pfns). size width s) r.stopped.0, size_none width, taken_small width r.live, five_times (length r.live) width r.number.1, size-le h.since.read width)

pub all_read_is : (width : ℕ) (h : History) (ts : List FrameTold) → pfns_sent ts ≡ all_read width h → length ts ≡ entries_read width h
all_read_is width h ts order =
    omega (arith, sym (length-map ts (λ (e : FrameTold). e.pfn)) ∙ ap length order, length-append (rounds_read width h.taken) (members width h.since.read), length_rounds width h.taken)

batches_few : (kind : Kind) (width n : ℕ) (h : History) (batches : List (List FrameTold)) → Rounds kind width h → width ≤ 2 ^ 28 → n ≤ 6 → pfns_sent (all_told batches) ≡ all_read width h → AreSized batches → AreFull n batches
    → length batches ≤ 6 * 2 ^ 18 + 6
batches_few kind width n h batches r wide rounds order sized full = omega (arith, few_batches n batches sized full, rounds, wide, total_small kind width h r, all_read_is width h (all_told batches) order)

-- ---- from the start to the end

same_notes : (noted deferred : List ℕ) (seen types : List (Option PageType)) → noted ≡ deferred → seen ≡ types → notes_of noted seen ≡ notes_of deferred types
same_notes noted deferred seen types a b = ap (λ d. notes_of d seen) a ∙ ap (notes_of deferred) b

-- with unused room the invariant holds, and nothing was sent
pub unused_start : (s : MachineState) (batch : List FrameTold) (words set noted deferred : List ℕ) (seen types : List (Option PageType)) (log : List ℕ) → IsValidState s → s.history ≡ no_history
    → length types ≡ s.host.width → words ≡ set → noted ≡ deferred → seen ≡ types → IsUnused batch set deferred types log → LiveSent s (pfns_of_words words) [] (notes_of noted seen)
unused_start s batch words set noted deferred seen types log valid unread wide a b c unused =
    sent_start s (pfns_of_words words) (notes_of noted seen) valid unread (ap pfns_of_words a ∙ unused.all ∙ ap all_below wide) (same_notes noted deferred seen types b c ∙ unused.none)

past : (width p : ℕ) → width ≤ p → all_below width p ≡ false
past width p le = grind (arith, nat_tests)

-- with unused room every PFN of the set is below the width, and none is deferred
pub unused_below : (n : ℕ) (batch : List FrameTold) (words set deferred : List ℕ) (types : List (Option PageType)) (log : List ℕ) → length types ≡ n → words ≡ set → IsUnused batch set deferred types log
    → IsBelow n (pfns_of_words words)
unused_below n batch words set deferred types log wide same unused = λ p le. ap (λ (w : List ℕ). pfns_of_words w p) same ∙ ap (λ (x : Pfns). x p) unused.all ∙ past (length types) p (omega (arith, wide, le))

pub unused_noted : (n : ℕ) (batch : List FrameTold) (noted set deferred : List ℕ) (types : List (Option PageType)) (log : List ℕ) → noted ≡ deferred → IsUnused batch set deferred types log
    → IsBelow n (pfns_of_words noted)
unused_noted n batch noted set deferred types log same unused = λ p le. ap (λ (w : List ℕ). pfns_of_words w p) same ∙ ap (λ (x : Notes). x.deferred p) unused.none

-- what was sent in the rounds
pub sent_before : (rounds : ℕ) (s t : MachineState) (set : Pfns) (words next noted deferred : List ℕ) (seen types : List (Option PageType)) (old mid : Option (List ℕ)) (notes : Notes)
    → words ≡ next → noted ≡ deferred → seen ≡ types → LiveSent s set [] notes → SendsRounds rounds s t set (pfns_of_words next) old mid notes (notes_of deferred types)
    → (between : List FrameTold) × IsSent old mid rounds [] between × LiveSent t (pfns_of_words words) between (notes_of noted seen)
sent_before rounds s t set words next noted deferred seen types old mid notes a b c start sends =
    let (between, out, live) = sends old [] (nothing_sent old) start in (
      between,
      out,
      subst (λ (p : Pfns). LiveSent t p between (notes_of noted seen)) (sym (ap pfns_of_words a)) (subst (LiveSent t (pfns_of_words next) between) (sym (same_notes noted deferred seen types b c)) live),
    )

-- what was sent in all, with nothing held
pub frames_saved : (start now : Option (List ℕ)) (flushes : ℕ) (v : MachineState) (worst : Worst) (notes : Notes) (sent : List FrameTold) → Rounds v.host.kind v.host.width v.history → v.host.width ≤ 2 ^ 28 → flushes ≤ 6
    → IsSent start now flushes [] sent → SavedSent v sent worst notes → FramesSaved start now v (worst_fault worst)
frames_saved start now flushes v worst notes sent r wide few s saved = record {
  batches = s.batches;
  written = s.written;
  sized = s.sized;
  few = batches_few v.host.kind v.host.width flushes v.history s.batches r wide few order s.sized s.full;
  count = all_read_is v.host.width v.history (all_told s.batches) order;
  order = order;
  told = subst (AreTold v.host.kind v.host.width) is saved.told;
  means = λ h none. ap frames_meant (sym is) ∙ saved.means h none;
}
  where
    is : sent ≡ all_told s.batches
    is = s.all ∙ append-nil (all_told s.batches)

    order : pfns_sent (all_told s.batches) ≡ all_read v.host.width v.history
    order = ap pfns_sent (sym is) ∙ saved.order
