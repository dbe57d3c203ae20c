-- From what a relay keeps to the bytes that it stands for.
use Rattle.mig_relay.proofs.Common.{◌≡◌, ◌≢◌, ℕ, ◌≤◌, Bool, true, false, List, [], ◌∷◌, ◌++◌, length, take, drop, min, ◌+◌, ◌-◌, ◌^◌, ◌<◌, Option, Some, None, Result, Ok, Err, refl, sym, ap, subst, ◌∙◌, arith, append_assoc, append-nil, length-append, length-drop, take-append-drop, Consumes, Appends, AppendsPart, Judged, Passes, passes_not, Cause, Truncated, Place, StreamOf, IsPassable, fault_of_record_body, record_content, bodies_are_parts, before, in_hand, place_of_spot, Keeps, KeepsNext, HasRecords, Next, AtMarker, AtVersion, AtKind, AtHead, AtBody, AtFront, AtWords, AtPages, AtPadding, BeginsWithPart, HasPassed, IsRelayed, Turned, RisesOnAnswer, WritesOnReadFault, Outer, Spot, AtStart, AtLibxlHeader, AtLibxlHead, AtLibxlBody, AtLibxlPadding, InImage, AtEnd, spot, held, most_of_part, carry, FrontsAreCut, PassedPiece, IsUnfinished, is_judged_first, Refuses, Stops, StepMoved, MovedBy, counted, Fits, RelayAnswer, Refused, WriteFault, Memory, Relayed, Step, Coming, Relay, is_some, Stands, RisesOnFault, EndsInside, WritesSome, may_wait, most_waiting, ReadFault, true≢false}
use Rattle.std.proofs.KnownBytes.{Appends-nil, Appends-trans, Consumes-trans}
use mathlib.Core.Logic.{inl, inr}
use Rattle.std.specs.Io.KnownBytes.{Keeps as Stays}
use Rattle.mig_bytes.specs.Faults.{Rose}
use Rattle.mig_relay.specs.Streams.{open_stream_at}
use Rattle.mig_relay.proofs.Streams.{unfinished_is_not_accepted}
use Rattle.mig_relay.specs.Relaying.{HasBytes, RelayedBy, PassedPart as IsWritten, RefusedPart, NoneIsAccepted, NoneWaits, IsCutPart, IsWrittenPart, TurnedBy, held_answer, unwritten}
use Rattle.mig_relay.specs.Standing.{StandsForBytes, StepSays, PassesOn, IsRefusedBehind, WritesSomeBehind, StopsInside, behind_step, is_at_end, is_over, is_within, goes_on}
use Rattle.mig_relay.specs.Following.{LeadsTo, begins_part, from_start, leads_on}
use Rattle.mig_relay.specs.Keeping.{words_in_hand}
use Rattle.mig_relay.specs.Steps.{LeavesWords}
use Rattle.mig_relay.proofs.Leading.{all_come, keeps_number}
use Rattle.mig_relay.proofs.Moves.{cut}
use Rattle.mig_relay.proofs.Paging.{front_is, words_is, page_is, page_comes}
use Rattle.mig_relay.proofs.Places.{Told, told}
use Rattle.mig_relay.proofs.SpotParts.{lifted, start_is, header_is, libxl_head_is, libxl_body_is, libxl_padding_is}
use Rattle.mig_relay.proofs.Unrolls.{marker_is, version_is, kind_is, head_is, body_is, padding_is}
use Rattle.mig_relay.specs.declared.answer.Step.TheVariants as steps
use Rattle.mig_relay.specs.declared.state.Coming.TheVariants as comes

-- ---- a relay that isn't at the end stands in a part that isn't whole

-- of a part, fewer bytes than it has
still_cut : (here : Spot) {place : Place} {size : ℕ} {fault : List ℕ → Option Cause} {follows : List ℕ → List ℕ → Judged (Place × Cause) StreamOf} → BeginsWithPart (spot here) place size fault follows → (begun : List ℕ) → length begun < size → EndsInside (spot here begun)
still_cut here {place} {size} {fault} {follows} is begun less = (place, cut here place size fault follows is begun less)

-- or none
none_cut : (here : Spot) {place : Place} {size : ℕ} {fault : List ℕ → Option Cause} {follows : List ℕ → List ℕ → Judged (Place × Cause) StreamOf} → BeginsWithPart (spot here) place size fault follows → (begun : List ℕ) → begun ≡ [] → EndsInside (spot here begun)
none_cut here is begun none = subst (λ l. EndsInside (spot here l)) (sym none) (still_cut here is [] is.some)

-- What is so wherever a relay stands. What is judged there is cut, but for the end; what comes next tells whether a record is
-- in hand; of what is judged at once no byte was passed on; a body has bytes, and its head no fault; no more than may
-- wait, and the part that comes next, is no more than may wait with it; and what was begun is no more than the part has.
record IsAt (r : Relay) (here : Spot) (begun : List ℕ) : Type 0 where
  cut : is_at_end r.coming ≡ false → EndsInside (spot here begun)
  within : is_within r.coming ≡ is_some (in_hand here)
  unbegun : is_judged_first here ≡ true → begun ≡ []
  some : HasBytes here
  room : may_wait r.coming (length r.words.items) + held here ≤ most_waiting here
  few : length begun ≤ most_of_part here

module _ (r : Relay) where
  -- a part that is taken at once
  once : (here : Spot) (begun : List ℕ) (c : Coming) {place : Place} {size : ℕ} {fault : List ℕ → Option Cause} {follows : List ℕ → List ℕ → Judged (Place × Cause) StreamOf} → BeginsWithPart (spot here) place size fault follows → r.coming ≡ c → begun ≡ []
      → is_within c ≡ is_some (in_hand here) → HasBytes here → may_wait c (length r.words.items) + held here ≤ most_waiting here → IsAt r here begun
  once here begun c is comes none within some room = record { cut = λ _. none_cut here is begun none; within = ap is_within comes ∙ within; unbegun = λ _. none; some = some; room = rw comes room; few = omega (arith, ap length none) }

  is_at_next : (outer : Outer) (next : Next) (begun : List ℕ) → KeepsNext r next begun → IsAt r (InImage outer next) begun
  is_at_next outer AtMarker begun (is, none) = once (InImage outer AtMarker) begun comes.Marker (lifted (carry outer) marker_is) is none refl tt (omega arith)
  is_at_next outer AtVersion begun (is, none) = once (InImage outer AtVersion) begun comes.Version (lifted (carry outer) version_is) is none refl tt (omega arith)
  is_at_next outer (AtKind version) begun (is, none) = once (InImage outer (AtKind version)) begun (comes.Kind version) (lifted (carry outer) (kind_is version)) is none refl tt (omega arith)
  is_at_next outer (AtHead o records) begun (is, kept, none) = once (InImage outer (AtHead o records)) begun comes.Head (lifted (carry outer) (head_is o records kept.going)) is none refl tt (omega arith)
  is_at_next outer (AtBody o records head) begun (is, kept, other, first, body) = record {
    cut = λ _.
        still_cut (InImage outer (AtBody o records head))
        (lifted (carry outer) (body_is o records head (fault_of_record_body head.kind) (record_content head.kind) (bodies_are_parts (before o records) head.kind head.len other.fine other.other) (omega (arith, body.less)))) begun body.less;
    within = ap is_within is;
    unbegun = λ judged. absurd (true≢false (sym judged));
    some = (omega (arith, body.less), other.fine);
    room = rw is (omega arith);
    few = omega (arith, body.less);
  }
  is_at_next outer (AtFront o records head) begun (is, kept, pages, none) = once (InImage outer (AtFront o records head)) begun (comes.Front head) (front_is outer o records head) is none refl tt (omega arith)
  is_at_next outer (AtWords o records head n) begun (is, kept, pages, count, none) = once (InImage outer (AtWords o records head n)) begun (comes.Words head n) (words_is outer o records head n count.0) is none refl tt (omega arith)
  is_at_next outer (AtPages o records head coming stood) begun (is, kept, pages, whole, words, none) =
      once (InImage outer (AtPages o records head coming stood)) begun (comes.Page head) (page_is outer o records head r coming stood words) is none refl (page_comes r coming stood words) (omega (arith, words.behind, all_come r.words.items r.page coming words.left (omega (arith, words.some))))
  is_at_next outer (AtPadding o records head content) begun (is, kept, some, other, none) = once (InImage outer (AtPadding o records head content)) begun (comes.Padding head) (lifted (carry outer) (padding_is o records head content some)) is none refl tt (omega arith)

  is_at : (here : Spot) (begun : List ℕ) → Keeps r here begun → IsAt r here begun
  is_at AtStart begun (is, alone, none) = once AtStart begun comes.Start start_is is none refl tt (omega arith)
  is_at AtLibxlHeader begun (is, kept, none) = once AtLibxlHeader begun comes.LibxlHeader header_is is none refl tt (omega arith)
  is_at (AtLibxlHead records) begun (is, kept, none) = once (AtLibxlHead records) begun comes.LibxlHead (libxl_head_is records kept.1) is none refl tt (omega arith)
  is_at (AtLibxlBody records head) begun (is, kept, bodied, body) =
      record { cut = λ _. still_cut (AtLibxlBody records head) (libxl_body_is records head (omega (arith, body.less))) begun body.less; within = ap is_within is; unbegun = λ judged. absurd (true≢false (sym judged)); some = omega (arith, body.less); room = rw is (omega arith); few = omega (arith, body.less) }
  is_at (AtLibxlPadding records head content) begun (is, kept, bodied, image, some, none) = once (AtLibxlPadding records head content) begun (comes.LibxlPadding head) (libxl_padding_is records head content some) is none refl tt (omega arith)
  is_at (InImage outer next) begun (around, k) = is_at_next outer next begun k
  is_at (AtEnd s) begun (is, has, none) = record { cut = λ going. absurd (true≢false (sym (ap is_at_end is) ∙ going)); within = ap is_within is; unbegun = λ _. none; some = tt; room = rw is (omega arith); few = omega (arith, ap length none) }

-- a record in hand is known by what comes next
pub within : (r : Relay) (here : Spot) (begun : List ℕ) → Keeps r here begun → is_within r.coming ≡ is_some (in_hand here)
within r here begun k = (is_at r here begun k).within

-- ---- the end

at_end_is : (c : Coming) → is_at_end c ≡ true → c ≡ comes.End
at_end_is comes.End e = refl
at_end_is _ e = absurd (true≢false (sym e))

-- the end has no place
before_end : (r : Relay) (here : Spot) (begun : List ℕ) (place : Place) → Keeps r here begun → place_of_spot here ≡ Some place → is_at_end r.coming ≡ false
before_end r here begun place k at = by (is_at_end r.coming) refl
  where
    by : (b : Bool) → is_at_end r.coming ≡ b → is_at_end r.coming ≡ false
    by false going = going
    by true over = absurd (no_place (sym (told r (λ here begun. place_of_spot here ≡ None) comes.End (at_end_is r.coming over) (λ s has. refl) here begun k) ∙ at))
      where
        no_place : ◌≡◌ {A = Option Place} None (Some place) → ⊥
        no_place e = cc

stays : (o : Option (List ℕ)) → Stays o o
stays None = tt
stays (Some xs) = refl

-- at the end nothing is left to do
pub from_end : (r : Relay) (old before : Option (List ℕ)) → is_at_end r.coming ≡ true → (here : Spot) (begun : List ℕ) → Keeps r here begun → StepMoved here begun r r old old before before (Ok steps.Done)
from_end r old before over =
    told r (λ here begun. StepMoved here begun r r old old before before (Ok steps.Done)) comes.End (at_end_is r.coming over) (λ s has. record { is = (s, (λ more. refl), stays old, stays before, has) })

-- ---- what holds behind a step, for the place that is kept

module _ (here : Spot) (begun : List ℕ) (r t : Relay) (old new before now : Option (List ℕ)) where
  -- nothing is done where a part isn't whole
  pub done_at_end : Keeps r here begun → StepMoved here begun r t old new before now (Ok steps.Done) → is_at_end r.coming ≡ true
  done_at_end k m = by (is_at_end r.coming) refl
    where
      by : (b : Bool) → is_at_end r.coming ≡ b → is_at_end r.coming ≡ true
      by true e = e
      by false going = let c = (is_at r here begun k).cut going in passes_not m.is.0 [] (c.0, Truncated) [] (sym (m.is.1 []) ∙ ap (spot here) (append-nil begun) ∙ c.1)

-- a step from what comes next, at each place where it may
pub moved_from : (r t : Relay) (old new before now : Option (List ℕ)) (result : Result Step RelayAnswer) (c : Coming) → r.coming ≡ c → Told r (λ here begun. StepMoved here begun r t old new before now result) c → (here : Spot) (begun : List ℕ) → Keeps r here begun → StepMoved here begun r t old new before now result
moved_from r t old new before now result = told r (λ here begun. StepMoved here begun r t old new before now result)

-- where it goes on, the relay stands somewhere behind it
pub stands_behind : (r t : Relay) (old new before now : Option (List ℕ)) (result : Result Step RelayAnswer) → ((here : Spot) (begun : List ℕ) → Keeps r here begun → StepMoved here begun r t old new before now result) → Stands r → goes_on result ≡ true → Stands t
stands_behind r t old new before now result moved (here, begun, k) = by result (moved here begun k).is
  where
    by : (q : Result Step RelayAnswer) → MovedBy here begun r t old new before now q → goes_on q ≡ true → Stands t
    by (Ok steps.Done) m on = absurd (true≢false (sym on))
    by (Ok step) m on = let g : PassedPiece here begun step r t old new before now = m in (g.next, g.front, g.keeps)
    by (Err answer) m on = absurd (true≢false (sym on))

-- ---- the bytes that a relay stands for

-- a new relay has taken nothing
pub begins : (r : Relay) → Keeps r AtStart [] → r.passed ≡ 0 → StandsForBytes r []
begins r k none = record { here = AtStart; begun = []; keeps = k; leads = from_start; same = λ more. refl; count = none }

-- the count of the bytes so far, with those of a piece
counted_on : (passed behind size more : ℕ) → passed ≡ min size (2 ^ 64 - 1) → behind ≡ counted passed more → behind ≡ min (size + more) (2 ^ 64 - 1)
counted_on passed behind size more was is = omega (arith, was, is)

module _ {r : Relay} {bytes : List ℕ} (s : StandsForBytes r bytes) where
  -- a piece more
  pub stands_on : {t : Relay} {old new before now : Option (List ℕ)} {step : Step} (g : PassedPiece s.here s.begun step r t old new before now) → StandsForBytes t (bytes ++ g.piece)
  stands_on {t} g = record {
    here = g.next;
    begun = g.front;
    keeps = g.keeps;
    leads = leads_on bytes g.piece s.here g.next s.begun g.front s.leads g.follows (keeps_number g s.keeps);
    same = λ more. ap open_stream_at (append_assoc bytes g.piece more) ∙ s.same (g.piece ++ more) ∙ g.same more;
    count = subst (λ n. t.passed ≡ min n (2 ^ 64 - 1)) (sym (length-append bytes g.piece)) (counted_on r.passed t.passed (length bytes) (length g.piece) s.count g.count);
  }

  -- a list that isn't passable ends inside a part
  pub is_front : is_at_end r.coming ≡ false → EndsInside (open_stream_at bytes)
  is_front going =
      let c = (is_at r s.here s.begun s.keeps).cut going in
      (c.0, ap open_stream_at (sym (append-nil bytes)) ∙ s.same [] ∙ ap (spot s.here) (append-nil s.begun) ∙ c.1)

  -- passable bytes stand at the end
  pub over_there : (whole : StreamOf) → IsPassable bytes whole → is_at_end r.coming ≡ true
  over_there whole passes = by (is_at_end r.coming) refl
    where
      by : (b : Bool) → is_at_end r.coming ≡ b → is_at_end r.coming ≡ true
      by true e = e
      by false going = let c = is_front going in passes_not whole [] (c.0, Truncated) [] (sym passes ∙ c.1)

-- ---- the clauses of a step, for each list that the relay stands for

module _ (r t : Relay) (old new before now : Option (List ℕ)) (result : Result Step RelayAnswer) (moved : (here : Spot) (begun : List ℕ) → Keeps r here begun → StepMoved here begun r t old new before now result) (bytes : List ℕ) (s : StandsForBytes r bytes) where
  stops : Stops s.here s.begun old new before now → StopsInside s.here s.begun bytes old new before now
  stops (wrote, w, (place, is), cuts) = (wrote, w, (place, s.same wrote ∙ is))

  refused : (place : Place) (cause : Cause) (o : Option (List ℕ)) → Refuses s.here s.begun o new place cause → IsRefusedBehind bytes o new place cause
  refused place cause None f = tt
  refused place cause (Some left) f = (f.0, s.same left ∙ f.1, f.2)

  writes : (place : Place) → WritesSome s.here s.begun old new before now place → WritesSomeBehind s.here s.begun bytes old new before now place
  writes place (wrote, w, first, (fault, rest, is), cuts, at) = (wrote, w, first, (fault, rest, s.same wrote ∙ is), at)

  by_result : (q : Result Step RelayAnswer) → MovedBy s.here s.begun r t old new before now q → StepSays s.here s.begun bytes r t old new before now q
  unfolding stands_on
  by_result (Ok steps.Done) m = (m.0, subst (λ l. open_stream_at l ≡ Passes m.0 []) (append-nil bytes) (s.same [] ∙ m.1 []), m.2, m.3, m.4)
  by_result (Ok step) m = passes_on m
    where
      passes_on : PassedPiece s.here s.begun step r t old new before now → PassesOn s.here s.begun bytes step r t old new before now
      passes_on g = record { piece = g.piece; some = g.some; taken = g.taken; written = g.written; stands = stands_on s g; follows = g.follows; is = g.is }
  by_result (Err (Refused place cause)) m = (refused place cause old m.0, writes place m.1)
  by_result (Err ReadFault) m = stops m
  by_result (Err WriteFault) m = stops m
  by_result (Err Memory) m = stops m

  -- what a step does at the place behind the bytes
  pub says_of : StepSays s.here s.begun bytes r t old new before now result
  says_of = by_result result (moved s.here s.begun s.keeps).is

  -- the same of a relay that is over
  pub says_over : (u : Relay) → goes_on result ≡ false → StepSays s.here s.begun bytes r u old new before now result
  says_over u over = by result over says_of
    where
      by : (q : Result Step RelayAnswer) → goes_on q ≡ false → StepSays s.here s.begun bytes r t old new before now q → StepSays s.here s.begun bytes r u old new before now q
      by (Ok steps.Done) e says = says
      by (Ok step) e says = absurd (true≢false e)
      by (Err (Refused place cause)) e says = says
      by (Err ReadFault) e says = says
      by (Err WriteFault) e says = says
      by (Err Memory) e says = says

  -- and of the relay behind the step
  pub says_behind : (u : Relay) → u ≡ behind_step result t → StepSays s.here s.begun bytes r u old new before now result
  says_behind u is = by (goes_on result) refl
    where
      by : (b : Bool) → goes_on result ≡ b → StepSays s.here s.begun bytes r u old new before now result
      by true on = let same : behind_step result t ≡ t = rw on refl in subst (λ (x : Relay). StepSays s.here s.begun bytes r x old new before now result) (sym (is ∙ same)) says_of
      by false over = says_over u over

-- a relay that goes on is as the step left it, and one that doesn't is over
pub going_behind : (result : Result Step RelayAnswer) (t u : Relay) → u ≡ behind_step result t → goes_on result ≡ true → u ≡ t
going_behind result t u is on = is ∙ rw on refl

pub over_behind : (result : Result Step RelayAnswer) (t u : Relay) → u ≡ behind_step result t → goes_on result ≡ false → is_over u ≡ true
over_behind result t u is over = let past : behind_step result t ≡ record t { coming = comes.Over } = rw over refl in ap is_over (is ∙ past)

-- the same words are in hand
pub words_behind_step : (result : Result Step RelayAnswer) (t u : Relay) → u ≡ behind_step result t → words_in_hand u ≡ words_in_hand t
words_behind_step result t u is = ap words_in_hand is ∙ by (goes_on result) refl
  where
    by : (b : Bool) → goes_on result ≡ b → words_in_hand (behind_step result t) ≡ words_in_hand t
    by true on = rw on refl
    by false over = rw over refl

pub leaves_words : (result : Result Step RelayAnswer) (r t u : Relay) → u ≡ behind_step result t → LeavesWords result r t → LeavesWords result r u
leaves_words (Ok (steps.Head wrapped head)) r t u is left = words_behind_step (Ok (steps.Head wrapped head)) t u is ∙ left
leaves_words (Ok steps.Words) r t u is left = tt
leaves_words (Ok step) r t u is left = words_behind_step (Ok step) t u is ∙ left
leaves_words (Err answer) r t u is left = words_behind_step (Err answer) t u is ∙ left

-- ---- what was taken and written so far

-- nothing was written or taken
kept : (a b : Option (List ℕ)) → Stays a b → Appends a b []
kept None b p = tt
kept (Some l) None p = absurd p
kept (Some l) (Some m) p = p ∙ sym (append-nil l)

pub left_alone : (a b : Option (List ℕ)) → Stays a b → Consumes a b []
left_alone None b p = tt
left_alone (Some l) None p = absurd p
left_alone (Some l) (Some m) p = sym p

-- no front of bytes that are refused is accepted
none_accepted : (wrote : List ℕ) → IsUnfinished (open_stream_at wrote) → NoneIsAccepted wrote
none_accepted wrote ((place, cause), rest, is) front more s whole accepted = unfinished_is_not_accepted front more s place cause rest (sym (ap open_stream_at whole) ∙ is) accepted

-- Some bytes were passed on and wait, of which this part comes last, and of that the rest was taken. Every shorter front of
-- what was passed on ends inside a part.
pub record Gathered (waiting : List ℕ) (old new before now : Option (List ℕ)) : Type 0 where
  pub wrote : List ℕ
  pub rest : List ℕ
  pub here : Spot
  pub begun : List ℕ
  pub leads : LeadsTo (wrote ++ waiting) here begun
  pub same : (more : List ℕ) → open_stream_at ((wrote ++ waiting) ++ more) ≡ spot here (begun ++ more)
  pub some : HasBytes here
  pub inside : length begun + length rest ≤ most_of_part here
  pub cuts : FrontsAreCut AtStart [] (wrote ++ waiting)
  pub taken : Consumes old new ((wrote ++ waiting) ++ rest)
  pub written : Appends before now wrote
  pub few : length waiting + length rest ≤ most_waiting here
  pub rest_few : length rest ≤ held here

module _ (old new before now later : Option (List ℕ)) (waiting : List ℕ) (g : Gathered waiting old new before now) where
  -- some first bytes of what waits were written, but not all
  pub broke_off : AppendsPart now later waiting → IsCutPart old new before later
  broke_off (k, less, put) =
      let cut = g.cuts (g.wrote ++ take k waiting) (drop k waiting) (sym whole) (omega (arith, length-drop k waiting, less)) in (
        record {
          wrote = g.wrote ++ take k waiting;
          others = drop k waiting ++ g.rest;
          taken = subst (Consumes old new) (sym (ap (λ l. l ++ g.rest) whole) ∙ append_assoc (g.wrote ++ take k waiting) (drop k waiting) g.rest) g.taken;
          written = Appends-trans before now later g.wrote (take k waiting) g.written put;
          held = record {
            waiting = drop k waiting;
            rest = g.rest;
            are = refl;
            here = g.here;
            begun = g.begun;
            leads = subst (λ l. LeadsTo l g.here g.begun) (sym whole) g.leads;
            same = λ more. ap (λ l. open_stream_at (l ++ more)) whole ∙ g.same more;
            some = g.some;
            inside = g.inside;
            few = omega (arith, length-append (drop k waiting) g.rest, length-drop k waiting, g.few);
            rest_few = g.rest_few;
          };
          unaccepted = none_accepted (g.wrote ++ take k waiting) ((cut.0, Truncated), [], cut.1);
        },
        cut,
      )
    where
      whole : (g.wrote ++ take k waiting) ++ drop k waiting ≡ g.wrote ++ waiting
      whole = append_assoc g.wrote (take k waiting) (drop k waiting) ∙ ap (λ l. g.wrote ++ l) (take-append-drop k waiting)

  -- all that waits was written
  pub all_written : Appends now later waiting → IsUnfinished (open_stream_at (g.wrote ++ waiting)) → (p : IsWritten old new before later) × NoneWaits p × (p.wrote ≡ g.wrote ++ waiting)
  all_written put unfinished = (
    record {
      wrote = g.wrote ++ waiting;
      others = g.rest;
      taken = g.taken;
      written = Appends-trans before now later g.wrote waiting g.written put;
      held = record {
        waiting = [];
        rest = g.rest;
        are = refl;
        here = g.here;
        begun = g.begun;
        leads = subst (λ l. LeadsTo l g.here g.begun) (sym (append-nil (g.wrote ++ waiting))) g.leads;
        same = λ more. ap (λ l. open_stream_at (l ++ more)) (append-nil (g.wrote ++ waiting)) ∙ g.same more;
        some = g.some;
        inside = g.inside;
        few = omega (arith, g.few);
        rest_few = g.rest_few;
      };
      unaccepted = none_accepted (g.wrote ++ waiting) unfinished;
    },
    refl,
    refl,
  )

-- what ends a step inside a part, with what waits then
pub record Cut (waiting : List ℕ) (old new before now : Option (List ℕ)) : Type 0 where
  pub g : Gathered waiting old new before now
  pub cut : EndsInside (open_stream_at (g.wrote ++ waiting))

-- a refused part
pub record Refusal (waiting : List ℕ) (old new before now : Option (List ℕ)) (place : Place) (cause : Cause) : Type 0 where
  pub g : Gathered waiting old new before now
  pub refused : IsRefusedBehind [] old new place cause
  pub unfinished : IsUnfinished (open_stream_at (g.wrote ++ waiting))
  pub at : place_of_spot g.here ≡ Some place
  pub unbegun : is_judged_first g.here ≡ true → g.begun ≡ []
  pub cut : is_judged_first g.here ≡ true → EndsInside (open_stream_at (g.wrote ++ waiting))

-- what a step's error leaves
abbrev pub Ends : List ℕ → Option (List ℕ) → Option (List ℕ) → Option (List ℕ) → Option (List ℕ) → RelayAnswer → Type 0
Ends waiting old new before now (Refused place cause) = Refusal waiting old new before now place cause
Ends waiting old new before now ReadFault = Cut waiting old new before now
Ends waiting old new before now WriteFault = Cut waiting old new before now
Ends waiting old new before now Memory = Cut waiting old new before now

-- that is gathered whatever the error is
pub of_ends : (waiting : List ℕ) (old new before now : Option (List ℕ)) (answer : RelayAnswer) → Ends waiting old new before now answer → Gathered waiting old new before now
of_ends waiting old new before now (Refused place cause) e = e.g
of_ends waiting old new before now ReadFault e = e.g
of_ends waiting old new before now WriteFault e = e.g
of_ends waiting old new before now Memory e = e.g

module _ (old new before now later : Option (List ℕ)) (waiting : List ℕ) (put : Appends now later waiting) where
  cut_written : Cut waiting old new before now → IsWrittenPart old new before later
  cut_written c =
      let w = all_written old new before now later waiting c.g put ((c.cut.0, Truncated), [], c.cut.1) in
      (w.0, subst (λ l. EndsInside (open_stream_at l)) (sym w.2) c.cut, w.1)

  refused_part : (place : Place) (cause : Cause) → Refusal waiting old new before now place cause → RefusedPart old new before later place cause
  unfolding all_written
  refused_part place cause e = record {
    refused = e.refused;
    part = (all_written old new before now later waiting e.g put e.unfinished).0;
    written = refl;
    at = e.at;
    unbegun = e.unbegun;
    cut = e.cut;
  }

  -- all that waits was written behind an error, and the error is answered
  pub ended : (answer : RelayAnswer) → Ends waiting old new before now answer → RelayedBy old new before later (Err (held_answer answer))
  ended (Refused place cause) e = refused_part place cause e
  ended ReadFault e = let w = cut_written e in (w.0, w.1)
  ended WriteFault e = cut_written e
  ended Memory e = cut_written e

-- ---- a turn

-- where a front of two lists ends: inside the first, or behind it
data Splits (xs ys front more : List ℕ) : Type 0 where
  Inside : (rest : List ℕ) → xs ≡ front ++ rest → 0 < length rest → Splits xs ys front more
  Beyond : (rest : List ℕ) → front ≡ xs ++ rest → ys ≡ rest ++ more → Splits xs ys front more

splits : (xs ys front more : List ℕ) → xs ++ ys ≡ front ++ more → Splits xs ys front more
splits [] ys front more e = Beyond front refl e
splits (x ∷ xs) ys [] more e = Inside (x ∷ xs) refl (omega arith)
splits (x ∷ xs) ys (y ∷ front) more e = by (splits xs ys front more (cc))
  where
    same : x ≡ y
    same = cc

    by : Splits xs ys front more → Splits (x ∷ xs) ys (y ∷ front) more
    by (Inside rest is some) = Inside rest (ap (λ l. x ∷ l) is ∙ ap (λ z. z ∷ (front ++ rest)) same) some
    by (Beyond rest is others) = Beyond rest (ap (λ l. y ∷ l) is ∙ ap (λ z. z ∷ (xs ++ rest)) (sym same)) others

-- shorter fronts of a list and of a piece behind it
fronts_on : (bytes piece : List ℕ) (here : Spot) (begun : List ℕ) → ((more : List ℕ) → open_stream_at (bytes ++ more) ≡ spot here (begun ++ more)) → FrontsAreCut AtStart [] bytes → FrontsAreCut here begun piece → FrontsAreCut AtStart [] (bytes ++ piece)
fronts_on bytes piece here begun same cuts cuts_here front more split some = by (splits bytes piece front more split)
  where
    by : Splits bytes piece front more → EndsInside (open_stream_at front)
    by (Inside rest is inside) = cuts front rest is inside
    by (Beyond rest is others) = let c = cuts_here rest more others some in (c.0, ap open_stream_at is ∙ same rest ∙ c.1)

-- none is shorter than the empty list
none_shorter : (here : Spot) (begun : List ℕ) → FrontsAreCut here begun []
none_shorter here begun front more split some = absurd (omega (arith, ap length split, length-append front more, some))

-- the first bytes
pub passed_none : (r : Relay) (old before : Option (List ℕ)) (waiting : List ℕ) → waiting ≡ [] → StandsForBytes r [] → HasPassed r waiting old old before before
passed_none r old before waiting none s =
    subst (λ l. HasPassed r l old old before before) (sym none) (record { wrote = []; stands = s; cuts = none_shorter AtStart []; taken = left_alone old old (stays old); written = Appends-nil before })

-- nothing waits in front of the first part
pub fits_none : (r : Relay) (waiting : List ℕ) → waiting ≡ [] → Fits r waiting
fits_none r waiting none = omega (arith, ap length none)

-- it stands somewhere
pub stands_somewhere : {r : Relay} {waiting : List ℕ} {old new before now : Option (List ℕ)} → HasPassed r waiting old new before now → Stands r
stands_somewhere h = (h.stands.here, h.stands.begun, h.stands.keeps)

-- all that waits was written
pub flushed : (r : Relay) (waiting : List ℕ) (old new before now later : Option (List ℕ)) → HasPassed r waiting old new before now → Appends now later waiting → HasPassed r [] old new before later
flushed r waiting old new before now later h put =
    let same = sym (append-nil (h.wrote ++ waiting)) in
    record {
      wrote = h.wrote ++ waiting;
      stands = subst (StandsForBytes r) same h.stands;
      cuts = subst (FrontsAreCut AtStart []) same h.cuts;
      taken = subst (Consumes old new) same h.taken;
      written = Appends-trans before now later h.wrote waiting h.written put;
    }

module _ (r t : Relay) (waiting waits : List ℕ) (old mid new before now : Option (List ℕ)) (h : HasPassed r waiting old mid before now) (fits : Fits r waiting) where
  abbrev s : StandsForBytes r (h.wrote ++ waiting)
  s = h.stands

  -- behind what was passed on, a piece more waits
  longer : (piece : List ℕ) → waits ≡ waiting ++ piece → (h.wrote ++ waiting) ++ piece ≡ h.wrote ++ waits
  longer piece is = append_assoc h.wrote waiting piece ∙ ap (λ l. h.wrote ++ l) (sym is)

  cuts_on : (piece : List ℕ) → waits ≡ waiting ++ piece → FrontsAreCut s.here s.begun piece → FrontsAreCut AtStart [] (h.wrote ++ waits)
  cuts_on piece is cuts = subst (FrontsAreCut AtStart []) (longer piece is) (fronts_on (h.wrote ++ waiting) piece s.here s.begun s.same h.cuts cuts)

  -- a piece was passed on, and the rest taken
  gather : (piece rest : List ℕ) → waits ≡ waiting ++ piece → length piece + length rest ≤ held s.here → length s.begun + (length piece + length rest) ≤ most_of_part s.here → FrontsAreCut s.here s.begun piece → Consumes mid new (piece ++ rest) → Gathered waits old new before now
  gather piece rest is few sized cuts taken = record {
    wrote = h.wrote;
    rest = rest;
    here = s.here;
    begun = s.begun ++ piece;
    leads = subst (λ l. LeadsTo l s.here (s.begun ++ piece)) (longer piece is) (begins_part (h.wrote ++ waiting) piece s.here s.begun s.leads);
    some = (is_at r s.here s.begun s.keeps).some;
    inside = omega (arith, sized, length-append s.begun piece);
    same = λ more. ap (λ l. open_stream_at (l ++ more)) (sym (longer piece is)) ∙ ap open_stream_at (append_assoc (h.wrote ++ waiting) piece more) ∙ s.same (piece ++ more) ∙ ap (spot s.here) (sym (append_assoc s.begun piece more));
    cuts = cuts_on piece is cuts;
    taken = subst (Consumes old new) (sym (append_assoc (h.wrote ++ waiting) piece rest) ∙ ap (λ l. l ++ rest) (longer piece is)) (Consumes-trans old mid new (h.wrote ++ waiting) (piece ++ rest) h.taken taken);
    written = h.written;
    few = omega (arith, few, fits, (is_at r s.here s.begun s.keeps).room, ap length is, length-append waiting piece);
    rest_few = omega (arith, few);
  }

  -- a step stopped in a part
  cut_here : Stops s.here s.begun mid new (Some waiting) (Some waits) → Cut waits old new before now
  unfolding gather
  cut_here (wrote, w, (place, is), cuts) = record {
    g = gather wrote w.others w.written w.few w.inside cuts w.taken;
    cut = (place, ap open_stream_at (sym (longer wrote w.written)) ∙ s.same wrote ∙ is);
  }

  -- the whole input is refused
  refused_on : (o : Option (List ℕ)) (place : Place) (cause : Cause) → Consumes o mid (h.wrote ++ waiting) → Refuses s.here s.begun mid new place cause → IsRefusedBehind [] o new place cause
  refused_on None place cause gone f = tt
  refused_on (Some input) place cause gone f = by mid gone f
    where
      by : (m : Option (List ℕ)) → Consumes (Some input) m (h.wrote ++ waiting) → Refuses s.here s.begun m new place cause → IsRefusedBehind [] (Some input) new place cause
      by None gone f = absurd gone
      by (Some left) gone (rest, is, after) = (rest, ap open_stream_at gone ∙ s.same left ∙ is, after)

  refused_here : (place : Place) (cause : Cause) → Refuses s.here s.begun mid new place cause → WritesSome s.here s.begun mid new (Some waiting) (Some waits) place → Refusal waits old new before now place cause
  unfolding gather
  refused_here place cause f (wrote, w, first, (fault, rest, is), cuts, at) = record {
    g = gather wrote w.others w.written w.few w.inside cuts w.taken;
    refused = refused_on old place cause h.taken f;
    unfinished = (fault, rest, ap open_stream_at (sym (longer wrote w.written)) ∙ s.same wrote ∙ is);
    at = at;
    unbegun = λ judged. ap (λ l. s.begun ++ l) (first judged) ∙ append-nil s.begun ∙ (is_at r s.here s.begun s.keeps).unbegun judged;
    cut = λ judged. subst (λ l. EndsInside (open_stream_at l)) (sym (append-nil (h.wrote ++ waiting)) ∙ ap (λ l. (h.wrote ++ waiting) ++ l) (sym (first judged)) ∙ longer wrote w.written) (is_front s (before_end r s.here s.begun place s.keeps at));
  }

  -- what an error leaves
  pub ends_on : (answer : RelayAnswer) → StepMoved s.here s.begun r t mid new (Some waiting) (Some waits) (Err answer) → Ends waits old new before now answer
  ends_on (Refused place cause) m = refused_here place cause m.is.0 m.is.1
  ends_on ReadFault m = cut_here m.is
  ends_on WriteFault m = cut_here m.is
  ends_on Memory m = cut_here m.is

  more_gathered : (step : Step) → PassedPiece s.here s.begun step r t mid new (Some waiting) (Some waits) → Gathered waits old new before now
  more_gathered step g = gather g.piece [] g.written (omega (arith, g.small)) (omega (arith, g.inside)) g.cuts (subst (Consumes mid new) (sym (append-nil g.piece)) g.taken)

  -- what waits behind a step, whatever it answered
  pub gathers : (result : Result Step RelayAnswer) → StepMoved s.here s.begun r t mid new (Some waiting) (Some waits) result → Gathered waits old new before now
  gathers (Ok steps.Done) m = gather [] [] (m.is.3 ∙ sym (append-nil waiting)) (omega arith) (omega (arith, (is_at r s.here s.begun s.keeps).few)) (none_shorter s.here s.begun) (left_alone mid new m.is.2)
  gathers (Ok step) m = more_gathered step m.is
  gathers (Err answer) m = of_ends waits old new before now answer (ends_on answer m)

  more_passed : (step : Step) → PassedPiece s.here s.begun step r t mid new (Some waiting) (Some waits) → HasPassed t waits old new before now
  more_passed step g = record {
    wrote = h.wrote;
    stands = subst (StandsForBytes t) (longer g.piece g.written) (stands_on s g);
    cuts = cuts_on g.piece g.written g.cuts;
    taken = subst (Consumes old new) (longer g.piece g.written) (Consumes-trans old mid new (h.wrote ++ waiting) g.piece h.taken g.taken);
    written = h.written;
  }

  -- the relay stands for a piece more, or for the same at the end
  pub passes_on : (step : Step) → (is_at_end r.coming ≡ true → t ≡ r) → StepMoved s.here s.begun r t mid new (Some waiting) (Some waits) (Ok step) → HasPassed t waits old new before now
  passes_on steps.Done stays_there m =
      let same = stays_there (done_at_end s.here s.begun r t mid new (Some waiting) (Some waits) s.keeps m) in
      subst (λ (x : Relay). HasPassed x waits old new before now) (sym same)
      (subst (λ l. HasPassed r l old new before now) (sym m.is.3)
      (record { wrote = h.wrote; stands = s; cuts = h.cuts; taken = subst (Consumes old new) (append-nil (h.wrote ++ waiting)) (Consumes-trans old mid new (h.wrote ++ waiting) [] h.taken (left_alone mid new m.is.2)); written = h.written }))
  passes_on step stays_there m = more_passed step m.is

  -- where the relay goes on, no more waits than may
  pub turned_on : (result : Result Step RelayAnswer) → goes_on result ≡ true → (is_at_end r.coming ≡ true → t ≡ r) → Fits t waits → StepMoved s.here s.begun r t mid new (Some waiting) (Some waits) result → Turned t waits old new before now result
  turned_on (Ok steps.Done) on stays_there fit m = absurd (true≢false (sym on))
  turned_on (Ok step) on stays_there fit m = record { is = (passes_on step stays_there m, fit) }
  turned_on (Err answer) on stays_there fit m = absurd (true≢false (sym on))

  -- all that waits was written behind a step
  pub turned_flushed : (later : Option (List ℕ)) (none : List ℕ) (step : Step) → (is_at_end r.coming ≡ true → t ≡ r) → StepMoved s.here s.begun r t mid new (Some waiting) (Some waits) (Ok step) → Appends now later waits → none ≡ [] → Turned t none old new before later (Ok step)
  turned_flushed later none step stays_there m put is = subst (λ l. Turned t l old new before later (Ok step)) (sym is) (record { is = by step m })
    where
      behind : (step : Step) → StepMoved s.here s.begun r t mid new (Some waiting) (Some waits) (Ok step) → HasPassed t [] old new before later
      behind step m = flushed t waits old new before now later (passes_on step stays_there m) put

      by : (step : Step) → StepMoved s.here s.begun r t mid new (Some waiting) (Some waits) (Ok step) → TurnedBy t [] old new before later (Ok step)
      by steps.Done m =
          let over = done_at_end s.here s.begun r t mid new (Some waiting) (Some waits) s.keeps m in
          (refl, behind steps.Done m, ap (λ (x : Relay). is_at_end x.coming) (stays_there over) ∙ over)
      by step m = (behind step m, omega arith)

  -- a write of what waits failed
  pub turn_broke_off : (later : Option (List ℕ)) (none : List ℕ) (result : Result Step RelayAnswer) → StepMoved s.here s.begun r t mid new (Some waiting) (Some waits) result → AppendsPart now later waits → Turned t none old new before later (Err (unwritten result))
  turn_broke_off later none result m put = record { is = by result (broke_off old new before now later waits (gathers result m) put) }
    where
      by : (result : Result Step RelayAnswer) → IsCutPart old new before later → RelayedBy old new before later (Err (unwritten result))
      by (Ok step) p = p
      by (Err (Refused place cause)) p = p
      by (Err ReadFault) p = p
      by (Err WriteFault) p = p
      by (Err Memory) p = p

  -- all that waits was written behind an error
  pub turn_ended : (later : Option (List ℕ)) (none : List ℕ) (answer : RelayAnswer) → StepMoved s.here s.begun r t mid new (Some waiting) (Some waits) (Err answer) → Appends now later waits → Turned t none old new before later (Err (held_answer answer))
  turn_ended later none answer m put = record { is = ended old new before now later waits put answer (ends_on answer m) }

  -- where a read failed, all that waits was written
  pub read_written : (later : Option (List ℕ)) (writes written : ℕ) (answer : RelayAnswer) → StepMoved s.here s.begun r t mid new (Some waiting) (Some waits) (Err answer) → Appends now later waits → WritesOnReadFault {X = Step} old new before later writes written (Err (held_answer answer))
  read_written later writes written (Refused place cause) m put = tt
  read_written later writes written ReadFault m put = inl (cut_written old new before now later waits put (cut_here m.is))
  read_written later writes written WriteFault m put = tt
  read_written later writes written Memory m put = tt

-- no read failed where the relay goes on
pub read_on : (old new before now : Option (List ℕ)) (writes written : ℕ) (result : Result Step RelayAnswer) → goes_on result ≡ true → WritesOnReadFault old new before now writes written result
read_on old new before now writes written (Ok step) on = tt
read_on old new before now writes written (Err answer) on = absurd (true≢false (sym on))

-- or a write failed too
pub read_broke_off : (old new before now : Option (List ℕ)) (writes written : ℕ) (result : Result Step RelayAnswer) → Rose writes written → WritesOnReadFault {X = Step} old new before now writes written (Err (unwritten result))
read_broke_off old new before now writes written (Ok step) rose = tt
read_broke_off old new before now writes written (Err (Refused place cause)) rose = tt
read_broke_off old new before now writes written (Err ReadFault) rose = inr rose
read_broke_off old new before now writes written (Err WriteFault) rose = tt
read_broke_off old new before now writes written (Err Memory) rose = tt

-- which counts rose where a write of what waits failed
pub rises_unwritten : (reads read starved starving writes written : ℕ) (result : Result Step RelayAnswer) → RisesOnFault reads read starved starving result → writes ≤ written → Rose writes written → RisesOnAnswer {X = Step} reads read writes written (Err (unwritten result))
rises_unwritten reads read starved starving writes written (Ok step) h later rose = (h.0, later, rose)
rises_unwritten reads read starved starving writes written (Err (Refused place cause)) h later rose = (h.0, later, rose)
rises_unwritten reads read starved starving writes written (Err ReadFault) h later rose = (h.0, h.1, later)
rises_unwritten reads read starved starving writes written (Err WriteFault) h later rose = (h.0, later, rose)
rises_unwritten reads read starved starving writes written (Err Memory) h later rose = (h.0, later, rose)

-- ---- the loop

-- the same of the answer of the whole relay
pub read_again : (old new before now : Option (List ℕ)) (writes written : ℕ) (answer : RelayAnswer) → WritesOnReadFault {X = Step} old new before now writes written (Err answer) → WritesOnReadFault {X = Relayed} old new before now writes written (Err answer)
read_again old new before now writes written (Refused place cause) h = tt
read_again old new before now writes written ReadFault h = h
read_again old new before now writes written WriteFault h = tt
read_again old new before now writes written Memory h = tt

-- a turn that isn't the last
pub turn_goes_on : {t : Relay} {waits : List ℕ} {old new before now : Option (List ℕ)} (step : Step) → step ≢ steps.Done → Turned t waits old new before now (Ok step) → HasPassed t waits old new before now × Fits t waits
turn_goes_on steps.Done other turn = absurd (other refl)
turn_goes_on step other turn = turn.is

-- a relay at the end, with nothing that waits, has passed a whole stream on
pub over_now : (r : Relay) (old new before now : Option (List ℕ)) (relayed : Relayed) → HasPassed r [] old new before now → is_at_end r.coming ≡ true → relayed.records ≡ r.seen.records → relayed.bytes ≡ r.passed → IsRelayed old new before now (Ok relayed)
over_now r old new before now relayed h over records bytes =
    let m = from_end r new now over h.stands.here h.stands.begun h.stands.keeps in
    record {
      is = record {
        front = h.wrote ++ [];
        s = m.is.0;
        passes = λ more. h.stands.same more ∙ m.is.1 more;
        taken = h.taken;
        written = subst (Appends before now) (sym (append-nil h.wrote)) h.written;
        bytes = bytes ∙ h.stands.count;
        records = subst (λ n. HasRecords n m.is.0) (sym records) m.is.4;
      };
    }

-- the last turn
pub turn_over : {t : Relay} {waits : List ℕ} {old new before now : Option (List ℕ)} (relayed : Relayed) (step : Step) → step ≡ steps.Done → Turned t waits old new before now (Ok step) → relayed.records ≡ t.seen.records → relayed.bytes ≡ t.passed → IsRelayed old new before now (Ok relayed)
turn_over {t} {waits} {old} {new} {before} {now} relayed step is turn records bytes =
    let m = (subst (λ (x : Step). Turned t waits old new before now (Ok x)) is turn).is in
    over_now t old new before now relayed m.1 m.2 records bytes

-- what waits where no step more is taken
at_rest : (r : Relay) (waiting : List ℕ) (old new before now : Option (List ℕ)) → HasPassed r waiting old new before now → Fits r waiting → Gathered waiting old new before now
at_rest r waiting old new before now h fits = gather r r waiting waiting old new new before now h fits [] [] (sym (append-nil waiting)) (omega arith) (omega (arith, (is_at r h.stands.here h.stands.begun h.stands.keeps).few)) (none_shorter h.stands.here h.stands.begun) (left_alone new new (stays new))

-- it couldn't be written
pub rest_broke_off : (r : Relay) (waiting : List ℕ) (old new before now later : Option (List ℕ)) → HasPassed r waiting old new before now → Fits r waiting → AppendsPart now later waiting → IsRelayed old new before later (Err WriteFault)
rest_broke_off r waiting old new before now later h fits put = record { is = broke_off old new before now later waiting (at_rest r waiting old new before now h fits) put }

-- no step more, before the end
pub gave_up_on : (r : Relay) (old new before now : Option (List ℕ)) → HasPassed r [] old new before now → is_at_end r.coming ≡ false → IsRelayed old new before now (Err Memory)
unfolding at_rest gather
gave_up_on r old new before now h going =
    record { is = cut_written old new before now now [] (Appends-nil now) (record { g = at_rest r [] old new before now h (omega arith); cut = is_front h.stands going }) }
