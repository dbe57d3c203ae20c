-- What a viewer has seen while the relay goes on, and at its end.
use Rattle.mig_show.proofs.Common.{◌≡◌, ◌≢◌, ℕ, Bool, true, false, List, [], ◌++◌, Option, Some, None, Ok, refl, sym, ap, subst, ◌∙◌, append_assoc, append-nil, is_some, IfOk, Consumes, Cause, Place, ImageHeader, in_hand, words_in_hand, Next, AtMarker, AtVersion, AtKind, AtHead, AtBody, AtFront, AtWords, AtPages, AtPadding, Outer, Spot, AtStart, AtLibxlHeader, AtLibxlHead, AtLibxlBody, AtLibxlPadding, InImage, AtEnd, begins_with_ident, StepSays, Step, Relay, ShownFront, StandsBefore, of_form, image_first, SeenState, with_step, with_end, Shows, RisesOnShow, front_tree, Err, RisesOnFault, Keeps, KeepsNext, StandsForBytes, PassesOn, IsRefusedBehind, IsNotRefused, is_at_end, is_at_start, ended_by, ShowsRefused, true≢false, nil_from_length}
use Rattle.std.proofs.KnownBytes.{Consumes-nil, Consumes-trans}
use Rattle.std.specs.Prelude.{◌≤◌}
use Rattle.mig_bytes.specs.Faults.{Rose}
use Rattle.mig_relay.specs.Following.{from_start}
use Rattle.mig_relay.specs.Streams.{open_stream_at}
use Rattle.mig_relay.proofs.Streams.{fronts_pass}
use Rattle.mig_relay.specs.declared.answer.RelayAnswer.{RelayAnswer}
use Rattle.mig_relay.specs.declared.answer.RelayAnswer.TheVariants.{Refused, ReadFault, WriteFault, Memory}
use Rattle.mig_relay.proofs.Steps.{left_alone, over_there}
use Rattle.mig_show.proofs.Passing.{form_on, seen_on}
use Rattle.mig_show.proofs.Stages.{Has}
use Rattle.mig_relay.specs.declared.answer.Step.TheVariants as steps

-- so much was taken, and of that so much seen
pub record Looks (r : Relay) (seen : SeenState) (old now : Option (List ℕ)) : Type 0 where
  pub bytes : List ℕ
  pub stands : StandsForBytes r bytes
  pub has : Has stands.here stands.begun bytes seen
  pub taken : Consumes old now bytes

-- nothing yet
pub looks_first : (r : Relay) (seen : SeenState) (old : Option (List ℕ)) → Keeps r AtStart [] → StandsForBytes r [] → seen.front ≡ of_form false → seen.hand ≡ None → Looks r seen old old
looks_first r seen old keeps stands front hand = record {
  bytes = [];
  stands = record { here = AtStart; begun = []; keeps = keeps; leads = from_start; same = λ more. refl; count = stands.count };
  has = record {
    front = [];
    part = [];
    split = refl;
    stands = subst (λ (f : ShownFront). StandsBefore [] f (Some ImageHeader)) (sym front) image_first;
    hand = (hand, refl);
    around = front;
    form = ap (λ (f : ShownFront). f.wrapper) front;
    long = λ never. absurd (true≢false never);
    none = λ _. refl;
  };
  taken = Consumes-nil old;
}

-- behind a step
passes_of : {here : Spot} {begun bytes : List ℕ} {t : Relay} {old new before now : Option (List ℕ)} (r : Relay) (step : Step) → step ≢ steps.Done → StepSays here begun bytes r t old new before now (Ok step) → PassesOn here begun bytes step r t old new before now
passes_of r steps.Done other says = absurd (other refl)
passes_of r step other says = says

pub looks_on : (r t : Relay) (seen taken_seen later : SeenState) (old mid new before now : Option (List ℕ)) (step : Step) (ws : List ℕ) (within : Bool) → step ≢ steps.Done → (l : Looks r seen old mid) → StepSays l.stands.here l.stands.begun l.bytes r t mid new before now (Ok step) → ws ≡ words_in_hand t → taken_seen ≡ with_step seen step ws
    → ((here : Spot) (begun : List ℕ) → Keeps t here begun → within ≡ is_some (in_hand here)) → later ≡ with_end within taken_seen → Looks t later old new
looks_on r t seen taken_seen later old mid new before now step ws within other l says words_are taken_is within_is later_is =
    let p = passes_of r step other says in
    let n = p.stands in
    let same : later ≡ with_end (is_some (in_hand n.here)) (with_step seen step (words_in_hand t)) =
    later_is ∙ ap (with_end within) (taken_is ∙ ap (with_step seen step) words_are) ∙ ap (λ b. with_end b (with_step seen step (words_in_hand t))) (within_is n.here n.begun n.keeps) in
    record {
      bytes = l.bytes ++ p.piece;
      stands = n;
      has = subst (Has n.here n.begun (l.bytes ++ p.piece)) (sym same) (seen_on p.follows l.bytes seen t step p.is l.has);
      taken = Consumes-trans old mid new l.bytes p.piece l.taken p.taken;
    }

-- ---- the end

end_image : (r : Relay) (outer : Outer) (next : Next) (begun : List ℕ) → KeepsNext r next begun → is_at_end r.coming ≡ false
end_image r outer AtMarker begun k = ap is_at_end k.0
end_image r outer AtVersion begun k = ap is_at_end k.0
end_image r outer (AtKind version) begun k = ap is_at_end k.0
end_image r outer (AtHead o records) begun k = ap is_at_end k.0
end_image r outer (AtBody o records head) begun k = ap is_at_end k.0
end_image r outer (AtFront o records head) begun k = ap is_at_end k.0
end_image r outer (AtWords o records head n) begun k = ap is_at_end k.0
end_image r outer (AtPages o records head coming stood) begun k = ap is_at_end k.0
end_image r outer (AtPadding o records head content) begun k = ap is_at_end k.0

-- what was seen of a whole stream
whole_seen : (r : Relay) (here : Spot) (begun bytes : List ℕ) (seen : SeenState) → Keeps r here begun → is_at_end r.coming ≡ true → Has here begun bytes seen → StandsBefore bytes seen.front None
whole_seen r AtStart begun bytes seen k over h = absurd (true≢false (sym over ∙ ap is_at_end k.0))
whole_seen r AtLibxlHeader begun bytes seen k over h = absurd (true≢false (sym over ∙ ap is_at_end k.0))
whole_seen r (AtLibxlHead records) begun bytes seen k over h = absurd (true≢false (sym over ∙ ap is_at_end k.0))
whole_seen r (AtLibxlBody records head) begun bytes seen k over h = absurd (true≢false (sym over ∙ ap is_at_end k.0))
whole_seen r (AtLibxlPadding records head content) begun bytes seen k over h = absurd (true≢false (sym over ∙ ap is_at_end k.0))
whole_seen r (InImage outer next) begun bytes seen (around, k) over h = absurd (true≢false (sym over ∙ end_image r outer next begun k))
whole_seen r (AtEnd s) begun bytes seen k over h =
    subst (λ l. StandsBefore l seen.front None) (sym (h.split ∙ ap (λ l. h.front ++ l) (nil_from_length h.part h.hand.1) ∙ append-nil h.front)) h.stands

pub shows_whole : (r t : Relay) (seen : SeenState) (old mid new before now : Option (List ℕ)) (l : Looks r seen old mid) → StepSays l.stands.here l.stands.begun l.bytes r t mid new before now (Ok steps.Done) → Shows old new None (front_tree seen.front None)
shows_whole r t seen old mid new before now l (s, passable, stays, quiet, has) = record {
  bytes = l.bytes;
  s = s;
  passes = λ more. fronts_pass l.bytes more s passable;
  taken = subst (Consumes old new) (append-nil l.bytes) (Consumes-trans old mid new l.bytes [] l.taken (left_alone mid new stays));
  front = seen.front;
  stands = whole_seen r l.stands.here l.stands.begun l.bytes seen l.stands.keeps (over_there l.stands s passable) l.has;
  form = l.has.form;
  tree_is = refl;
}

-- ---- a refusal

-- where nothing was taken yet, the input doesn't begin with the ident
start_form : (r : Relay) (here : Spot) (begun bytes left : List ℕ) (seen : SeenState) → Keeps r here begun → (is_at_start r.coming ≡ true → begins_with_ident left ≡ false) → Has here begun bytes seen → seen.front.wrapper ≡ begins_with_ident (bytes ++ left)
start_form r AtStart begun bytes left seen k first h = ap (λ (f : ShownFront). f.wrapper) h.around ∙ sym (first (ap is_at_start k.0)) ∙ ap (λ l. begins_with_ident (l ++ left)) (sym (h.none refl))
start_form r AtLibxlHeader begun bytes left seen k first h = h.form ∙ sym (form_on bytes left (h.long refl))
start_form r (AtLibxlHead records) begun bytes left seen k first h = h.form ∙ sym (form_on bytes left (h.long refl))
start_form r (AtLibxlBody records head) begun bytes left seen k first h = h.form ∙ sym (form_on bytes left (h.long refl))
start_form r (AtLibxlPadding records head content) begun bytes left seen k first h = h.form ∙ sym (form_on bytes left (h.long refl))
start_form r (InImage outer next) begun bytes left seen k first h = h.form ∙ sym (form_on bytes left (h.long refl))
start_form r (AtEnd s) begun bytes left seen k first h = h.form ∙ sym (form_on bytes left (h.long refl))

not_begun : (left : List ℕ) → (begins_with_ident left ≡ true → ⊥) → begins_with_ident left ≡ false
not_begun left never = by (begins_with_ident left) refl
  where
    by : (b : Bool) → begins_with_ident left ≡ b → begins_with_ident left ≡ false
    by true is = absurd (never is)
    by false is = is

pub shows_refused : (r t : Relay) (seen : SeenState) (old mid new before now : Option (List ℕ)) (place : Place) (cause : Cause) (l : Looks r seen old mid) → StepSays l.stands.here l.stands.begun l.bytes r t mid new before now (Err (Refused place cause))
    → ((left : List ℕ) → is_at_start r.coming ≡ true → mid ≡ Some left → begins_with_ident left ≡ true → ⊥) → Shows old new (Some (place, cause)) (front_tree seen.front (Some (place, cause)))
shows_refused r t seen None mid new before now place cause l says first = (seen.front, refl)
shows_refused r t seen (Some input) mid new before now place cause l (refusal, (wrote, w, unread, unfinished, at)) first = by mid l.taken refusal first
  where
    h : Has l.stands.here l.stands.begun l.bytes seen
    h = l.has

    by : (m : Option (List ℕ)) → Consumes (Some input) m l.bytes → IsRefusedBehind l.bytes m new place cause → ((left : List ℕ) → is_at_start r.coming ≡ true → m ≡ Some left → begins_with_ident left ≡ true → ⊥) → ShowsRefused input new place cause (front_tree seen.front (Some (place, cause)))
    by None gone refused first = absurd gone
    by (Some left) gone (rest, is, after) first = record {
      rest = rest;
      refused = ap open_stream_at gone ∙ is;
      left_is = after;
      bytes = h.front;
      more = h.part ++ left;
      split = gone ∙ ap (λ l. l ++ left) h.split ∙ append_assoc h.front h.part left;
      front = seen.front;
      stands = subst (StandsBefore h.front seen.front) at h.stands;
      form = start_form r l.stands.here l.stands.begun l.bytes left seen l.stands.keeps (λ start. not_begun left (first left start refl)) h ∙ ap begins_with_ident (sym gone);
      tree_is = refl;
    }

-- what is shown where a step has answered an error
pub shows_ended : (r t : Relay) (seen : SeenState) (old mid new before now : Option (List ℕ)) (answer : RelayAnswer) (l : Looks r seen old mid) → StepSays l.stands.here l.stands.begun l.bytes r t mid new before now (Err answer)
    → ((left : List ℕ) → is_at_start r.coming ≡ true → mid ≡ Some left → begins_with_ident left ≡ true → IsNotRefused (Err answer)) → IfOk (ended_by answer) (λ refused. Shows old new refused (front_tree seen.front refused))
shows_ended r t seen old mid new before now (Refused place cause) l says first = shows_refused r t seen old mid new before now place cause l says first
shows_ended r t seen old mid new before now ReadFault l says first = tt
shows_ended r t seen old mid new before now WriteFault l says first = tt
shows_ended r t seen old mid new before now Memory l says first = tt

-- and which count rose
pub rises_ended : (start reads read writes written : ℕ) (answer : RelayAnswer) → reads ≡ start → RisesOnFault {X = Step} reads read writes written (Err answer) → RisesOnShow start read (ended_by answer)
rises_ended start reads read writes written (Refused place cause) same rises = rises.0 ∙ same
rises_ended start reads read writes written ReadFault same rises = (subst (λ n. n ≤ read) same rises.0, subst (λ n. Rose n read) same rises.1)
rises_ended start reads read writes written WriteFault same rises = rises.0 ∙ same
rises_ended start reads read writes written Memory same rises = rises.0 ∙ same
