-- What a step over one part does, whatever the part is.
use Rattle.mig_relay.proofs.Common.{◌≡◌, ℕ, ◌+◌, ◌<◌, ◌≤◌, List, [], ◌++◌, length, take, drop, min, Bool, true, false, cond, nat_lt, Option, Some, None, Result, Ok, Err, refl, sym, ap, subst, ◌∙◌, arith, append_assoc, append-nil, length-append, length-take-le, length-drop, take-append-drop, lt-ltb, ltb-true, Consumes, Appends, AppendsPart, TakesFew, Judged, ◌>>=◌, part, tried, placed, AgreesWithJudging, Passes, Faulty, Stop, part_passes, part_whole, same_faulty, Cause, Truncated, Place, StreamOf, ComesNext, place_of_spot, Keeps, BeginsWithPart, Spot, spot, held, most_of_part, is_judged_first, counted, FrontsAreCut, PassedPiece, IsUnfinished, Refuses, Stops, StepMoved, MovedBy, answer_of, RelayAnswer, Refused, WriteFault, Memory, Step, Relay, unless_faulty, IsStep, KeepsWordsInHand, true≢false}
use Rattle.std.proofs.KnownBytes.{Appends-nil}
use Rattle.mig_bytes.specs.declared.stop.Stop.TheVariants as stops

-- a part that was taken whole into a buffer
abbrev pub Buffered : List ℕ → Unit {0} → List ℕ → Type 0
Buffered buf _ bytes = bytes ≡ buf

pub consumed : (n : ℕ) (buf : List ℕ) (u : Unit {0}) (old new : Option (List ℕ)) → AgreesWithJudging (Buffered buf) old new (part Truncated n) (Ok u) → Consumes old new buf
consumed n buf u None new h = tt
consumed n buf u (Some left) new (bytes, rest, is, now, same) =
    subst (λ o. Consumes (Some left) o buf) (sym now) ((part_passes Truncated n left bytes rest is).0 ∙ ap (λ l. l ++ rest) same)

pub record Short (n : ℕ) (left : List ℕ) (c : Cause) (rest : List ℕ) : Type 0 where
  pub less : length left < n
  pub truncated : c ≡ Truncated
  pub nothing_left : rest ≡ []

pub short_is : (n : ℕ) (left : List ℕ) (c : Cause) (rest : List ℕ) → part Truncated n left ≡ Faulty c rest → Short n left c rest
short_is n left c rest h = by (nat_lt (length left) n) refl h
  where
    by : (b : Bool) → nat_lt (length left) n ≡ b → ◌≡◌ {A = Judged Cause (List ℕ)} (cond b (Faulty Truncated []) (Passes (take n left) (drop n left))) (Faulty c rest) → Short n left c rest
    by true is e = let same = same_faulty Truncated c [] rest e in record { less = ltb-true _ _ is; truncated = sym same.0; nothing_left = sym same.1 }
    by false is e = let no : ◌≡◌ {A = Judged Cause (List ℕ)} (Passes (take n left) (drop n left)) (Faulty c rest) = e in absurd (cc)

module _ (here : Spot) (place : Place) (size : ℕ) (fault : List ℕ → Option Cause) (follows : List ℕ → List ℕ → Judged (Place × Cause) StreamOf) (is : BeginsWithPart (spot here) place size fault follows) where
  -- fewer bytes than the part has
  pub cut : (bytes : List ℕ) → length bytes < size → spot here bytes ≡ Faulty (place, Truncated) []
  cut bytes less = is.judged bytes ∙ rw (lt-ltb (length bytes) size less) refl

  -- all bytes of the part, and what follows it
  pub faulty : (bytes rest : List ℕ) (c : Cause) → length bytes ≡ size → fault bytes ≡ Some c → spot here (bytes ++ rest) ≡ Faulty (place, c) rest
  faulty bytes rest c whole stands =
      is.judged (bytes ++ rest) ∙ ap (λ (j : Judged Cause (List ℕ)). placed place (j >>= λ b. tried (fault b.0) b.1 >>= λ _. Passes b.0 b.1) >>= λ b. follows b.0 b.1) (part_whole Truncated size bytes rest whole)
      ∙ ap (λ (g : Option Cause). placed place (tried g rest >>= λ _. Passes bytes rest) >>= λ b. follows b.0 b.1) stands

  pub passes : (bytes rest : List ℕ) → length bytes ≡ size → fault bytes ≡ None → spot here (bytes ++ rest) ≡ follows bytes rest
  passes bytes rest whole fine =
      is.judged (bytes ++ rest) ∙ ap (λ (j : Judged Cause (List ℕ)). placed place (j >>= λ b. tried (fault b.0) b.1 >>= λ _. Passes b.0 b.1) >>= λ b. follows b.0 b.1) (part_whole Truncated size bytes rest whole)
      ∙ ap (λ (g : Option Cause). placed place (tried g rest >>= λ _. Passes bytes rest) >>= λ b. follows b.0 b.1) fine

  module _ (sized : size ≤ most_of_part here) (begun : List ℕ) (r t : Relay) (old new before now : Option (List ℕ)) where
    -- fewer bytes than so many of the part
    fronts_cut : (bytes : List ℕ) → length begun + length bytes ≤ size → FrontsAreCut here begun bytes
    fronts_cut bytes room front more split some = (place, cut (begun ++ front) (omega (arith, length-append begun front, ap length split, length-append front more, some, room)))

    -- nothing more was written
    stops_here : (m : ℕ) → m ≤ held here → length begun + m ≤ size → length begun < size → TakesFew m old new → Appends before now [] → Stops here begun old new before now
    stops_here m small room less gone written =
        ([], record { others = gone.taken; few = omega (arith, gone.few, small); inside = omega (arith, gone.few, room, sized); taken = gone.gone; written = written }, (place, cut (begun ++ []) (omega (arith, length-append begun [], less))), fronts_cut [] (omega (arith, less)))

    truncated : (buf : List ℕ) (c : Cause) (o : Option (List ℕ)) → length begun + length buf ≤ size → AgreesWithJudging (Buffered buf) o new (part Truncated (length buf)) (Err (stops.Refused c)) → Refuses here begun o new place c
    truncated buf c None rest_of h = tt
    truncated buf c (Some left) room (rest, is_faulty, left_now) =
        let s = short_is (length buf) left c rest is_faulty in
        (rest, cut (begun ++ left) (omega (arith, length-append begun left, room, s.less)) ∙ ap (λ d. Faulty (place, d) []) (sym s.truncated) ∙ ap (Faulty (place, c)) (sym s.nothing_left), left_now)

    -- the bytes that the part still lacks couldn't be taken
    pub stopped : (buf : List ℕ) (e : Stop Cause) (answer : RelayAnswer) → answer ≡ answer_of place e → length begun + length buf ≤ size → 0 < length buf → before ≡ now → AgreesWithJudging (Buffered buf) old new (part Truncated (length buf)) (Err e) → length buf ≤ held here → TakesFew (length buf) old new → place_of_spot here ≡ Some place
        → StepMoved here begun r t old new before now (Err answer)
    stopped buf e answer is_answer room some kept h small gone at = subst (λ (a : RelayAnswer). StepMoved here begun r t old new before now (Err a)) (sym is_answer) (record { is = by e h })
      where
        written : Appends before now []
        written = subst (λ o. Appends before o []) kept (Appends-nil before)

        less : length begun < size
        less = omega (arith, room, some)

        by : (e : Stop Cause) → AgreesWithJudging (Buffered buf) old new (part Truncated (length buf)) (Err e) → MovedBy here begun r t old new before now (Err (answer_of place e))
        by (stops.Refused c) h = (
          truncated buf c old room h,
          (
            [],
            record { others = gone.taken; few = omega (arith, gone.few, small); inside = omega (arith, gone.few, room, sized); taken = gone.gone; written = written },
            λ _. refl,
            ((place, Truncated), [], cut (begun ++ []) (omega (arith, length-append begun [], less))),
            fronts_cut [] (omega (arith, less)),
            at,
          ),
        )
        by stops.ReadFault h = stops_here (length buf) small room less gone written
        by stops.Memory h = stops_here (length buf) small room less gone written

    refuses : (buf : List ℕ) (u : Unit {0}) (c : Cause) (o : Option (List ℕ)) → length (begun ++ buf) ≡ size → fault (begun ++ buf) ≡ Some c → AgreesWithJudging (Buffered buf) o new (part Truncated (length buf)) (Ok u) → Refuses here begun o new place c
    refuses buf u c None whole stands h = tt
    refuses buf u c (Some left) whole stands (bytes, rest, passed, left_now, same) =
        (rest, ap (λ l. spot here (begun ++ l)) ((part_passes Truncated (length buf) left bytes rest passed).0 ∙ ap (λ l. l ++ rest) same) ∙ ap (spot here) (sym (append_assoc begun buf rest)) ∙ faulty (begun ++ buf) rest c whole stands, left_now)

    -- a cause stands in the whole part, of which some first bytes were written
    pub refused : (buf wrote others : List ℕ) (u : Unit {0}) (c : Cause) (answer : RelayAnswer) → answer ≡ Refused place c → length (begun ++ buf) ≡ size → fault (begun ++ buf) ≡ Some c → AgreesWithJudging (Buffered buf) old new (part Truncated (length buf)) (Ok u) → buf ≡ wrote ++ others → length buf ≤ held here → Appends before now wrote
        → (is_judged_first here ≡ true → wrote ≡ []) → IsUnfinished (spot here (begun ++ wrote)) → place_of_spot here ≡ Some place → StepMoved here begun r t old new before now (Err answer)
    refused buf wrote others u c answer is_answer whole stands h split small written first unfinished at =
        subst (λ (a : RelayAnswer). StepMoved here begun r t old new before now (Err a)) (sym is_answer)
        (record { is = (refuses buf u c old whole stands h, (wrote, record { others = others; few = omega (arith, small, ap length split, length-append wrote others); inside = omega (arith, sized, whole, length-append begun buf, ap length split, length-append wrote others); taken = subst (Consumes old new) split (consumed (length buf) buf u old new h); written = written }, first, unfinished, fronts_cut wrote (omega (arith, whole, length-append begun buf, ap length split, length-append wrote others)), at)) })

    -- the last piece of a body was written, and a cause stands in the whole body
    pub refused_behind : (buf : List ℕ) (u : Unit {0}) (c : Cause) (answer : RelayAnswer) → answer ≡ Refused place c → length (begun ++ buf) ≡ size → fault (begun ++ buf) ≡ Some c → AgreesWithJudging (Buffered buf) old new (part Truncated (length buf)) (Ok u) → length buf ≤ held here → Appends before now buf → is_judged_first here ≡ false → place_of_spot here ≡ Some place
        → StepMoved here begun r t old new before now (Err answer)
    refused_behind buf u c answer is_answer whole stands h small written last at =
        refused buf buf [] u c answer is_answer whole stands h (sym (append-nil buf)) small written (λ first. absurd (true≢false (sym first ∙ last)))
        ((place, c), [], ap (spot here) (sym (append-nil (begun ++ buf))) ∙ faulty (begun ++ buf) [] c whole stands) at

    -- a write failed
    pub unwritten : (buf : List ℕ) (u : Unit {0}) → length buf ≤ held here → length begun + length buf < size + 1 → AgreesWithJudging (Buffered buf) old new (part Truncated (length buf)) (Ok u) → AppendsPart before now buf → StepMoved here begun r t old new before now (Err WriteFault)
    unwritten buf u small room h (k, less, written) =
        record {
          is = (
            take k buf,
            record { others = drop k buf; few = omega (arith, length-drop k buf, length-take-le k buf (omega (arith, less)), less, small); inside = omega (arith, sized, room, length-drop k buf, length-take-le k buf (omega (arith, less)), less); taken = subst (Consumes old new) (sym (take-append-drop k buf)) (consumed (length buf) buf u old new h); written = written },
            (place, cut (begun ++ take k buf) (omega (arith, length-append begun (take k buf), room, less, length-take-le k buf (omega (arith, less))))),
            fronts_cut (take k buf) (omega (arith, room, less, length-take-le k buf (omega (arith, less)))),
          );
        }

    -- a piece of the part, or the rest of it
    pub goes_on : (buf : List ℕ) (u : Unit {0}) (next : Spot) (front : List ℕ) (step : Step) → length begun + length buf ≤ size → length buf ≤ held here → 0 < length buf → AgreesWithJudging (Buffered buf) old new (part Truncated (length buf)) (Ok u) → Appends before now buf
        → ((more : List ℕ) → spot here (begun ++ (buf ++ more)) ≡ spot next (front ++ more)) → Keeps t next front → t.passed ≡ counted r.passed (length buf) → IsStep here buf t step → KeepsWordsInHand r t step → ComesNext here begun buf next front → PassedPiece here begun step r t old new before now
    goes_on buf u next front step room small some h written same keeps count is_step words follow =
        record { piece = buf; next = next; front = front; some = some; taken = consumed (length buf) buf u old new h; written = written; same = same; keeps = keeps; small = small; inside = omega (arith, room, sized); cuts = fronts_cut buf room; follows = follow; count = count; is = is_step; words = words }

-- ---- a part that is taken at once

module _ {here : Spot} {place : Place} {size : ℕ} {fault : List ℕ → Option Cause} {follows : List ℕ → List ℕ → Judged (Place × Cause) StreamOf} (is : BeginsWithPart (spot here) place size fault follows) (r t : Relay) (old new before now : Option (List ℕ)) (buf : List ℕ) (whole : length buf ≡ size) (most : length buf ≤ min (held here) (most_of_part here)) where
  pub not_taken : (e : Stop Cause) (answer : RelayAnswer) → answer ≡ answer_of place e → before ≡ now → AgreesWithJudging (Buffered buf) old new (part Truncated (length buf)) (Err e) → TakesFew (length buf) old new → place_of_spot here ≡ Some place → StepMoved here [] r t old new before now (Err answer)
  not_taken e answer is_answer kept h gone at = stopped here place size fault follows is (omega (arith, most, whole)) [] r t old new before now buf e answer is_answer (omega (arith, whole)) (omega (arith, whole, is.some)) kept h (omega (arith, most)) gone at

  pub not_allowed : (u : Unit {0}) (c : Cause) (answer : RelayAnswer) → answer ≡ Refused place c → Some c ≡ fault buf → before ≡ now → AgreesWithJudging (Buffered buf) old new (part Truncated (length buf)) (Ok u) → place_of_spot here ≡ Some place → StepMoved here [] r t old new before now (Err answer)
  not_allowed u c answer is_answer stands kept h at =
      refused here place size fault follows is (omega (arith, most, whole)) [] r t old new before now buf [] buf u c answer is_answer whole (sym stands) h refl (omega (arith, most)) (subst (λ o. Appends before o []) kept (Appends-nil before)) (λ _. refl)
      ((place, Truncated), [], cut here place size fault follows is [] is.some) at

  pub not_written : (u : Unit {0}) → AgreesWithJudging (Buffered buf) old new (part Truncated (length buf)) (Ok u) → AppendsPart before now buf → StepMoved here [] r t old new before now (Err WriteFault)
  not_written u h part_of = unwritten here place size fault follows is (omega (arith, most, whole)) [] r t old new before now buf u (omega (arith, most)) (omega (arith, whole)) h part_of

  -- the part was taken and isn't written
  pub gave_up : (u : Unit {0}) → before ≡ now → AgreesWithJudging (Buffered buf) old new (part Truncated (length buf)) (Ok u) → StepMoved here [] r t old new before now (Err Memory)
  gave_up u kept h = record {
    is =
        ([], record { others = buf; few = omega (arith, most); inside = omega (arith, whole, most); taken = consumed (length buf) buf u old new h; written = subst (λ o. Appends before o []) kept (Appends-nil before) }, (place, cut here place size fault follows is [] is.some), fronts_cut here place size fault follows is (omega (arith, most, whole)) [] r t old new before now [] (omega (arith, is.some)));
  }

  pub went : (u : Unit {0}) (next : Spot) (front : List ℕ) (step : Step) → None ≡ fault buf → AgreesWithJudging (Buffered buf) old new (part Truncated (length buf)) (Ok u) → Appends before now buf → ((more : List ℕ) → follows buf more ≡ spot next (front ++ more)) → Keeps t next front
      → t.passed ≡ counted r.passed (length buf) → IsStep here buf t step → KeepsWordsInHand r t step → ComesNext here [] buf next front → PassedPiece here [] step r t old new before now
  went u next front step fine h written same keeps count is_step words follow =
      goes_on here place size fault follows is (omega (arith, most, whole)) [] r t old new before now buf u next front step (omega (arith, whole)) (omega (arith, most)) (omega (arith, whole, is.some)) h written (λ more. passes here place size fault follows is buf more whole (sym fine) ∙ same more) keeps count is_step words follow

-- ---- what a decoder answers

pub err_fault : {H : Type 0} (f : Option Cause) (h : H) (c : Cause) → ◌≡◌ {A = Result H Cause} (Err c) (unless_faulty f h) → Some c ≡ f
err_fault {H} None h c e = let no : ◌≡◌ {A = Result H Cause} (Err c) (Ok h) = e in cc
err_fault (Some d) h c e = cc

pub ok_none : {H : Type 0} (f : Option Cause) (h x : H) → ◌≡◌ {A = Result H Cause} (Ok x) (unless_faulty f h) → (None ≡ f) × (h ≡ x)
ok_none None h x e = (refl, cc)
ok_none {H} (Some c) h x e = let no : ◌≡◌ {A = Result H Cause} (Ok x) (Err c) = e in (cc, cc)
