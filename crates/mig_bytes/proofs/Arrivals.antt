-- The front that a reader of parts one after another has behind it.
use Rattle.mig_bytes.proofs.Common.{◌≡◌, ℕ, Bool, true, false, List, [], ◌∷◌, ◌++◌, Option, Some, None, Result, Ok, Err, refl, sym, subst, ◌∙◌, IsErrAnd, Judged, AgreesWithJudging, Passes, Front, at_start, sequence_at, Reaches, here, next, Stop, Refused, ReadFault, Memory}
use Rattle.std.specs.Prelude.{⊤}
use Rattle.mig_bytes.specs.Sequences.{grown}
use Rattle.mig_bytes.proofs.Sequences.{Found, grows, all_parts, next_refused}

module _ {C E S : Type 0} (is_ended : List E → Bool) (part_at : List E → List ℕ → Judged C E) (Is : S → List E → Type 0) where
  -- what the reader knows between two parts, where Is says what its state keeps of those before
  abbrev pub Arrived : Option (List ℕ) → Option (List ℕ) → S → Type 0
  Arrived None now s = ⊤
  Arrived (Some input) now s = (f : Front E) × Reaches (grown is_ended part_at) (at_start input) f × (now ≡ Some f.rest) × Is s f.parts × (is_ended f.parts ≡ false)

  pub arrived_first : (a : Option (List ℕ)) (s : S) → Is s [] → is_ended [] ≡ false → Arrived a a s
  arrived_first None s is going = tt
  arrived_first (Some i) s is going = (at_start i, here, refl, is, going)

  module _ (ends : E → Bool) where
    -- the clause of the reader of a part, which answers whether it was the last
    abbrev pub Tells : S → S → Option (List ℕ) → Option (List ℕ) → Result Bool (Stop C) → Type 0
    Tells s t b c r = (parts : List E) → Is s parts → AgreesWithJudging (λ over e. Is t (parts ++ e ∷ []) × (over ≡ ends e)) b c (part_at parts) r

    at_now : (f : Front E) (s t : S) (b c : Option (List ℕ)) (r : Result Bool (Stop C)) → b ≡ Some f.rest → Is s f.parts → Tells s t b c r → AgreesWithJudging (λ over e. Is t (f.parts ++ e ∷ []) × (over ≡ ends e)) (Some f.rest) c (part_at f.parts) r
    at_now f s t b c r now is told = subst (λ o. AgreesWithJudging (λ over e. Is t (f.parts ++ e ∷ []) × (over ≡ ends e)) o c (part_at f.parts) r) now (told f.parts is)

    module _ (ended_more : (parts : List E) (e : E) → is_ended parts ≡ false → is_ended (parts ++ e ∷ []) ≡ ends e) where
      pub arrived_next : (a b c : Option (List ℕ)) (s t : S) (over : Bool) → over ≡ false → Arrived a b s → Tells s t b c (Ok over) → Arrived a c t
      arrived_next None b c s t over still h told = tt
      arrived_next (Some i) b c s t over still (f, reached, now, is, going) told =
          let (e, after, judged, left, kept) = at_now f s t b c (Ok over) now is told in
          (record { parts = f.parts ++ e ∷ []; rest = after }, next f _ reached (grows is_ended part_at f e after going judged), left, kept.0, ended_more f.parts e going ∙ sym kept.1 ∙ still)

      module _ (Follows : List E → E → List ℕ → Type 0) (found : (parts : List E) (i : List ℕ) (e : E) (rest : List ℕ) → is_ended parts ≡ false → part_at parts i ≡ Passes e rest → Found Follows parts i e rest) where
        pub arrived_end : (a b c : Option (List ℕ)) (s t : S) (over : Bool) → over ≡ true → Arrived a b s → Tells s t b c (Ok over) → AgreesWithJudging Is a c (sequence_at is_ended part_at) (Ok t)
        arrived_end None b c s t over is_over h told = tt
        arrived_end (Some i) b c s t over is_over (f, reached, now, is, going) told =
            let (e, after, judged, left, kept) = at_now f s t b c (Ok over) now is told in
            let last : Front E = record { parts = f.parts ++ e ∷ []; rest = after } in
            (last.parts, after, all_parts is_ended part_at Follows found i last (next f last reached (grows is_ended part_at f e after going judged)) (ended_more f.parts e going ∙ sym kept.1 ∙ is_over), left, kept.0)

        pub arrived_stopped : (a b c : Option (List ℕ)) (s t : S) (stop : Stop C) → Arrived a b s → Tells s t b c (Err stop) → AgreesWithJudging Is a c (sequence_at is_ended part_at) (Err stop)
        arrived_stopped None b c s t stop h told = tt
        arrived_stopped (Some i) b c s t (Refused cause) (f, reached, now, is, going) told =
            let (rest, judged, left) = at_now f s t b c (Err (Refused cause)) now is told in
            (rest, next_refused is_ended part_at Follows found i f cause rest reached going judged, left)
        arrived_stopped (Some i) b c s t ReadFault h told = tt
        arrived_stopped (Some i) b c s t Memory h told = tt

        pub arrived_ends : (a b c : Option (List ℕ)) (s t : S) (stop : Stop C) (r : Result S (Stop C)) → IsErrAnd r (λ d. d ≡ stop) → Arrived a b s → Tells s t b c (Err stop) → AgreesWithJudging Is a c (sequence_at is_ended part_at) r
        arrived_ends a b c s t stop (Ok x) is h told = absurd is
        arrived_ends a b c s t stop (Err d) is h told = subst (λ e. AgreesWithJudging Is a c (sequence_at is_ended part_at) (Err e)) (sym is) (arrived_stopped a b c s t stop h told)
