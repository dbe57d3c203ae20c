-- What stays of a paused machine while machine frames are looked up: its host, and what a history says of rounds and reads.
use Rattle.mig_dirtysave.proofs.Common.{◌≡◌, ℕ, ◌+◌, ◌≤◌, List, [], ◌∷◌, ◌++◌, length, take, get_or, Option, Some, None, map, refl, sym, ap, subst, ◌∙◌, arith, ◌⊎◌, inl, inr, Result, Ok, Err, get_or_past, length-take, option_map, Kind, PageType, HostOf, HostFrame, IsValid, headers, text_of, telling_record, view, wrapper_opening, wrapper_closing, AcceptedStream, History, MachineState, AreTold, all_told, OnlyLooksUp, HasTypes, Unsound, SaveWritten, IsTrusted, min, cases_lt, get_or-take, Rounds, Tight, all_read, rounds_read, HasRounds, ReadsExactly, type_in, IfUnsound, SaveAnswer}
use Rattle.mig_guest.specs.Pfns.{Pfns, members}
use Rattle.std.specs.FinMap as maps
use Rattle.mig_dirtysave.specs.declared.answer.SaveAnswer.TheVariants as answers

-- ---- histories

module _ (kind : Kind) (width : ℕ) (h k : History) (taken : k.taken ≡ h.taken) (live : k.live ≡ h.live) (read : k.since.read ≡ h.since.read) (twice : k.since.twice ≡ h.since.twice) where
  rounds_kept : Rounds kind width h → Rounds kind width k
  rounds_kept r = record {
    live = r.live;
    last = r.last;
    logs = taken ∙ r.logs;
    before_pause = r.before_pause ∙ sym live;
    number = r.number;
    reads = r.reads;
    sizes = r.sizes;
    calls = r.calls;
    stopped = r.stopped;
    rest = λ p named. ap (λ (s : Pfns). s p) read ∙ r.rest p named;
    once = (r.once.0, twice ∙ r.once.1);
  }

  tight_kept : Tight kind width h → Tight kind width k
  unfolding rounds_kept
  tight_kept t = record { rounds = rounds_kept t.rounds; exact = read ∙ t.exact }

-- ---- machines

module _ (t u : MachineState) (looks : OnlyLooksUp t u) where
  pub tight_stay : ReadsExactly t → ReadsExactly u
  tight_stay r = λ honest.
      subst (λ (h : HostOf). Tight h.kind h.width u.history) (sym looks.host)
      (tight_kept t.host.kind t.host.width t.history u.history looks.taken looks.live looks.read looks.twice (r (sym looks.ran.honest ∙ honest)))

  pub rounds_stay : HasRounds t → HasRounds u
  rounds_stay r =
      subst (λ (h : HostOf). Rounds h.kind h.width u.history) (sym looks.host) (rounds_kept t.host.kind t.host.width t.history u.history looks.taken looks.live looks.read looks.twice r)

  pub read_stays : all_read t.host.width t.history ≡ all_read u.host.width u.history
  read_stays = let taken = sym looks.taken in let read = sym looks.read in let host = sym looks.host in λ i. rounds_read (host i).width (taken i) ++ members (host i).width (read i)

  pub all_stays : (width : ℕ) → all_read width u.history ≡ all_read width t.history
  all_stays width = let taken = looks.taken in let read = looks.read in λ i. rounds_read width (taken i) ++ members width (read i)

  pub trust_stays : IsTrusted u → IsTrusted t
  trust_stays (inl honest) = inl (sym looks.ran.honest ∙ honest)
  trust_stays (inr hvm) = inr (sym (ap (λ (h : HostOf). h.kind) looks.host) ∙ hvm)

  pub stream_stays : (old new : Option (List ℕ)) → SaveWritten old new t → SaveWritten old new u
  stream_stays old new w = record {
    before = w.before;
    batches = w.batches;
    behind = w.behind;
    text = w.text;
    image = w.image;
    image_is = w.image_is ∙ ap (λ (h : HostOf). headers h.kind ++ text_of (w.before ++ (map telling_record w.batches ++ (w.behind ++ (0, []) ∷ [])))) (sym looks.host);
    is = w.is ∙ ap (λ (h : HostOf). wrapper_opening h.parts ++ (w.image ++ wrapper_closing h.parts)) (sym looks.host);
    appended = w.appended;
    others = w.others;
    within = w.within;
    told = subst (λ (h : HostOf). AreTold h.kind h.width (all_told w.batches)) (sym looks.host) w.told;
    order = w.order ∙ read_stays;
    means = λ honest rest. subst (λ (h : HostOf). AcceptedStream (w.text ++ rest) (view h) rest) (sym looks.host) (w.means (sym looks.ran.honest ∙ honest) rest);
  }

-- ---- the types that are looked at

-- over an honest machine those below a number that is no less than the width, or than the types, are the host's
pub types_below : (h : HostOf) → IsValid h → (types : List (Option PageType)) (count : ℕ) → (length types ≤ count) ⊎ (h.width ≤ count) → ((p : ℕ) → get_or types p None ≡ type_in h.frames p) → HasTypes h (take count types)
types_below h valid types count enough saw p = elim (cases_lt p count) [
  | inl lt ↦ get_or-take count types p None lt ∙ saw p
  | inr ge ↦ get_or_past (take count types) p None (omega (arith, ge, length-take {A = Option PageType})) ∙ sym (elim enough [
    | inl all ↦ sym (saw p) ∙ get_or_past types p None (omega (arith, all, ge))
    | inr wide ↦ by (maps.get h.frames p) refl (omega (arith, wide, ge))
  ])
]
  where
    by : (o : Option HostFrame) → maps.get h.frames p ≡ o → h.width ≤ p → option_map (λ (f : HostFrame). f.type) o ≡ None
    by None is past = refl
    by (Some f) is past = let inside = (valid.frames p f is).inside in absurd (omega (arith, inside, past))

-- the lesser of two numbers is one of them
pub min_reaches : (a b w m : ℕ) → b ≡ w → m ≡ min a b → (a ≤ m) ⊎ (w ≤ m)
min_reaches a b w m same is = elim (cases_lt a b) [
  | inl lt ↦ inl (omega (arith, lt, is))
  | inr ge ↦ inr (omega (arith, ge, is, same))
]

-- ---- answers

pub unsound_then : {X : Type 0} {P Q : Unsound → Type 0} (r : Result X SaveAnswer) → ((u : Unsound) → P u → Q u) → IfUnsound r P → IfUnsound r Q
unsound_then (Ok x) go is = tt
unsound_then (Err (answers.Unsound u)) go is = go u is
unsound_then (Err answers.MachineFault) go is = tt
unsound_then (Err answers.WriteFault) go is = tt
