-- What one more number does to the saver's invariant, and to a round.
use Rattle.mig_dirtysave_rounds.proofs.Common.{arith, ◌≡◌, ℕ, suc, ◌+◌, ◌*◌, ◌^◌, ◌≤◌, ◌<◌, List, [], ◌∷◌, ◌++◌, length, Bool, true, false, cond, Option, Some, None, Result, Ok, Err, refl, sym, ap, subst, ◌∙◌, inl, inr, ⊎_elim, length-append, append-nil, ◌||◌, ◌==◌, ◌⊎◌, OnErr, nat_cmp_total, eqb-true, nat_tests, length-map, Kind, Pv, Hvm, FrameOf, HostOf, HostFrames, Pfns, no_pfns, members, size, with_pfn, Footprint, footprint, History, Since, nothing_asked, MachineState, Ran, table_of, superpage_in, lost_in, form_of_print, type_of_print, Worst, Finding, judge, judged, found_as, frame_sent, is_deferred, type_found, CanBeTold, ReadsOne, Strays, most_calls, rest, all_read, rounds_read, pfns_sent, all_told, frames_meant, AreTold, MostSent, IsBehind, FrameTold, Notes, Current, noted, behind_anyway, ReadsFront, SendsFront, IsWorst, or_first, within_set, place, super_of, lost_of, size-le, size_more, size_stays, map, append_assoc, unsigned_tied, map-append, FrameMap, entry_for, put_at, put_told, IsToldEntry, FallsBehind, members_yes, members_no}
use Rattle.std.proofs.lemmas.List.Sums.{fold-append}
use Rattle.mig_dirtysave_rounds.specs.declared.found.Found.{Found}
use Rattle.mig_dirtysave_rounds.specs.Sends.{first_pfn, found_super, found_lost}
use Rattle.mig_dirtysave_rounds.proofs.Parts.{nothing_before, front_more, front_skip, not_itself, rest_more, rest_skip, rest_all, skip_to}
use Rattle.mig_dirtysave_rounds.proofs.Sizes.{members_front}
use Rattle.mig_dirtysave_rounds.proofs.Shapes.{shape_none, shape_on}
use Rattle.std.specs.FinMap as fin
use Rattle.mig_dirtysave_rounds.specs.declared.found.Found.TheVariants as found

-- ---- what a list of entries means

pub got : (m : FrameMap) (p : ℕ) (f : Option FrameOf) (q : ℕ) → fin.get (put_at m p f) q ≡ cond (q == p) f (fin.get m q)
got m p None q = fin.get-remove nat_cmp_total m p q ∙ ap (λ b. cond b None (fin.get m q)) (unsigned_tied q p)
got m p (Some f) q = fin.get-insert nat_cmp_total m p f q ∙ ap (λ b. cond b (Some f) (fin.get m q)) (unsigned_tied q p)

meant_more : (es : List FrameTold) (p : ℕ) (f : Option FrameOf) (q : ℕ) → fin.get (frames_meant (es ++ record { pfn = p; frame = f } ∷ [])) q ≡ cond (q == p) f (fin.get (frames_meant es) q)
meant_more es p f q = ap (λ m. fin.get m q) (fold-append put_told fin.empty es (record { pfn = p; frame = f } ∷ [])) ∙ got (frames_meant es) p f q

-- ---- the invariant

-- what isn't in the new log wasn't in the old one, and is as it was
pub record Quiet (log newer : Pfns) (frames after : HostFrames) : Type 0 where
  pub grown : (q : ℕ) → newer q ≡ false → log q ≡ false
  pub same : (q : ℕ) → newer q ≡ false → footprint after q ≡ footprint frames q

pub quiet : (s t : MachineState) (log : Pfns) → Ran s t log → s.honest ≡ true → Quiet s.log log s.host.frames t.host.frames
quiet s t log r h = record { grown = r.grown; same = r.quiet h }

pub still : (s t : MachineState) → t.host ≡ s.host → Quiet no_pfns no_pfns s.host.frames t.host.frames
still s t e = record { grown = λ q n. n; same = λ q n. ap (λ (h : HostOf). footprint h.frames q) e }

-- a finding tells the type that the footprint has
judged_type : (a b : Option ℕ) (f : FrameOf) → type_found (judge a b f) ≡ Some f.type
judged_type (Some slot) b f = refl
judged_type None (Some slot) f = refl
judged_type None None f = refl

pub type_right : (o : Option Footprint) → type_found (judged o) ≡ type_of_print o
type_right None = refl
type_right (Some f) = judged_type (superpage_in (table_of f)) (lost_in (table_of f) f.names) (form_of_print f)

module _ (unread fewer log newer : Pfns) (notes : Notes) (frames after : HostFrames) (es : List FrameTold) (p : ℕ) (j : Finding) (read : (q : ℕ) → fewer q ≡ false → (q ≡ p) ⊎ (unread q ≡ false))
    (quiet : Quiet log newer frames after) (right : newer p ≡ false → j ≡ judged (footprint after p)) (c : Current unread log frames es notes) where
  seen : (q : ℕ) → fewer q ≡ false → (q == p) ≡ false → unread q ≡ false
  seen q done e = ⊎_elim (λ (is : q ≡ p). absurd (differ is)) (λ (r : unread q ≡ false). r) (read q done)
    where
      differ : q ≡ p → ⊥
      differ is = grind (arith, nat_tests)

  -- what g tells of the finding at each number, where it told what is right of those that were sent before
  one_at : {X : Type 0} (g : Finding → X) (old : ℕ → X) → ((q : ℕ) → unread q ≡ false → log q ≡ false → old q ≡ g (judged (footprint frames q)))
      → (q : ℕ) → fewer q ≡ false → newer q ≡ false → (b : Bool) → (q == p) ≡ b → cond (q == p) (g j) (old q) ≡ g (judged (footprint after q))
  one_at g old was q done calm true e =
      let is : q ≡ p = eqb-true q p e in
      ap (λ b. cond b (g j) (old q)) e ∙ ap g (right (subst (λ n. newer n ≡ false) is calm)) ∙ ap (λ n. g (judged (footprint after n))) (sym is)
  one_at g old was q done calm false e = ap (λ b. cond b (g j) (old q)) e ∙ was q (seen q done e) (quiet.grown q calm) ∙ ap (λ f. g (judged f)) (sym (quiet.same q calm))

  pub current_more : Current fewer newer after (es ++ entry_for p j ∷ []) (noted p j notes)
  current_more = record {
    same = λ q done calm. meant_more es p (frame_sent j) q ∙ one_at frame_sent (λ q. fin.get (frames_meant es) q) c.same q done calm (q == p) refl;
    kept = λ q done calm. one_at is_deferred notes.deferred c.kept q done calm (q == p) refl;
    types = λ q done calm. one_at type_found notes.types (λ q r l. c.types q r l ∙ sym (type_right (footprint frames q))) q done calm (q == p) refl ∙ type_right (footprint after q);
  }

-- nothing was sent
pub current_on : (unread more log newer : Pfns) (notes : Notes) (frames after : HostFrames) (es : List FrameTold)
    → ((q : ℕ) → more q ≡ false → newer q ≡ false → (unread q ≡ false) × (log q ≡ false) × (footprint after q ≡ footprint frames q))
    → Current unread log frames es notes → Current more newer after es notes
current_on unread more log newer notes frames after es on c = record {
  same = λ q r l. let (a, b, e) = on q r l in c.same q a b ∙ ap (λ f. frame_sent (judged f)) (sym e);
  kept = λ q r l. let (a, b, e) = on q r l in c.kept q a b ∙ ap (λ f. is_deferred (judged f)) (sym e);
  types = λ q r l. let (a, b, e) = on q r l in c.types q a b ∙ ap type_of_print (sym e);
}

-- ---- the first tables that can't be sent

super_found : (f : Found) (page : List ℕ) → found_super f ≡ super_of (found_as f page)
super_found found.Gone page = refl
super_found (found.Shows kind) page = refl
super_found (found.Superpage kind slot) page = refl
super_found (found.NoFrame kind slot) page = refl

lost_found : (f : Found) (page : List ℕ) → found_lost f ≡ lost_of (found_as f page)
lost_found found.Gone page = refl
lost_found (found.Shows kind) page = refl
lost_found (found.Superpage kind slot) page = refl
lost_found (found.NoFrame kind slot) page = refl

first_more : (f : ℕ → Option ℕ) (n : ℕ) → first_pfn f (n + 1) ≡ or_first (first_pfn f n) (place n (f n))
unfolding first_pfn
first_more f n = ap (first_pfn f) (let e : n + 1 ≡ suc n = omega arith in e)

or_none : {A : Type 0} (x : Option A) → x ≡ or_first x None
or_none None = refl
or_none (Some a) = refl

pub worst_none : (set : Pfns) (frames : HostFrames) → IsWorst 0 set frames (record { superpage = None; lost = None })
unfolding first_pfn
worst_none set frames = record { superpage = refl; lost = refl }

pub worst_skips : (i : ℕ) (set : Pfns) (frames : HostFrames) (w : Worst) → set i ≡ false → IsWorst i set frames w → IsWorst (i + 1) set frames w
worst_skips i set frames w outside h = record {
  superpage = step (λ q. super_of (judged (footprint frames q))) w.superpage h.superpage;
  lost = step (λ q. lost_of (judged (footprint frames q))) w.lost h.lost;
}
  where
    step : (f : ℕ → Option ℕ) (x : Option (ℕ × ℕ)) → x ≡ first_pfn (within_set set f) i → x ≡ first_pfn (within_set set f) (i + 1)
    step f x is = or_none x ∙ ap (λ y. or_first y None) is ∙ ap (λ b. or_first (first_pfn (within_set set f) i) (place i (cond b (f i) None))) (sym outside) ∙ sym (first_more (within_set set f) i)

pub worst_sends : (i : ℕ) (set : Pfns) (frames : HostFrames) (w v : Worst) (f : Found) (page : List ℕ) → set i ≡ true → found_as f page ≡ judged (footprint frames i)
    → v.superpage ≡ or_first w.superpage (place i (found_super f)) → v.lost ≡ or_first w.lost (place i (found_lost f)) → IsWorst i set frames w → IsWorst (i + 1) set frames v
worst_sends i set frames w v f page inside right super lost h = record {
  superpage = super ∙ step (λ q. super_of (judged (footprint frames q))) w.superpage (found_super f) h.superpage (super_found f page ∙ ap super_of right);
  lost = lost ∙ step (λ q. lost_of (judged (footprint frames q))) w.lost (found_lost f) h.lost (lost_found f page ∙ ap lost_of right);
}
  where
    step : (g : ℕ → Option ℕ) (x : Option (ℕ × ℕ)) (y : Option ℕ) → x ≡ first_pfn (within_set set g) i → y ≡ g i → or_first x (place i y) ≡ first_pfn (within_set set g) (i + 1)
    step g x y is at =
        ap (λ z. or_first z (place i y)) is ∙ ap (λ z. or_first (first_pfn (within_set set g) i) (place i z)) at
        ∙ ap (λ b. or_first (first_pfn (within_set set g) i) (place i (cond b (g i) None))) (sym inside) ∙ sym (first_more (within_set set g) i)

-- ---- a round: what was read

pub reads_start : (set : Pfns) (s : MachineState) → s.history.since ≡ nothing_asked → ReadsFront 0 set s s
reads_start set s fresh = record {
  shape = shape_none s.host;
  honest = refl;
  paused = refl;
  stopped = λ h. refl;
  taken = refl;
  count = refl;
  read = ap (λ (a : Since). a.read) fresh ∙ nothing_before set;
  once = ap (λ (a : Since). a.twice) fresh;
  least = omega (arith, ap (λ (a : Since). a.calls) fresh);
  most = omega (arith, ap (λ (a : Since). a.calls) fresh);
}

pub reads_skip : (set : Pfns) (i : ℕ) (s t : MachineState) → set i ≡ false → ReadsFront i set s t → ReadsFront (i + 1) set s t
reads_skip set i s t outside f = record {
  shape = f.shape;
  honest = f.honest;
  paused = f.paused;
  stopped = f.stopped;
  taken = f.taken;
  count = f.count;
  read = f.read ∙ front_skip set i outside;
  once = f.once;
  least = omega (arith, f.least, size_stays set i outside);
  most = subst (λ n. t.history.since.calls ≤ most_calls s.host.kind * n) (sym (size_stays set i outside)) f.most;
}

few_calls : (kind : Kind) (n : ℕ) → n ≤ 2 ^ 28 → most_calls kind * n ≤ 513 * 2 ^ 28
few_calls Pv n le = omega arith
few_calls Hvm n le = omega arith

pub reads_more : (set : Pfns) (i : ℕ) (s t u : MachineState) (j : Finding) → set i ≡ true → i < 2 ^ 28 → ReadsFront i set s t → ReadsOne i t u j → ReadsFront (i + 1) set s u
reads_more set i s t u j inside small f one = record {
  shape = shape_on s.host t.host u.host f.shape one.ran.shape;
  honest = one.ran.honest ∙ f.honest;
  paused = one.paused ∙ f.paused;
  stopped = λ h. one.ran.stopped (f.paused ∙ h) ∙ f.stopped h;
  taken = one.asks.taken ∙ f.taken;
  count = one.asks.live ∙ f.count;
  read = one.asks.read ∙ ap (with_pfn i) f.read ∙ front_more set i inside;
  once = one.asks.twice ∙ ap (λ b. b || t.history.since.read i) f.once ∙ ap (λ (r : Pfns). r i) f.read ∙ not_itself set i;
  least = omega (arith, size_more set i inside, f.least, one.asks.least, calls_small);
  most = subst (λ n. u.history.since.calls ≤ n) product (let up : u.history.since.calls ≤ most_calls s.host.kind * size i set + most_calls s.host.kind = omega (arith, f.most, one.asks.most, ap most_calls f.shape.kind) in up);
}
  where
    calls_small : t.history.since.calls ≤ 513 * 2 ^ 28
    calls_small = omega (arith, f.most, few_calls s.host.kind (size i set) (omega (arith, size-le set i)))

    product : most_calls s.host.kind * size i set + most_calls s.host.kind ≡ most_calls s.host.kind * size (i + 1) set
    product = sym (ap (λ n. most_calls s.host.kind * n) (size_more set i inside) ∙ spread (most_calls s.host.kind) (size i set))
      where
        spread : (m n : ℕ) → m * (n + 1) ≡ m * n + m
        spread m n = omega arith

-- ---- and what was sent

one_told : (kind : Kind) (width : ℕ) (es : List FrameTold) (e : FrameTold) → AreTold kind width es → IsToldEntry kind width e → AreTold kind width (es ++ e ∷ [])
one_told kind width [] e all one = (one, tt)
one_told kind width (x ∷ es) e all one = (all.0, one_told kind width es e all.1 one)

-- of the same kind and width
pub told_alike : (es : List FrameTold) {kind other : Kind} {width same : ℕ} → kind ≡ other → width ≡ same → AreTold kind width es → AreTold other same es
told_alike es k w h = subst (λ (p : Kind × ℕ). AreTold p.0 p.1 es) (λ i. (k i, w i)) h

pub sends_start : (set : Pfns) (s : MachineState) (es : List FrameTold) (notes : Notes) → SendsFront 0 set s s es es notes notes
sends_start set s es notes = record {
  told = λ h. h;
  names = sym (append-nil (map (λ (e : FrameTold). e.pfn) es));
  live = λ h c. current_on set (rest 0 set) s.log s.log notes s.host.frames s.host.frames es (λ q r l. (sym (rest_all set q) ∙ r, l, refl)) c;
  still = λ h c. current_on set (rest 0 set) no_pfns no_pfns notes s.host.frames s.host.frames es (λ q r l. (sym (rest_all set q) ∙ r, l, refl)) c;
}

pub sends_skip : (set : Pfns) (i : ℕ) (s t : MachineState) (before mid : List FrameTold) (notes now : Notes) → set i ≡ false → SendsFront i set s t before mid notes now → SendsFront (i + 1) set s t before mid notes now
sends_skip set i s t before mid notes now outside f = record {
  told = f.told;
  names = f.names ∙ ap (λ l. map (λ (e : FrameTold). e.pfn) before ++ l) (sym (members_no set i outside));
  live = λ h c. current_on (rest i set) (rest (i + 1) set) t.log t.log now t.host.frames t.host.frames mid (λ q r l. (rest_skip set i q outside r, l, refl)) (f.live h c);
  still = λ h c. current_on (rest i set) (rest (i + 1) set) no_pfns no_pfns now t.host.frames t.host.frames mid (λ q r l. (rest_skip set i q outside r, l, refl)) (f.still h c);
}

pub sends_more : (set : Pfns) (i : ℕ) (s t u : MachineState) (before mid : List FrameTold) (notes now new : Notes) (j : Finding) → set i ≡ true → i < s.host.width → ReadsFront i set s t → SendsFront i set s t before mid notes now
    → ReadsOne i t u j → new ≡ noted i j now → SendsFront (i + 1) set s u before (mid ++ entry_for i j ∷ []) notes new
sends_more set i s t u before mid notes now new j inside below r f one is = record {
  told = λ h. one_told s.host.kind s.host.width mid (entry_for i j) (f.told h)
      (record { inside = below; frame = subst (λ (p : Kind × ℕ). CanBeTold p.0 p.1 (frame_sent j)) (λ i. (r.shape.kind i, r.shape.width i)) one.told });
  names = map-append (λ (e : FrameTold). e.pfn) mid (entry_for i j ∷ []) ∙ ap (λ l. l ++ i ∷ []) f.names
      ∙ append_assoc (map (λ (e : FrameTold). e.pfn) before) (members i set) (i ∷ []) ∙ ap (λ l. map (λ (e : FrameTold). e.pfn) before ++ l) (sym (members_yes set i inside));
  live = λ h c. subst (Current (rest (i + 1) set) u.log u.host.frames (mid ++ entry_for i j ∷ [])) (sym is)
      (current_more (rest i set) (rest (i + 1) set) t.log u.log now t.host.frames u.host.frames mid i j (λ q. rest_more set i q) (quiet t u u.log one.ran (r.honest ∙ h))
      (λ calm. one.right (inl (one.ran.honest ∙ r.honest ∙ h, calm))) (f.live h c));
  still = λ p c. subst (Current (rest (i + 1) set) no_pfns u.host.frames (mid ++ entry_for i j ∷ [])) (sym is)
      (current_more (rest i set) (rest (i + 1) set) no_pfns no_pfns now t.host.frames u.host.frames mid i j (λ q. rest_more set i q) (still t u (one.ran.stopped (r.paused ∙ p)))
      (λ calm. one.right (inr (one.paused ∙ r.paused ∙ p))) (f.still p c));
}

-- ---- how much isn't written

module _ (i : ℕ) (set : Pfns) (s t : MachineState) (before mid : List FrameTold) (notes now : Notes) (r : ReadsFront i set s t) (f : SendsFront i set s t before mid notes now)
    (even : pfns_sent before ≡ rounds_read s.host.width s.history.taken) where
  named : rounds_read s.host.width t.history.taken ++ members i set ≡ pfns_sent mid
  named = ap (λ l. rounds_read s.host.width l ++ members i set) r.taken ∙ ap (λ l. l ++ members i set) (sym even) ∙ sym f.names

  -- what was sent is what was read
  pub all_even : i ≤ s.host.width → all_read s.host.width t.history ≡ pfns_sent mid
  all_even le =
      ap (λ (x : Pfns). rounds_read s.host.width t.history.taken ++ members s.host.width x) r.read
      ∙ ap (λ l. rounds_read s.host.width t.history.taken ++ l) (members_front set i s.host.width le) ∙ named

  -- one number more was read, perhaps, and stands behind it
  pub all_strays : (k : History) → set i ≡ true → i < s.host.width → Strays i t.history k → (more : List ℕ) × (all_read s.host.width k ≡ pfns_sent mid ++ more) × (length more ≤ 1)
  all_strays k inside below strays = elim strays.read [
    | inl none ↦ (
      [],
      ap (λ l. rounds_read s.host.width l ++ members s.host.width k.since.read) strays.taken
          ∙ ap (λ (x : Pfns). rounds_read s.host.width t.history.taken ++ members s.host.width x) none ∙ all_even (omega (arith, below)) ∙ sym (append-nil (pfns_sent mid)),
      omega arith,
    )
    | inr one ↦ (
      i ∷ [],
      ap (λ l. rounds_read s.host.width l ++ members s.host.width k.since.read) strays.taken
          ∙ ap (λ (x : Pfns). rounds_read s.host.width t.history.taken ++ members s.host.width x) (one ∙ ap (with_pfn i) r.read ∙ front_more set i inside)
          ∙ ap (λ l. rounds_read s.host.width t.history.taken ++ l) (members_front set (i + 1) s.host.width (omega (arith, below)) ∙ members_yes set i inside)
          ∙ sym (append_assoc (rounds_read s.host.width t.history.taken) (members i set) (i ∷ [])) ∙ ap (λ l. l ++ i ∷ []) named,
      omega arith,
    )
  ]

told_front : (kind : Kind) (width : ℕ) (es fs : List FrameTold) → AreTold kind width (es ++ fs) → AreTold kind width es
told_front kind width [] fs all = tt
told_front kind width (e ∷ es) fs all = (all.0, told_front kind width es fs all.1)

-- where few were read that weren't sent
pub most_sent : (start now : Option (List ℕ)) (more : ℕ) (kind : Kind) (width : ℕ) (h : History) (sent : List FrameTold) (unsent : List ℕ) → IsBehind start now more sent → length unsent ≤ more
    → AreTold kind width sent → all_read width h ≡ pfns_sent sent ++ unsent → MostSent start now kind width h
most_sent start now more kind width h sent unsent b few told order = record {
  batches = b.batches;
  cut = b.cut;
  most = record {
    told = told_front kind width (all_told b.batches) b.held (subst (AreTold kind width) b.all told);
    missing = pfns_sent b.held ++ unsent;
    order = order ∙ ap (λ (ts : List FrameTold). pfns_sent ts ++ unsent) b.all ∙ ap (λ l. l ++ unsent) (map-append (λ (e : FrameTold). e.pfn) (all_told b.batches) b.held)
        ∙ append_assoc (pfns_sent (all_told b.batches)) (pfns_sent b.held) unsent;
    few = omega (arith, b.few, few, length-append (pfns_sent b.held) unsent, length-map b.held (λ (e : FrameTold). e.pfn));
  };
}

pub worst_step : (i : ℕ) (set : Pfns) (s t u : MachineState) (w v : Worst) (f : Found) (page : List ℕ) → s.paused ≡ true → set i ≡ true → ReadsFront i set s t → ReadsOne i t u (found_as f page)
    → v.superpage ≡ or_first w.superpage (place i (found_super f)) → v.lost ≡ or_first w.lost (place i (found_lost f)) → IsWorst i set t.host.frames w → IsWorst (i + 1) set u.host.frames v
worst_step i set s t u w v f page p inside r one super lost h =
    worst_sends i set u.host.frames w v f page inside (one.right (inr (one.paused ∙ r.paused ∙ p))) super lost
    (subst (λ (x : HostOf). IsWorst i set x.frames w) (sym (one.ran.stopped (r.paused ∙ p))) h)

-- one entry more, which isn't sent yet
pub behind_anyhow : (now : Option (List ℕ)) (held : List FrameTold) → length held < 1024 → FallsBehind 1 now now held
behind_anyhow now held few = λ start flushes sent s. behind_anyway start now flushes held sent few s

pub on_err : {T E P : Type 0} (r : Result T E) → P → OnErr r P
on_err (Ok x) h = tt
on_err (Err e) h = h

-- ---- past numbers that aren't in the set

pub reads_jump : (set : Pfns) (i j : ℕ) (s t : MachineState) → i ≤ j → ((q : ℕ) → i ≤ q → q < j → set q ≡ false) → ReadsFront i set s t → ReadsFront j set s t
reads_jump set i j s t le out f = skip_to (λ k. ReadsFront k set s t) set (λ k outside h. reads_skip set k s t outside h) i j le out f

pub sends_jump : (set : Pfns) (i j : ℕ) (s t : MachineState) (before mid : List FrameTold) (notes now : Notes) → i ≤ j → ((q : ℕ) → i ≤ q → q < j → set q ≡ false) → SendsFront i set s t before mid notes now
    → SendsFront j set s t before mid notes now
sends_jump set i j s t before mid notes now le out f = skip_to (λ k. SendsFront k set s t before mid notes now) set (λ k outside h. sends_skip set k s t before mid notes now outside h) i j le out f

pub worst_jump : (set : Pfns) (i j : ℕ) (frames : HostFrames) (w : Worst) → i ≤ j → ((q : ℕ) → i ≤ q → q < j → set q ≡ false) → IsWorst i set frames w → IsWorst j set frames w
worst_jump set i j frames w le out h = skip_to (λ k. IsWorst k set frames w) set (λ k outside x. worst_skips k set frames w outside x) i j le out h
