-- From round to round, and to the pause.
use Rattle.mig_dirtysave_rounds.proofs.Common.{arith, ◌≡◌, ℕ, ◌+◌, ◌*◌, ◌^◌, ◌≤◌, ◌<◌, List, [], ◌∷◌, ◌++◌, length, Bool, true, false, cond, Option, Result, Ok, Err, refl, sym, ap, subst, ◌∙◌, length-append, ◌&&◌, OnErr, IfOk, nat_tests, fun_ext, Kind, Pv, Hvm, FrameTold, IsSent, AreTold, MostSent, behind_anyway, Pfns, no_pfns, members, size, LogTook, History, one_more, and_call, MachineState, LogTaken, GoesOn, to_read, rounds_read, all_read, pfns_sent, append-nil, most_calls, IsBelow, front, rest, entries_read_before, Notes, ReadsFront, SendsFront, KeepsShape, Live, LiveSent, size-le, filter, AreCalls, AreRounds}
use Rattle.std.specs.Prelude.{nat_lt, OnOk}
use Rattle.std.specs.List.{range_with_len}
use Rattle.mig_dirtysave_rounds.proofs.Shapes.{stays_on, ran_stays, reads_stay}
use Rattle.mig_dirtysave_rounds.proofs.Steps.{current_on, told_alike, all_even, most_sent}

-- ---- sets below a width

pub front_all : (n : ℕ) (set : Pfns) → IsBelow n set → front n set ≡ set
front_all n set below = fun_ext (λ q. at q (nat_lt q n) refl)
  where
    at : (q : ℕ) (b : Bool) → nat_lt q n ≡ b → front n set q ≡ set q
    at q true e = ap (λ b. b && set q) e
    at q false e = ap (λ b. b && set q) e ∙ sym (below q (let le : n ≤ q = grind (arith, nat_tests) in le))

pub rest_gone : (n : ℕ) (set : Pfns) → IsBelow n set → rest n set ≡ no_pfns
rest_gone n set below = fun_ext (λ q. at q (nat_lt q n) refl)
  where
    at : (q : ℕ) (b : Bool) → nat_lt q n ≡ b → rest n set q ≡ no_pfns q
    at q true e = grind (arith, nat_tests)
    at q false e = let out = below q (let le : n ≤ q = grind (arith, nat_tests) in le) in grind (arith, nat_tests)

-- ---- a round, and the log that ends it

-- the log that is taken
abbrev pub taken_after : MachineState → Pfns → LogTook
taken_after t log = record { asked = and_call t.history.since; log = log }

calls_are : (kind : Kind) (n c : ℕ) → n ≤ 2 ^ 28 → n ≤ c → c ≤ most_calls kind * n → AreCalls kind n (one_more c)
calls_are Pv n c small least most = (omega arith, omega arith)
calls_are Hvm n c small least most = omega arith

pub rounds_more : (s t : MachineState) (set log : Pfns) → s.host.width ≤ 2 ^ 28 → IsBelow s.host.width set → GoesOn s.host.width s.history.taken
    → Live s set → ReadsFront s.host.width set s t → AreRounds s.host.kind s.host.width (taken_after t log ∷ s.history.taken)
rounds_more s t set log small below on live reads = record {
  reads = (live.rounds.reads, read ∙ live.unread);
  sizes = (live.rounds.sizes, on);
  calls = (
    live.rounds.calls,
    subst (λ n. AreCalls s.host.kind n (one_more t.history.since.calls)) (sym sizes)
        (calls_are s.host.kind (size s.host.width set) t.history.since.calls (omega (arith, size-le set s.host.width)) reads.least reads.most),
  );
  once = (live.rounds.once, reads.once);
}
  where
    read : t.history.since.read ≡ set
    read = reads.read ∙ front_all s.host.width set below

    sizes : size s.host.width t.history.since.read ≡ size s.host.width set
    sizes = ap (λ (r : Pfns). size s.host.width r) read

pub live_round : (s t u : MachineState) (set log : Pfns) → s.host.width ≤ 2 ^ 28 → IsBelow s.host.width set → GoesOn s.host.width s.history.taken
    → Live s set → ReadsFront s.host.width set s t → LogTaken log t u → Live u log
live_round s t u set log small below on live reads took = record {
  paused = took.paused ∙ reads.paused ∙ live.paused;
  since = ap (λ (h : History). h.since) took.history;
  rounds = subst (λ k. AreRounds k u.host.width u.history.taken) (sym kind) (subst (λ w. AreRounds s.host.kind w u.history.taken) (sym width)
      (subst (AreRounds s.host.kind s.host.width) (sym taken) (rounds_more s t set log small below on live reads)));
  number = ap (λ (h : History). h.live) took.history ∙ ap (λ b. cond b t.history.live (t.history.live + 1)) (reads.paused ∙ live.paused)
      ∙ ap (λ n. n + 1) (reads.count ∙ live.number) ∙ more ∙ ap length (sym taken);
  unread = sym (ap (to_read u.host.width) taken);
}
  where
    kind : u.host.kind ≡ s.host.kind
    kind = took.ran.shape.kind ∙ reads.shape.kind

    width : u.host.width ≡ s.host.width
    width = took.ran.shape.width ∙ reads.shape.width

    taken : u.history.taken ≡ taken_after t log ∷ s.history.taken
    taken = ap (λ (h : History). h.taken) took.history ∙ ap (λ l. taken_after t log ∷ l) reads.taken

    more : length s.history.taken + 1 ≡ length (taken_after t log ∷ s.history.taken)
    more = omega arith

pub sent_round : (s t u : MachineState) (set log : Pfns) (before after : List FrameTold) (notes now : Notes) → IsBelow s.host.width set
    → ReadsFront s.host.width set s t → LogTaken log t u → LiveSent s set before notes
    → SendsFront s.host.width set s t before after notes now → LiveSent u log after now
sent_round s t u set log before after notes now below reads took sent sends = record {
  order = sends.names ∙ ap (λ l. l ++ members s.host.width set) sent.order
      ∙ ap (λ (r : Pfns). rounds_read s.host.width s.history.taken ++ members s.host.width r) (sym (reads.read ∙ front_all s.host.width set below))
      ∙ ap (rounds_read s.host.width) (sym taken) ∙ ap (λ w. rounds_read w u.history.taken) (sym width);
  told = told_alike after (sym (took.ran.shape.kind ∙ reads.shape.kind)) (sym width) (sends.told sent.told);
  current = λ h.
      current_on (rest s.host.width set) log t.log u.log now t.host.frames u.host.frames after
      (λ q r l. (ap (λ (x : Pfns). x q) (rest_gone s.host.width set below), took.ran.grown q r, took.ran.quiet (reads.honest ∙ was h) q r)) (sends.live (was h) (sent.current (was h)));
}
  where
    width : u.host.width ≡ s.host.width
    width = took.ran.shape.width ∙ reads.shape.width

    was : u.honest ≡ true → s.honest ≡ true
    was h = sym (took.ran.honest ∙ reads.honest) ∙ h

    taken : u.history.taken ≡ taken_after t log ∷ s.history.taken
    taken = ap (λ (h : History). h.taken) took.history ∙ ap (λ l. taken_after t log ∷ l) reads.taken

pub round_keeps : (s t u : MachineState) (i : ℕ) (set log : Pfns) → ReadsFront i set s t → LogTaken log t u → KeepsShape s u
round_keeps s t u i set log reads took = stays_on s t u (reads_stay i set s t reads) (ran_stays t u log took.ran)

pub longer : (s t u : MachineState) (i : ℕ) (set log : Pfns) → ReadsFront i set s t → LogTaken log t u → length u.history.taken ≡ length s.history.taken + 1
longer s t u i set log reads took = ap (λ (h : History). length h.taken) took.history ∙ ap (λ l. length (taken_after t log ∷ l)) reads.taken ∙ one
  where
    one : length (taken_after t log ∷ s.history.taken) ≡ length s.history.taken + 1
    one = omega arith

-- and so many PFNs more were read
pub counted_more : (s t u : MachineState) (set log : Pfns) → IsBelow s.host.width set → ReadsFront s.host.width set s t → LogTaken log t u
    → entries_read_before u.host.width u.history.taken ≡ entries_read_before s.host.width s.history.taken + size s.host.width set
counted_more s t u set log below reads took =
    ap (λ w. entries_read_before w u.history.taken) (took.ran.shape.width ∙ reads.shape.width)
    ∙ ap (entries_read_before s.host.width) (ap (λ (h : History). h.taken) took.history ∙ ap (λ l. taken_after t log ∷ l) reads.taken)
    ∙ ap (λ (r : Pfns). entries_read_before s.host.width s.history.taken + size s.host.width r) (reads.read ∙ front_all s.host.width set below)

pub goes_on : (u : MachineState) (set : Pfns) → Live u set → 50 ≤ size u.host.width set → GoesOn u.host.width u.history.taken
goes_on u set live many = go u.history.taken refl
  where
    go : (l : List LogTook) → u.history.taken ≡ l → GoesOn u.host.width l
    go [] e = tt
    go (last ∷ before) e = subst (λ (r : Pfns). 50 ≤ size u.host.width r) (live.unread ∙ ap (to_read u.host.width) e) many

-- ---- how much isn't written

pub length_rounds : (width : ℕ) (l : List LogTook) → length (rounds_read width l) ≡ entries_read_before width l
length_rounds width [] = refl
length_rounds width (last ∷ before) = length-append (rounds_read width before) (members width last.asked.read) ∙ ap (λ n. n + size width last.asked.read) (length_rounds width before)

pub behind_now : (start now : Option (List ℕ)) (flushes : ℕ) (kind : Kind) (width : ℕ) (h : History) (sent : List FrameTold) → IsSent start now flushes [] sent → AreTold kind width sent
    → all_read width h ≡ pfns_sent sent → MostSent start now kind width h
behind_now start now flushes kind width h sent s told order =
    let none : length {A = FrameTold} [] < 1024 = omega arith in
    most_sent start now 1 kind width h sent [] (behind_anyway start now flushes [] sent none s) (omega arith) told (order ∙ sym (append-nil (pfns_sent sent)))

-- of the same kind and width
pub most_alike : {kind other : Kind} {width same : ℕ} (start now : Option (List ℕ)) (h : History) → kind ≡ other → width ≡ same → MostSent start now kind width h → MostSent start now other same h
most_alike start now h k w m = subst (λ (p : Kind × ℕ). MostSent start now p.0 p.1 h) (λ i. (k i, w i)) m

pub behind_taken : (start now : Option (List ℕ)) (flushes : ℕ) (s t : MachineState) (k : History) (set : Pfns) (before after : List FrameTold) (notes later : Notes)
    → LiveSent s set before notes → ReadsFront s.host.width set s t
    → SendsFront s.host.width set s t before after notes later → k ≡ t.history → IsSent start now flushes [] after → MostSent start now s.host.kind s.host.width k
behind_taken start now flushes s t k set before after notes later sent reads sends stays out =
    behind_now start now flushes s.host.kind s.host.width k after out (sends.told sent.told)
    (ap (all_read s.host.width) stays ∙ all_even s.host.width set s t before after notes later reads sends sent.order (omega arith))

none_pass : (xs : List ℕ) → filter no_pfns xs ≡ []
none_pass [] = refl
none_pass (x ∷ xs) = none_pass xs

pub no_members : (w : ℕ) → members w no_pfns ≡ []
no_members w = none_pass (range_with_len 0 w)

pub size_none : (w : ℕ) → size w no_pfns ≡ 0
size_none w = ap length (no_members w)

-- nothing was read since the last log
pub behind_unread : (start now : Option (List ℕ)) (flushes : ℕ) (s : MachineState) (k : History) (set : Pfns) (before : List FrameTold) (notes : Notes)
    → LiveSent s set before notes → k.taken ≡ s.history.taken → k.since.read ≡ no_pfns → IsSent start now flushes [] before → MostSent start now s.host.kind s.host.width k
behind_unread start now flushes s k set before notes sent taken read out =
    behind_now start now flushes s.host.kind s.host.width k before out sent.told
    (ap (λ l. rounds_read s.host.width l ++ members s.host.width k.since.read) taken ∙ ap (λ (r : Pfns). rounds_read s.host.width s.history.taken ++ members s.host.width r) read
    ∙ ap (λ l. rounds_read s.host.width s.history.taken ++ l) (no_members s.host.width) ∙ append-nil (rounds_read s.host.width s.history.taken) ∙ sym sent.order)

-- ---- results

pub on_ok : {T E : Type 0} {P Q : Type 0} (r : Result T E) → (P → Q) → OnOk r P → OnOk r Q
on_ok (Ok x) f h = f h
on_ok (Err e) f h = tt

pub if_both : {T E : Type 0} {P : Type 0} {Q R : T → Type 0} (r : Result T E) → ((x : T) → P → Q x → R x) → OnOk r P → IfOk r Q → IfOk r R
if_both (Ok x) f a b = f x a b
if_both (Err e) f a b = tt

pub if_three : {T E : Type 0} {P S : Type 0} {Q R : T → Type 0} (r : Result T E) → ((x : T) → P → S → Q x → R x) → OnOk r P → OnOk r S → IfOk r Q → IfOk r R
if_three (Ok x) f a b c = f x a b c
if_three (Err e) f a b c = tt

pub err_on : {T E : Type 0} {P Q : Type 0} (r : Result T E) → (P → Q) → OnErr r P → OnErr r Q
err_on (Ok x) f h = tt
err_on (Err e) f h = f h
