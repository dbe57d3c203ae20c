-- A machine that is exact stays so, call by call.
use Rattle.mig_machine.proofs.Common.{◌≡◌, ℕ, ◌+◌, ◌-◌, ◌^◌, ◌≤◌, ◌<◌, min, Bool, true, false, cond, List, [], ◌∷◌, length, Option, Some, None, is_some, refl, sym, ap, subst, ◌∙◌, arith, option_map, HostOf, History, LogTook, Since, and_call, after_log, Pfns, pfns_of_words, no_pfns, LineOf, ran, after, logged_after, touched, MachineSeen, HistoryNoted, calls_of, is_paused, log_of, history_of, history_told, course_of, asked_before, AreExact, StandAroundPause, IsExactFrom, IsLaterMachine, RunsOn, unwrap_or, one_more, no_history, ran_between, after_between, touched_on, touched_same, asked_in, HasRoomToCount, IsExactBy, AsksOn, IsLaterHistory}
use Rattle.mig_machine_script.specs.Courses.{IsLaterCourse}
use Rattle.mig_machine.proofs.Laters.{asks_call, history_asked, history_logged, runs_till}

-- ---- what the lines of a call do

unpaused : (o : Option ℕ) → is_some o ≡ false → o ≡ option_map one_more o
unpaused None f = refl
unpaused (Some n) f = absurd (let no : true ≡ false = f in cc)

pub runs_group : (a b : MachineSeen) → IsLaterCourse (course_of a) (course_of b) → is_paused a ≡ false → b.behind ≡ a.behind → b.runs ≡ one_more a.runs → log_of b ≡ logged_after a.host (ran_between a.lines a.runs b.runs) (log_of a) → RunsOn a b
runs_group a b course live same next logged = record {
  course = course;
  runs = next ∙ sym (ap (λ p. cond p a.runs (one_more a.runs)) live);
  behind = same ∙ unpaused a.behind live;
  log = logged;
}

-- what a call finds before it notes itself: one call more than the history has
record Ready (h : HostOf) (b : MachineSeen) (k : History) : Type 0 where
  pub host : b.host ≡ after h (ran b.lines b.runs)
  pub log : log_of b ≡ touched h b.lines (min (asked_before k.taken) b.runs) b.runs
  pub taken : AreExact (touched h b.lines) b.runs k.taken
  pub running : is_paused b ≡ false → b.runs ≡ min (asked_in k + 1) (2 ^ 64 - 1)
  pub runs : b.runs ≤ asked_in k + 1
  pub behind : is_paused b ≡ true → b.runs ≤ asked_in k
  pub fits : b.runs ≤ 2 ^ 64 - 1
  pub counted : HasRoomToCount (asked_in k + 1) → calls_of b ≡ asked_in k + 1
  pub live : is_paused b ≡ false → k.live ≡ length k.taken
  pub most : k.live ≤ length k.taken
  pub stopped : is_paused b ≡ true → HasRoomToCount (asked_before k.taken) → StandAroundPause b.runs k.live k.taken

-- earlier logs don't see later lines
still_exact : (t : ℕ → ℕ → Pfns) (l : List LogTook) (a b : ℕ) → ((x : ℕ) → x ≤ asked_before l → min x a ≡ min x b) → AreExact t a l → AreExact t b l
still_exact t [] a b same e = tt
still_exact t (last ∷ before) a b same e = (
  still_exact t before a b (λ x le. same x (omega (arith, le))) e.0,
  e.1 ∙ (λ i. t (same (asked_before before) (omega arith) i) (same (asked_before before + last.asked.calls) (omega arith) i)),
)

-- the runs of a call tell of the calls up to the last log what the earlier runs tell
same_runs : (runs now all since x : ℕ) → runs ≡ min (all + since) (2 ^ 64 - 1) → now ≡ min (runs + 1) (2 ^ 64 - 1) → x ≤ all → min x runs ≡ min x now
same_runs runs now all since x is next le = omega (arith, is, next, le)

-- what stays where the lines leave what the runs tell of earlier calls
record Lined (h : HostOf) (b : MachineSeen) (k : History) : Type 0 where
  pub host : b.host ≡ after h (ran b.lines b.runs)
  pub log : log_of b ≡ touched h b.lines (min (asked_before k.taken) b.runs) b.runs
  pub taken : AreExact (touched h b.lines) b.runs k.taken

lined : (h : HostOf) (a b : MachineSeen) (k : History) → IsExactBy h a k → RunsOn a b → ((x : ℕ) → x ≤ asked_before k.taken → min x a.runs ≡ min x b.runs) → Lined h b k
lined h a b k e r same =
    let up : a.runs ≤ b.runs = r.course.runs in
    record {
      host = r.course.host ∙ ap (λ (g : HostOf). after g (ran_between a.lines a.runs b.runs)) e.host ∙ after_between h a.lines a.runs b.runs up ∙ ap (λ (ls : List LineOf). after h (ran ls b.runs)) (sym r.course.script);
      log = r.log ∙ (λ i. logged_after (e.host i) (ran_between a.lines a.runs b.runs) (e.log i)) ∙ sym (touched_on h a.lines (min (asked_before k.taken) a.runs) a.runs b.runs (omega arith) up)
          ∙ (λ i. touched h (sym r.course.script i) (same (asked_before k.taken) (omega arith) i) b.runs);
      taken = subst (λ (ls : List LineOf). AreExact (touched h ls) b.runs k.taken) (sym r.course.script) (still_exact (touched h a.lines) k.taken a.runs b.runs same e.taken);
    }

ready_at : (h : HostOf) (a b : MachineSeen) (k : History) (o : Option ℕ) → a.behind ≡ o → IsExactBy h a k → RunsOn a b → Ready h b k
ready_at h a b k None o e r =
    let live : is_paused a ≡ false = ap is_some o in
    let now : b.runs ≡ one_more a.runs = r.runs ∙ ap (λ p. cond p a.runs (one_more a.runs)) live in
    let was : a.runs ≡ min (asked_in k) (2 ^ 64 - 1) = e.running live in
    let none : b.behind ≡ None = r.behind ∙ ap (λ (x : Option ℕ). option_map one_more x) o in
    let calls : calls_of b ≡ b.runs + 0 = ap (λ (x : Option ℕ). b.runs + unwrap_or x 0) none in
    let l = lined h a b k e r (λ x le. same_runs a.runs b.runs (asked_before k.taken) k.since.calls x was now le) in
    record {
      host = l.host;
      log = l.log;
      taken = l.taken;
      running = λ _. omega (arith, was, now);
      runs = omega (arith, was, now);
      behind = λ t. absurd (let no : false ≡ true = sym (ap is_some none) ∙ t in cc);
      fits = omega (arith, now);
      counted = λ few. omega (arith, calls, was, now, few);
      live = λ _. e.live live;
      most = e.most;
      stopped = λ t. absurd (let no : false ≡ true = sym (ap is_some none) ∙ t in cc);
    }
ready_at h a b k (Some n) o e r =
    let paused : is_paused a ≡ true = ap is_some o in
    let now : b.runs ≡ a.runs = r.runs ∙ ap (λ p. cond p a.runs (one_more a.runs)) paused in
    let some : b.behind ≡ Some (one_more n) = r.behind ∙ ap (λ (x : Option ℕ). option_map one_more x) o in
    let calls : calls_of b ≡ b.runs + one_more n = ap (λ (x : Option ℕ). b.runs + unwrap_or x 0) some in
    let calls_then : calls_of a ≡ a.runs + n = ap (λ (x : Option ℕ). a.runs + unwrap_or x 0) o in
    let l = lined h a b k e r (λ x le. ap (min x) (sym now)) in
    record {
      host = l.host;
      log = l.log;
      taken = l.taken;
      running = λ f. absurd (let no : true ≡ false = sym (ap is_some some) ∙ f in cc);
      runs = omega (arith, e.runs, now);
      behind = λ _. omega (arith, e.runs, now);
      fits = omega (arith, e.fits, now);
      counted = λ few. let were = e.counted (omega (arith, few)) in omega (arith, few, were, calls_then, calls, now);
      live = λ f. absurd (let no : true ≡ false = sym (ap is_some some) ∙ f in cc);
      most = e.most;
      stopped = λ _ few. subst (λ (n : ℕ). StandAroundPause n k.live k.taken) (sym now) (e.stopped paused few);
    }

ready : (h : HostOf) (a b : MachineSeen) → IsExactFrom h a → RunsOn a b → Ready h b (history_of a)
ready h a b e r = ready_at h a b (history_of a) a.behind refl e r

-- ---- what a call notes

-- a call that neither pauses nor takes a log
asked_once : (h : HostOf) (b : MachineSeen) (n : HistoryNoted) (k : History) (s : Since) → Ready h b k → s.calls ≡ one_more k.since.calls → IsExactBy h (record b { noted = n }) (record { taken = k.taken; since = s; live = k.live })
asked_once h b n k s r one = record {
  host = r.host;
  log = r.log;
  taken = r.taken;
  running = λ f. omega (arith, r.running f, one);
  runs = omega (arith, r.runs, r.fits, one);
  fits = r.fits;
  counted = λ few. let were = r.counted (omega (arith, few, one)) in omega (arith, were, few, one);
  live = r.live;
  most = r.most;
  stopped = r.stopped;
}

pub later_by_call : (a b : MachineSeen) (n : HistoryNoted) (s : Since) → RunsOn a b → AsksOn (history_of a).since s → s.calls ≡ one_more (history_of a).since.calls → history_told n ≡ record { taken = (history_of a).taken; since = s; live = (history_of a).live }
    → IsLaterMachine a (record b { noted = n })
later_by_call a b n s r on one told =
    let till = runs_till a b r in
    record {
      course = r.course;
      history = subst (IsLaterHistory (history_of a)) (sym told) (history_asked (history_of a) s on);
      calls = record { pause = till.pause; behind = till.behind };
      exact = λ h e. subst (λ (k : History). IsExactBy h (record b { noted = n }) k) (sym told) (asked_once h b n (history_of a) s (ready h a b e r) one);
    }

-- logs that were all taken before the pause
all_live : (l : List LogTook) (runs live : ℕ) → length l ≤ live → asked_before l < runs → StandAroundPause runs live l
all_live [] runs live few less = tt
all_live (last ∷ before) runs live few less = (all_live before runs live (omega arith) (omega (arith, less)), (λ _. less, λ le. absurd (omega (arith, few, le))))

paused_so : (h : HostOf) (b : MachineSeen) (n : HistoryNoted) (k : History) (o : Option ℕ) → b.behind ≡ o → Ready h b k → IsExactBy h (record b { behind = Some (unwrap_or b.behind 0); noted = n }) (record { taken = k.taken; since = and_call k.since; live = k.live })
paused_so h b n k o is r = record {
  host = r.host;
  log = r.log;
  taken = r.taken;
  running = λ f. absurd (let no : true ≡ false = f in cc);
  runs = omega (arith, r.runs, r.fits);
  fits = r.fits;
  counted = λ few. let were = r.counted (omega (arith, few)) in omega (arith, were, few);
  live = λ f. absurd (let no : true ≡ false = f in cc);
  most = r.most;
  stopped = λ _ few. stands o is few;
}
  where
    stands : (o : Option ℕ) → b.behind ≡ o → HasRoomToCount (asked_before k.taken) → StandAroundPause b.runs k.live k.taken
    stands None is few = let live = ap is_some is in all_live k.taken b.runs k.live (omega (arith, r.live live)) (omega (arith, r.running live, few))
    stands (Some n) is few = r.stopped (ap is_some is) few

pub later_by_pause : (a b : MachineSeen) (n : HistoryNoted) (d : ℕ) → d ≡ unwrap_or b.behind 0 → RunsOn a b → history_told n ≡ record { taken = (history_of a).taken; since = and_call (history_of a).since; live = (history_of a).live }
    → IsLaterMachine a (record b { behind = Some d; noted = n })
later_by_pause a b n d is r told =
    subst (λ (x : ℕ). IsLaterMachine a (record b { behind = Some x; noted = n })) (sym is)
    (record {
      course = record { script = r.course.script; calls = r.course.calls; runs = r.course.runs; host = r.course.host };
      history = subst (IsLaterHistory (history_of a)) (sym told) (history_asked (history_of a) (and_call (history_of a).since) (asks_call (history_of a).since));
      calls = let till = runs_till a b r in record {
        pause = λ live _. omega (arith, r.runs ∙ ap (λ p. cond p a.runs (one_more a.runs)) live);
        behind = λ paused. (refl, (till.behind paused).1);
      };
      exact = λ h e. subst (λ (k : History). IsExactBy h (record b { behind = Some (unwrap_or b.behind 0); noted = n }) k) (sym told) (paused_so h b n (history_of a) b.behind refl (ready h a b e r));
    })

took_one : (p : Bool) (live taken : ℕ) → p ≡ false → live ≡ taken → cond p live (live + 1) ≡ taken + 1
took_one p live taken f is = ap (λ b. cond b live (live + 1)) f ∙ ap (λ n. n + 1) is

at_most_one : (p : Bool) (live taken : ℕ) → live ≤ taken → cond p live (live + 1) ≤ taken + 1
at_most_one true live taken le = omega (arith, le)
at_most_one false live taken le = omega (arith, le)

took_log : (h : HostOf) (b : MachineSeen) (w : List ℕ) (n : HistoryNoted) (k : History) → pfns_of_words w ≡ no_pfns → Ready h b k → IsExactBy h (record b { log = w; noted = n }) (after_log (is_paused b) (log_of b) k)
took_log h b w n k none r =
    let up : b.runs ≤ asked_before k.taken + one_more k.since.calls = omega (arith, r.runs, r.fits) in
    let all : b.runs ≡ min (asked_before k.taken + one_more k.since.calls) b.runs = omega (arith, up) in
    record {
      host = r.host;
      log = none ∙ sym (touched_same h b.lines b.runs) ∙ ap (λ (x : ℕ). touched h b.lines x b.runs) all;
      taken = (r.taken, r.log ∙ ap (λ (x : ℕ). touched h b.lines (min (asked_before k.taken) b.runs) x) all);
      running = λ f. omega (arith, r.running f);
      runs = omega (arith, up);
      fits = r.fits;
      counted = λ few. let were = r.counted (omega (arith, few)) in omega (arith, were, few);
      live = λ f. took_one (is_paused b) k.live (length k.taken) f (r.live f) ∙ longer;
      most = omega (arith, at_most_one (is_paused b) k.live (length k.taken) r.most, longer);
      stopped = λ t few. subst (λ (x : ℕ). StandAroundPause b.runs x (record { asked = and_call k.since; log = log_of b } ∷ k.taken)) (sym (ap (λ p. cond p k.live (k.live + 1)) t))
          (r.stopped t (omega (arith, few)), (λ less. absurd (omega (arith, less, r.most)), λ _. omega (arith, r.behind t, few)));
    }
  where
    longer : length k.taken + 1 ≡ length (record { asked = and_call k.since; log = log_of b } ∷ k.taken)
    longer = omega arith

pub later_by_log : (a b : MachineSeen) (w : List ℕ) (n : HistoryNoted) → RunsOn a b → pfns_of_words w ≡ no_pfns → history_told n ≡ after_log (is_paused b) (log_of b) (history_of a) → IsLaterMachine a (record b { log = w; noted = n })
later_by_log a b w n r none told =
    let till = runs_till a b r in
    record {
      course = r.course;
      history = subst (IsLaterHistory (history_of a)) (sym told) (history_logged (is_paused b) (log_of b) (history_of a));
      calls = record { pause = till.pause; behind = till.behind };
      exact = λ h e. subst (λ (k : History). IsExactBy h (record b { log = w; noted = n }) k) (sym told) (took_log h b w n (history_of a) none (ready h a b e r));
    }

-- ---- the first machine

-- one of which nothing was asked
pub exact_first : (m : MachineSeen) → calls_of m ≡ 0 → log_of m ≡ no_pfns → (k : History) → k.taken ≡ [] → k.since.calls ≡ 0 → k.live ≡ 0 → IsExactBy m.host m k
exact_first m none empty k logs since live =
    let no_runs : m.runs ≡ 0 = omega (arith, none) in
    let no_logs : asked_before k.taken ≡ 0 = ap asked_before logs in
    let no_length : length k.taken ≡ 0 = ap (λ (l : List LogTook). length l) logs in
    record {
      host = ap (λ n. after m.host (ran m.lines n)) (sym no_runs);
      log = empty ∙ sym (touched_same m.host m.lines m.runs) ∙ ap (λ (x : ℕ). touched m.host m.lines x m.runs) (let e : m.runs ≡ min (asked_before k.taken) m.runs = omega (arith, no_runs) in e);
      taken = subst (λ (l : List LogTook). AreExact (touched m.host m.lines) m.runs l) (sym logs) tt;
      running = λ _. omega (arith, no_runs, no_logs, since);
      runs = omega (arith, no_runs);
      fits = omega (arith, no_runs);
      counted = λ _. omega (arith, none, no_logs, since);
      live = λ _. live ∙ sym no_length;
      most = omega (arith, live);
      stopped = λ _ _. subst (λ (l : List LogTook). StandAroundPause m.runs k.live l) (sym logs) tt;
    }

pub exact_from : (first now : MachineSeen) → calls_of first ≡ 0 → log_of first ≡ no_pfns → history_of first ≡ no_history → IsLaterMachine first now → IsExactFrom first.host now
exact_from first now none empty nothing later = later.exact first.host
    (exact_first first none empty (history_of first) (ap (λ (k : History). k.taken) nothing) (ap (λ (k : History). k.since.calls) nothing) (ap (λ (k : History). k.live) nothing))
