-- A machine is later than itself, and what is later than something later is later: what the implementations of `Machine` show of
-- their `Later`.
use Rattle.std.specs.Prelude.{◌≡◌, ℕ, ◌+◌, ◌-◌, ◌^◌, ◌≤◌, min, Bool, true, false, List, [], ◌∷◌, ◌++◌, length, refl}
use Rattle.std.proofs.Common.{sym, ap, ◌∙◌, arith, append_assoc, length-append}
use Rattle.mig_machine.specs.Common.{History, LogTook, Since, one_more, later_itself, later_still}
use Rattle.mig_machine.specs.Histories.{AsksOn, AsksOnTo, IsLaterHistory}
use Rattle.mig_machine.specs.MachineSeen.{MachineSeen, is_paused, history_of, course_of}
use Rattle.mig_machine.specs.Exact.{IsLaterMachine, RunsTillPaused}

-- ---- histories

asks_itself : (s : Since) → AsksOn s s
asks_itself s = record { read = λ p is. is; twice = λ is. is; calls = omega arith }

asks_still : (s t u : Since) → AsksOn s t → AsksOn t u → AsksOn s u
asks_still s t u p q = record { read = λ n is. q.read n (p.read n is); twice = λ is. q.twice (p.twice is); calls = omega (arith, p.calls, q.calls) }

asks_to : (s t u : Since) (more : List LogTook) → AsksOnTo s more t → AsksOn t u → AsksOnTo s more u
asks_to s t u [] p q = asks_still s t u p q
asks_to s t u (log ∷ before) p q = p

asks_join : (s t u : Since) (more others : List LogTook) → AsksOnTo s more t → AsksOnTo t others u → AsksOnTo s (others ++ more) u
asks_join s t u more [] p q = asks_to s t u more p q
asks_join s t u more (log ∷ before) p q = asks_join s t log.asked more before p q

history_itself : (h : History) → IsLaterHistory h h
history_itself h = record { more = []; taken = refl; asked = asks_itself h.since; live = (omega arith, omega arith) }

history_still : (h k l : History) → IsLaterHistory h k → IsLaterHistory k l → IsLaterHistory h l
history_still h k l p q = record {
  more = q.more ++ p.more;
  taken = q.taken ∙ ap (λ (x : List LogTook). q.more ++ x) p.taken ∙ sym (append_assoc q.more p.more h.taken);
  asked = asks_join h.since k.since l.since p.more q.more p.asked q.asked;
  live = (omega (arith, p.live.0, q.live.0), omega (arith, p.live.1, q.live.1, length-append q.more p.more));
}

-- ---- which calls run lines

till_still : (a b c : MachineSeen) → a.runs ≤ b.runs → RunsTillPaused a b → RunsTillPaused b c → RunsTillPaused a c
till_still a b c up p q = record {
  pause = λ live paused. by (is_paused b) refl live paused;
  behind = λ paused. let (still, same) = p.behind paused in let (later, last) = q.behind still in (later, last ∙ same);
}
  where
    by : (s : Bool) → is_paused b ≡ s → is_paused a ≡ false → is_paused c ≡ true → one_more a.runs ≤ c.runs
    by true is live paused = omega (arith, p.pause live is, (q.behind is).1)
    by false is live paused = omega (arith, up, q.pause is paused)

-- ---- machines

pub machine_itself : (m : MachineSeen) → IsLaterMachine m m
machine_itself m = record {
  course = later_itself (course_of m);
  history = history_itself (history_of m);
  calls = record { pause = λ live paused. absurd (let no : false ≡ true = sym live ∙ paused in cc); behind = λ paused. (paused, refl) };
  exact = λ h e. e;
}

pub machine_still : (a b c : MachineSeen) → IsLaterMachine a b → IsLaterMachine b c → IsLaterMachine a c
machine_still a b c p q = record {
  course = later_still (course_of a) (course_of b) (course_of c) p.course q.course;
  history = history_still (history_of a) (history_of b) (history_of c) p.history q.history;
  calls = till_still a b c p.course.runs p.calls q.calls;
  exact = λ h e. q.exact h (p.exact h e);
}
