-- What a call adds to a history, and whether it runs lines.
use Rattle.mig_machine.proofs.Common.{◌≡◌, ℕ, ◌+◌, ◌≤◌, Bool, true, false, cond, [], ◌∷◌, Option, Some, None, is_some, refl, ap, ◌∙◌, arith, option_map, ◌||◌, ◌==◌, History, Since, and_call, and_read, after_log, one_more, Pfns, MachineSeen, RunsOn, RunsTillPaused, AsksOn, IsLaterHistory}

pub asks_call : (s : Since) → AsksOn s (and_call s)
asks_call s = record { read = λ p is. is; twice = λ is. is; calls = omega arith }

or_true : (b : Bool) → (b || true) ≡ true
or_true true = refl
or_true false = refl

pub asks_read : (pfn : ℕ) (s : Since) → AsksOn s (and_read pfn s)
asks_read pfn s = record {
  read = λ p is. ap (λ b. (p == pfn) || b) is ∙ or_true (p == pfn);
  twice = λ is. ap (λ b. b || s.read pfn) is;
  calls = omega arith;
}

pub history_asked : (h : History) (s : Since) → AsksOn h.since s → IsLaterHistory h (record { taken = h.taken; since = s; live = h.live })
history_asked h s on = record { more = []; taken = refl; asked = on; live = (omega arith, omega arith) }

live_on : (paused : Bool) (n : ℕ) → (n ≤ cond paused n (n + 1)) × (cond paused n (n + 1) ≤ n + 1)
live_on true n = (omega arith, omega arith)
live_on false n = (omega arith, omega arith)

pub history_logged : (paused : Bool) (log : Pfns) (h : History) → IsLaterHistory h (after_log paused log h)
history_logged paused log h =
    let (least, most) = live_on paused h.live in
    record { more = record { asked = and_call h.since; log = log } ∷ []; taken = refl; asked = asks_call h.since; live = (least, omega (arith, most)) }

-- ---- which calls run lines

still_some : (o : Option ℕ) → is_some o ≡ true → is_some (option_map one_more o) ≡ true
still_some None is = is
still_some (Some n) is = refl

pub runs_till : (a b : MachineSeen) → RunsOn a b → RunsTillPaused a b
runs_till a b r = record {
  pause = λ live _. omega (arith, r.runs ∙ ap (λ p. cond p a.runs (one_more a.runs)) live);
  behind = λ paused. (ap is_some r.behind ∙ still_some a.behind paused, r.runs ∙ ap (λ p. cond p a.runs (one_more a.runs)) paused);
}
