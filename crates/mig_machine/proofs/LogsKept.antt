-- Logs that are kept in places that were made beforehand.
use Rattle.mig_machine.proofs.Common.{zero, suc, [], ◌∷◌, ◌++◌, take, drop, map, Option, Some, arith, ◌≡◌, ℕ, ◌+◌, ◌≤◌, ◌<◌, List, Bool, length, slice_set, cond, false, refl, ap, ◌∙◌, common_steps, History, Since, LogTook, and_call, after_log, pfns_of_words, no_pfns, le_refl, slice_get, nothing_asked, log_told, log_noted, logs_before, history_in}
use Rattle.mig_machine.specs.declared.notes.KeptLog.{KeptLog}
use Rattle.mig_machine.specs.declared.notes.Notes.{Notes}

abbrev pub took_of : Option KeptLog → LogTook
took_of o = log_told (log_noted o)

abbrev pub took_before : List KeptLog → ℕ → List LogTook
took_before logs n = map log_told (logs_before logs n)

got_same : (logs : List KeptLog) (n : ℕ) (x : KeptLog) → n < length logs → slice_get (slice_set logs n x) n ≡ Some x
got_same [] n x within = absurd (omega arith)
got_same (y ∷ ys) zero x within = refl
got_same (y ∷ ys) (suc n) x within = got_same ys n x (omega arith)

got_other : (logs : List KeptLog) (n m : ℕ) (x : KeptLog) → m < n → slice_get (slice_set logs n x) m ≡ slice_get logs m
got_other [] n m x below = refl
got_other (y ∷ ys) zero m x below = absurd (omega arith)
got_other (y ∷ ys) (suc n) zero x below = refl
got_other (y ∷ ys) (suc n) (suc m) x below = got_other ys n m x (omega arith)

still : (logs : List KeptLog) (n m : ℕ) (x : KeptLog) → m ≤ n → took_before (slice_set logs n x) m ≡ took_before logs m
still logs n zero x h = refl
still logs n (suc m) x h = ap (λ o. took_of o ∷ took_before (slice_set logs n x) m) (got_other logs n m x (omega arith)) ∙ ap (λ l. took_of (slice_get logs m) ∷ l) (still logs n m x (omega arith))

logged : (logs : List KeptLog) (n : ℕ) (x : KeptLog) → n < length logs → took_before (slice_set logs n x) (n + 1) ≡ took_of (Some x) ∷ took_before logs n
logged logs n x within =
    ap (took_before (slice_set logs n x)) (let e : n + 1 ≡ suc n = omega arith in e)
    ∙ ap (λ o. took_of o ∷ took_before (slice_set logs n x) n) (got_same logs n x within) ∙ ap (λ l. took_of (Some x) ∷ l) (still logs n n x (le_refl n))

pub refilled : (n : ℕ) (ws items : List ℕ) → length ws ≡ n → take n (ws ++ drop (length ws) items) ≡ ws
refilled n ws items e = grind (arith, common_steps)

how_many : (logs : List KeptLog) (n : ℕ) → length (took_before logs n) ≡ n
how_many logs zero = refl
how_many logs (suc n) = let h = how_many logs n in omega arith

same_since : (a b : Since) → a.read ≡ b.read → a.twice ≡ b.twice → a.calls ≡ b.calls → a ≡ b
same_since a b p q r = λ i. record { read = p i; twice = q i; calls = r i }

nothing : (n : ℕ) (ws items : List ℕ) → length ws ≡ n → pfns_of_words ws ≡ no_pfns
    → ◌≡◌ {A = Since} (record { read = pfns_of_words (take n (ws ++ drop (length ws) items)); twice = false; calls = 0 }) nothing_asked
nothing n ws items e none = same_since _ _ (ap pfns_of_words (refilled n ws items e) ∙ none) refl refl

-- what is kept once a log was taken: at the place of the next log that log, and nothing asked since
pub noted : (x : Notes) (log read : List ℕ) (place : KeptLog) (words : List ℕ) (paused : Bool) (live : ℕ) → length x.logs.items ≡ 8 → length (took_before x.logs.items x.taken) < 8 → read ≡ x.read.items
    → took_of (Some place) ≡ record { asked = and_call (record { read = pfns_of_words read; twice = x.twice; calls = x.calls }); log = pfns_of_words log } → length words ≡ x.read.len → pfns_of_words words ≡ no_pfns → live ≡ cond paused x.live (x.live + 1)
    → ◌≡◌ {A = History} (record { taken = took_before (slice_set x.logs.items x.taken place) (x.taken + 1); since = record { read = pfns_of_words (take x.read.len (words ++ drop (length words) x.read.items)); twice = false; calls = 0 }; live = live })
    (after_log paused (pfns_of_words log) (history_in x))
noted x log read place words paused live eight few same kept size none l =
    let within : x.taken < length x.logs.items = omega (arith, how_many x.logs.items x.taken, few, eight) in
    let took = kept ∙ ap (λ (r : List ℕ). record { asked = and_call (record { read = pfns_of_words r; twice = x.twice; calls = x.calls }); log = pfns_of_words log }) same in
    let t = logged x.logs.items x.taken place within ∙ ap (λ e. e ∷ took_before x.logs.items x.taken) took in
    let n = nothing x.read.len words x.read.items size none in
    λ i. record { taken = t i; since = n i; live = l i }
