-- From rounds and exact logs to paces.
use Rattle.mig_machine.proofs.Common.{arith, ◌≡◌, ℕ, zero, suc, ◌+◌, ◌-◌, ◌^◌, min, ◌≤◌, ◌<◌, Bool, true, false, cond, List, [], ◌∷◌, ◌++◌, length, refl, sym, ap, subst, ◌∙◌, HostOf, most_saved_width, LineOf, Pfns, no_pfns, LogTook, History, touched, MachineSeen, is_paused, history_of, asked_before, AreExact, StandAroundPause, IsExactFrom, ◌*◌, ◌⊎◌, nat_lt, length-append, append-nil, inl, inr, filter, range_with_len, cases_lt, lt-ltb, joined, all_below, size, members}
use Rattle.mig_guest.proofs.Sizes.{size-le}
use Rattle.mig_headers.specs.declared.kind.Kind.{Kind}
use Rattle.mig_headers.specs.declared.kind.Kind.TheVariants.{Pv, Hvm}
use Rattle.mig_guest.specs.Rounds.{OfEachLog, to_read, GoesOn, AreCalls, Rounds, Tight, rounds_read, all_read}
use Rattle.mig_machine.specs.Paced.{Pace, pace_before, GoesOnFrom, IsPace, ArePaces, Paced, sizes, sent_again, read_in, pfns_paced, paces_of, HasPaces}

-- ---- the paces of logs

from_calls : (width : ℕ) (l : List LogTook) → (pace_before width (paces_of l)).calls ≡ asked_before l
from_calls width [] = refl
from_calls width (last ∷ before) = refl

from_log : (width : ℕ) (l : List LogTook) → (pace_before width (paces_of l)).log ≡ to_read width l
from_log width [] = refl
from_log width (last ∷ before) = refl

goes_on : (width : ℕ) (l : List LogTook) → GoesOn width l → GoesOnFrom width (paces_of l)
goes_on width [] g = tt
goes_on width (last ∷ before) g = g

same_length : (l : List LogTook) → length (paces_of l) ≡ length l
same_length [] = refl
same_length (last ∷ before) = let e = same_length before in omega (arith, e)

abbrev Reads : ℕ → List LogTook → Type 0
Reads width logs = OfEachLog (λ before log. log.asked.read ≡ to_read width before) logs

abbrev Sizes : ℕ → List LogTook → Type 0
Sizes width logs = OfEachLog (λ before log. GoesOn width before) logs

abbrev Calls : Kind → ℕ → List LogTook → Type 0
Calls kind width logs = OfEachLog (λ before log. AreCalls kind (size width log.asked.read) log.asked.calls) logs

paces : (t : ℕ → ℕ → Pfns) (kind : Kind) (width : ℕ) (l : List LogTook) (runs : ℕ) → asked_before l ≤ runs → Reads width l → Sizes width l → Calls kind width l → AreExact t runs l → ArePaces t kind width (paces_of l)
paces t kind width [] runs le reads sizes calls exact = tt
paces t kind width (last ∷ before) runs le reads sizes calls exact = (
  paces t kind width before runs (omega (arith, le)) reads.0 sizes.0 calls.0 exact.0,
  goes_on width before sizes.1,
  record {
    calls =
        let all = asked_before before + last.asked.calls in
        let step : last.asked.calls ≡ all - asked_before before = omega arith in
        subst (λ (n : ℕ). AreCalls kind (size width (pace_before width (paces_of before)).log) (all - n)) (sym (from_calls width before))
        (subst (λ (n : ℕ). AreCalls kind (size width (pace_before width (paces_of before)).log) n) step
        (subst (λ (x : Pfns). AreCalls kind (size width x) last.asked.calls) (reads.1 ∙ sym (from_log width before)) calls.1));
    log = exact.1 ∙ ap (λ n. t n (min (asked_before before + last.asked.calls) runs)) (let e : min (asked_before before) runs ≡ asked_before before = omega (arith, le) in e ∙ sym (from_calls width before))
        ∙ ap (t (pace_before width (paces_of before)).calls) (let e : min (asked_before before + last.asked.calls) runs ≡ asked_before before + last.asked.calls = omega (arith, le) in e);
  },
)

-- ---- where the pause lies

few_calls : (kind : Kind) (n calls : ℕ) → n ≤ 2 ^ 28 → AreCalls kind n calls → calls ≤ 513 * 2 ^ 28 + 1
few_calls Pv n calls le are = let most = are.1 in omega (arith, le, most)
few_calls Hvm n calls le are = omega (arith, le, are)

few_asked : (kind : Kind) (width : ℕ) (l : List LogTook) → width ≤ 2 ^ 28 → Calls kind width l → asked_before l ≤ length l * (513 * 2 ^ 28 + 1)
few_asked kind width [] wide calls = omega arith
few_asked kind width (last ∷ before) wide calls =
    let earlier = few_asked kind width before wide calls.0 in
    let now = few_calls kind (size width last.asked.read) last.asked.calls (omega (arith, wide, size-le last.asked.read width)) calls.1 in
    omega (arith, earlier, now)

before_pause : (runs live : ℕ) (l : List LogTook) → length l ≡ live → 1 ≤ length l → StandAroundPause runs live l → asked_before l < runs
before_pause runs live [] is some stands = absurd (omega (arith, some))
before_pause runs live (last ∷ before) is some stands = stands.1.0 (omega (arith, is))

paused_at : (kind : Kind) (width runs : ℕ) (k : History) (r : Rounds kind width k) → width ≤ 2 ^ 28 → (asked_before k.taken < 2 ^ 64 - 1 → StandAroundPause runs k.live k.taken) → runs ≡ asked_before r.live + 1
paused_at kind width runs k r wide stopped =
    let two = r.stopped.1 in let most = r.number.1 in
    let all : asked_before k.taken ≡ asked_before r.live + r.last.asked.calls = ap asked_before r.logs in
    let few = few_asked kind width r.live wide r.calls in
    let stands = subst (λ (l : List LogTook). StandAroundPause runs k.live l) r.logs (stopped (omega (arith, all, two, few, most))) in
    let above = before_pause runs k.live r.live r.before_pause r.number.0 stands.0 in
    let below = stands.1.1 (omega (arith, r.before_pause)) in
    omega (arith, above, below, two)

-- ---- the paces of a history

pub paced : (h : HostOf) (m : MachineSeen) → IsExactFrom h m → is_paused m ≡ true → h.width ≤ most_saved_width → (r : Rounds h.kind h.width (history_of m)) → HasPaces h m r
paced h m exact paused wide r =
    let width = h.width in let live = r.live in
    let runs : m.runs ≡ asked_before live + 1 = paused_at h.kind width m.runs (history_of m) r wide (exact.stopped paused) in
    let logs : AreExact (touched h m.lines) m.runs (r.last ∷ r.live) = subst (λ (l : List LogTook). AreExact (touched h m.lines) m.runs l) r.logs exact.taken in
    let two = r.stopped.1 in
    record {
      entries = sent_again width (paces_of live) + size width (joined (pace_before width (paces_of live)).log r.last.log);
      paced = record {
        paces = paces_of live;
        last = r.last.log;
        number = same_length live ∙ r.before_pause;
        bounds = (omega (arith, r.before_pause, r.number.0), omega (arith, r.before_pause, r.number.1));
        are = paces (touched h m.lines) h.kind width live m.runs (omega (arith, runs)) r.reads r.sizes.0 r.calls logs.0;
        ended = subst (λ (n : ℕ). (size width (pace_before width (paces_of live)).log < 50) ⊎ (n ≡ 5)) r.before_pause
            (subst (λ (x : Pfns). (size width x < 50) ⊎ (length live ≡ 5)) (sym (from_log width live)) r.sizes.1);
        pause = runs ∙ ap (λ n. n + 1) (sym (from_calls width live));
        is_last = logs.1 ∙ ap (λ n. touched h m.lines n (min (asked_before live + r.last.asked.calls) m.runs)) (let e : min (asked_before live) m.runs ≡ asked_before live = omega (arith, runs) in e ∙ sym (from_calls width live))
            ∙ ap (touched h m.lines (pace_before width (paces_of live)).calls) (let e : min (asked_before live + r.last.asked.calls) m.runs ≡ m.runs = omega (arith, runs, two) in e);
        entries = refl;
      };
      paces = refl;
      last = refl;
    }

-- ---- what is read

read_so : (width : ℕ) (l : List LogTook) → Reads width l → rounds_read width l ≡ read_in width (paces_of l)
read_so width [] reads = refl
read_so width (last ∷ before) reads = λ i. read_so width before reads.0 i ++ members width ((reads.1 ∙ sym (from_log width before)) i)

none_pass : (xs : List ℕ) → filter no_pfns xs ≡ []
none_pass [] = refl
none_pass (x ∷ xs) = none_pass xs

tight_reads : (kind : Kind) (width : ℕ) (k : History) (t : Tight kind width k) → all_read width k ≡ read_in width (paces_of t.rounds.live) ++ members width (joined (pace_before width (paces_of t.rounds.live)).log t.rounds.last.log)
tight_reads kind width k t =
    let r = t.rounds in
    let live : rounds_read width k.taken ≡ read_in width (paces_of r.live) =
    ap (rounds_read width) r.logs ∙ ap (λ (x : Pfns). rounds_read width r.live ++ members width x) r.stopped.0 ∙ ap (λ l. rounds_read width r.live ++ l) (none_pass (range_with_len 0 width))
    ∙ append-nil (rounds_read width r.live) ∙ read_so width r.live r.reads in
    λ i. live i ++ members width ((t.exact ∙ ap (λ (x : Pfns). joined x r.last.log) (sym (from_log width r.live))) i)

pub in_order : (h : HostOf) (m : MachineSeen) (t : Tight h.kind h.width (history_of m)) (p : HasPaces h m t.rounds) → all_read h.width (history_of m) ≡ pfns_paced p.paced
in_order h m t p =
    tight_reads h.kind h.width (history_of m) t ∙ (λ i. read_in h.width (sym p.paces i) ++ members h.width (joined (pace_before h.width (sym p.paces i)).log (sym p.last i)))

-- ---- how many these are

stays : (b : Bool) (a : ℕ) (others : List ℕ) → b ≡ true → length (cond b (a ∷ others) others) ≡ length others + 1
stays true a others e = omega arith
stays false a others e = cc

all_counted : (width a n : ℕ) → a + n ≤ width → length (filter (all_below width) (range_with_len a n)) ≡ n
all_counted width a zero h = refl
all_counted width a (suc n) h =
    let one = stays (nat_lt a width) a (filter (all_below width) (range_with_len (a + 1) n)) (lt-ltb a width (omega (arith, h))) in
    let others = all_counted width (a + 1) n (omega (arith, h)) in
    omega (arith, one, others)

counted_in : (width : ℕ) (l : List Pace) → 1 ≤ length l → length (read_in width l) ≡ sent_again width l + width
counted_in width [] some = absurd (omega (arith, some))
counted_in width (last ∷ []) some = let e = all_counted width 0 width (omega arith) in omega (arith, e)
counted_in width (last ∷ (prev ∷ before)) some =
    let earlier = counted_in width (prev ∷ before) (omega arith) in
    omega (arith, earlier, length-append (read_in width (prev ∷ before)) (members width prev.log))

pub counted : (h : HostOf) (lines : List LineOf) (n c e : ℕ) (p : Paced h lines n c e) → length (pfns_paced p) ≡ e + h.width
counted h lines n c e p =
    let some : 1 ≤ length p.paces = omega (arith, p.number, p.bounds.0) in
    let rounds = counted_in h.width p.paces some in
    let last = length-append (read_in h.width p.paces) (members h.width (joined (pace_before h.width p.paces).log p.last)) in
    omega (arith, rounds, last, p.entries)

-- ---- one script, one course

same_pace : (t : ℕ → ℕ → Pfns) (width : ℕ) (from x y : Pace) → IsPace t Hvm width from x → IsPace t Hvm width from y → x ≡ y
same_pace t width from x y p q =
    let a = p.calls in let b = q.calls in
    let calls : x.calls ≡ y.calls = omega (arith, a, b) in
    let log : x.log ≡ y.log = p.log ∙ ap (t from.calls) calls ∙ sym q.log in λ i. record { calls = calls i; log = log i }

same_paces : (t : ℕ → ℕ → Pfns) (width : ℕ) (l k : List Pace) → length l ≡ length k → ArePaces t Hvm width l → ArePaces t Hvm width k → l ≡ k
same_paces t width [] [] e a b = refl
same_paces t width [] (y ∷ k) e a b = absurd (omega (arith, e))
same_paces t width (x ∷ l) [] e a b = absurd (omega (arith, e))
same_paces t width (x ∷ l) (y ∷ k) e a b =
    let before = same_paces t width l k (omega (arith, e)) a.0 b.0 in
    let last = same_pace t width (pace_before width l) x y a.2 (subst (λ (r : List Pace). IsPace t Hvm width (pace_before width r) y) (sym before) b.2) in λ i. last i ∷ before i

names_many : (width : ℕ) (l : List Pace) → 1 ≤ length l → GoesOnFrom width l → 50 ≤ size width (pace_before width l).log
names_many width [] some g = absurd (omega (arith, some))
names_many width (last ∷ before) some g = g

-- where there are more paces the earlier ones are the same
goes_further : (t : ℕ → ℕ → Pfns) (width : ℕ) (l k : List Pace) → length l < length k → 1 ≤ length l → ArePaces t Hvm width l → ArePaces t Hvm width k → 50 ≤ size width (pace_before width l).log
goes_further t width l [] less some a b = absurd (omega (arith, less))
goes_further t width l (y ∷ k) less some a b = elim (cases_lt (length l) (length k)) [
  | inl more ↦ goes_further t width l k more some a b.0
  | inr last ↦ names_many width l some (subst (GoesOnFrom width) (sym (same_paces t width l k (omega (arith, less, last)) a b.0)) b.1)
]

no_further : (h : HostOf) (lines : List LineOf) (n c e m d f : ℕ) → h.kind ≡ Hvm → (p : Paced h lines n c e) → (q : Paced h lines m d f) → n < m → ⊥
no_further h lines n c e m d f hvm p q less =
    let many = goes_further (touched h lines) h.width p.paces q.paces (omega (arith, p.number, q.number, less)) (omega (arith, p.number, p.bounds.0)) (subst (λ (k : Kind). ArePaces (touched h lines) k h.width p.paces) hvm p.are)
    (subst (λ (k : Kind). ArePaces (touched h lines) k h.width q.paces) hvm q.are) in
    elim p.ended [ inl few ↦ omega (arith, few, many) | inr five ↦ let most = q.bounds.1 in omega (arith, five, less, most) ]

pub fixed : (h : HostOf) (lines : List LineOf) (n c e m d f : ℕ) → h.kind ≡ Hvm → (p : Paced h lines n c e) → (q : Paced h lines m d f) → (n ≡ m) × (c ≡ d) × (e ≡ f)
fixed h lines n c e m d f hvm p q =
    let same : n ≡ m = elim (cases_lt n m) [ inl less ↦ absurd (no_further h lines n c e m d f hvm p q less) | inr le ↦ elim (cases_lt m n) [ inl less ↦ absurd (no_further h lines m d f n c e hvm q p less) | inr ge ↦ omega (arith, le, ge) ] ] in
    let paces = same_paces (touched h lines) h.width p.paces q.paces (p.number ∙ same ∙ sym q.number) (subst (λ (k : Kind). ArePaces (touched h lines) k h.width p.paces) hvm p.are)
    (subst (λ (k : Kind). ArePaces (touched h lines) k h.width q.paces) hvm q.are) in
    let pause : c ≡ d = p.pause ∙ ap (λ (l : List Pace). (pace_before h.width l).calls + 1) paces ∙ sym q.pause in
    let last : p.last ≡ q.last = p.is_last ∙ (λ i. touched h lines (pace_before h.width (paces i)).calls (pause i)) ∙ sym q.is_last in
    (same, pause, p.entries ∙ (λ i. sent_again h.width (paces i) + size h.width (joined (pace_before h.width (paces i)).log (last i))) ∙ sym q.entries)
