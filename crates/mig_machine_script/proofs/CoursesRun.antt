-- The lines run by one call more, and by calls between two others.
use Rattle.mig_machine_script.proofs.Common.{◌≡◌, ℕ, zero, suc, ◌+◌, ◌-◌, ◌<◌, ◌≤◌, ◌^◌, ◌⊎◌, Bool, true, false, cond, List, [], ◌∷◌, ◌++◌, length, take, drop, inl, inr, refl, sym, ap, subst, ◌∙◌, arith, append_assoc, take-add, length-drop, drop_of_length-le, cases_lt, HostOf, Pfns, no_pfns, LineOf, Dot, ends_group, first_group, first_length, lines_up_to, ran, after, after_line, logs, with_logged, logged_after, min, append-nil, fold-append, ran_between}
use Rattle.mig_machine_script.specs.Courses.{Course, IsLaterCourse}
use Rattle.mig_machine_script.specs.Touched.{touched}
use Rattle.mig_machine_script.proofs.LinesLogged.{IsRegular, LinesRan, lines_ran}

-- ---- lines that log

pub logged_append : (h : HostOf) (xs ys : List LineOf) (log : Pfns) → logged_after h (xs ++ ys) log ≡ logged_after (after h xs) ys (logged_after h xs log)
logged_append h [] ys log = refl
logged_append h (x ∷ xs) ys log = logged_append (after_line h x) xs ys (with_logged (logs h x) log)

-- ---- a group, and the dot that ends it

dot_stays : (h : HostOf) (line : LineOf) → ends_group line ≡ true → after_line h line ≡ h
dot_stays h Dot e = refl
dot_stays h _ e = cc

dot_unlogged : (h : HostOf) (line : LineOf) (log : Pfns) → ends_group line ≡ true → logged_after h (line ∷ []) log ≡ log
dot_unlogged h Dot log e = refl
dot_unlogged h _ log e = cc

record EndsBy (lines : List LineOf) : Type 0 where
  pub dots : List LineOf
  pub is : take (first_length lines) lines ≡ first_group lines ++ dots
  pub stays : (h : HostOf) → after h dots ≡ h
  pub unlogged : (h : HostOf) (log : Pfns) → logged_after h dots log ≡ log

ends_by : (lines : List LineOf) → EndsBy lines
ends_by [] = record { dots = []; is = refl; stays = λ h. refl; unlogged = λ h log. refl }
ends_by (line ∷ lines) = go (ends_group line) refl (ends_by lines)
  where
    go : (b : Bool) → ends_group line ≡ b → EndsBy lines → EndsBy (line ∷ lines)
    go true e others = record {
      dots = line ∷ [];
      is = ap (λ b. take (cond b 1 (first_length lines + 1)) (line ∷ lines)) e ∙ sym (ap (λ b. cond b [] (line ∷ first_group lines) ++ line ∷ []) e);
      stays = λ h. dot_stays h line e;
      unlogged = λ h log. dot_unlogged h line log e;
    }
    go false e others = record {
      dots = others.dots;
      is = ap (λ b. take (cond b 1 (first_length lines + 1)) (line ∷ lines)) e ∙ ap (λ n. take n (line ∷ lines)) (let s : first_length lines + 1 ≡ suc (first_length lines) = omega arith in s) ∙ ap (λ l. line ∷ l) others.is
          ∙ sym (ap (λ b. cond b [] (line ∷ first_group lines) ++ others.dots) e);
      stays = others.stays;
      unlogged = others.unlogged;
    }

-- ---- one call more

abbrev pub group_at : List LineOf → ℕ → List LineOf
group_at lines c = first_group (drop (lines_up_to lines c) lines)

regroup : (a b d x : List LineOf) → (a ++ (b ++ d)) ++ x ≡ (a ++ b) ++ (d ++ x)
regroup a b d x = simp append_assoc

record RanMore (lines : List LineOf) (c : ℕ) : Type 0 where
  pub dots : List LineOf
  pub is : ran lines (c + 1) ≡ ran lines c ++ (dots ++ group_at lines c)
  pub stays : (h : HostOf) → after h dots ≡ h
  pub unlogged : (h : HostOf) (log : Pfns) → logged_after h dots log ≡ log

ran_more : (lines : List LineOf) (c : ℕ) → RanMore lines c
ran_more lines zero = record { dots = []; is = ap (ran lines) (let e : zero + 1 ≡ suc zero = omega arith in e); stays = λ h. refl; unlogged = λ h log. refl }
ran_more lines (suc k) =
    let p = lines_up_to lines k in
    let rest = drop (lines_up_to lines k) lines in
    let e = ends_by rest in
    record {
      dots = e.dots;
      is = ap (ran lines) (let s : suc k + 1 ≡ suc (suc k) = omega arith in s)
          ∙ ap (λ l. l ++ group_at lines (suc k)) (take-add p (first_length rest) lines ∙ ap (λ l. take p lines ++ l) e.is)
          ∙ regroup (take p lines) (first_group rest) e.dots (group_at lines (suc k));
      stays = e.stays;
      unlogged = e.unlogged;
    }

-- ---- lines run between two calls

record Begins (lines : List LineOf) (a b : ℕ) : Type 0 where
  pub rest : List LineOf
  pub is : ran lines b ≡ ran lines a ++ rest

up_by : (lines : List LineOf) (a n : ℕ) → Begins lines a (a + n)
up_by lines a zero = record { rest = []; is = ap (ran lines) (let e : a + zero ≡ a = omega arith in e) ∙ sym (append-nil (ran lines a)) }
up_by lines a (suc n) =
    let p = up_by lines a n in
    let m = ran_more lines (a + n) in
    record {
      rest = p.rest ++ (m.dots ++ group_at lines (a + n));
      is = ap (ran lines) (let e : a + suc n ≡ (a + n) + 1 = omega arith in e) ∙ m.is ∙ ap (λ l. l ++ (m.dots ++ group_at lines (a + n))) p.is
          ∙ append_assoc (ran lines a) p.rest (m.dots ++ group_at lines (a + n));
    }

begins : (lines : List LineOf) (a b : ℕ) → a ≤ b → Begins lines a b
begins lines a b le = subst (λ (n : ℕ). Begins lines a n) (let e : a + (b - a) ≡ b = omega arith in e) (up_by lines a (b - a))

dropped : (xs ys : List LineOf) → drop (length xs) (xs ++ ys) ≡ ys
dropped [] ys = refl
dropped (x ∷ xs) ys = dropped xs ys

between_is : (lines : List LineOf) (a b : ℕ) (rest : List LineOf) → ran lines b ≡ ran lines a ++ rest → ran_between lines a b ≡ rest
between_is lines a b rest is = ap (drop (length (ran lines a))) is ∙ dropped (ran lines a) rest

between_on : (lines : List LineOf) (a b c : ℕ) → a ≤ b → b ≤ c → ran_between lines a c ≡ ran_between lines a b ++ ran_between lines b c
between_on lines a b c low high =
    let p = begins lines a b low in
    let q = begins lines b c high in
    between_is lines a c (p.rest ++ q.rest) (q.is ∙ ap (λ l. l ++ q.rest) p.is ∙ append_assoc (ran lines a) p.rest q.rest)
    ∙ sym (λ i. between_is lines a b p.rest p.is i ++ between_is lines b c q.rest q.is i)

pub between_same : (lines : List LineOf) (c : ℕ) → ran_between lines c c ≡ []
between_same lines c = between_is lines c c [] (sym (append-nil (ran lines c)))

between_next : (lines : List LineOf) (h : HostOf) (c : ℕ) → after h (ran_between lines c (c + 1)) ≡ after h (group_at lines c)
between_next lines h c =
    let m = ran_more lines c in
    ap (λ (l : List LineOf). after h l) (between_is lines c (c + 1) (m.dots ++ group_at lines c) m.is) ∙ fold-append after_line h m.dots (group_at lines c) ∙ ap (λ (k : HostOf). after k (group_at lines c)) (m.stays h)

next_logged : (lines : List LineOf) (h : HostOf) (c : ℕ) (log : Pfns) → logged_after h (ran_between lines c (c + 1)) log ≡ logged_after h (group_at lines c) log
next_logged lines h c log =
    let m = ran_more lines c in
    ap (λ (l : List LineOf). logged_after h l log) (between_is lines c (c + 1) (m.dots ++ group_at lines c) m.is) ∙ logged_append h m.dots (group_at lines c) log ∙ (λ i. logged_after (m.stays h i) (group_at lines c) (m.unlogged h log i))

-- ---- a counter that stays at its last value

some_first : (lines : List LineOf) → 0 < length lines → 1 ≤ first_length lines
some_first [] some = absurd (omega arith)
some_first (line ∷ lines) some = elim (ends_group line) as (λ b. 1 ≤ cond b 1 (first_length lines + 1)) [ true ↦ omega arith | false ↦ omega arith ]

far_enough : (lines : List LineOf) (c : ℕ) → (length lines ≤ lines_up_to lines c) ⊎ (c ≤ lines_up_to lines c)
far_enough lines zero = inr (omega arith)
far_enough lines (suc c) = elim (far_enough lines c) [
  | inl all ↦ inl (omega (arith, all))
  | inr many ↦ elim (cases_lt (lines_up_to lines c) (length lines)) [
    | inl less ↦ let one : 1 ≤ first_length (drop (lines_up_to lines c) lines) = some_first (drop (lines_up_to lines c) lines) (let n = length-drop (lines_up_to lines c) lines in omega (arith, n, less)) in inr (omega (arith, one, many))
    | inr over ↦ inl (omega (arith, over))
  ]
]

none_left : (lines : List LineOf) (c : ℕ) → length lines ≤ c → drop (lines_up_to lines c) lines ≡ []
none_left lines c few = drop_of_length-le lines (elim (far_enough lines c) [ inl all ↦ all | inr many ↦ omega (arith, many, few) ])

pub record IsNextCount (c d : ℕ) : Type 0 where
  pub is : d ≡ min (c + 1) (2 ^ 64 - 1)
  pub fits : c ≤ 2 ^ 64 - 1

pub next_place : (lines : List LineOf) (c d : ℕ) → IsNextCount c d → length lines ≤ 2 ^ 64 - 1 → lines_up_to lines c + first_length (drop (lines_up_to lines c) lines) ≡ lines_up_to lines d
next_place lines c d next few = elim (cases_lt c (2 ^ 64 - 1)) [
  | inl less ↦ let is = next.is in ap (lines_up_to lines) (let e : suc c ≡ d = omega (arith, is, less) in e)
  | inr last ↦
      let is = next.is in let fits = next.fits in
      let none : first_length (drop (lines_up_to lines c) lines) ≡ 0 = ap first_length (none_left lines c (omega (arith, last, few))) in
      let same : lines_up_to lines c ≡ lines_up_to lines d = ap (lines_up_to lines) (let e : c ≡ d = omega (arith, is, fits, last) in e) in omega (arith, none, same)
]

pub next_after : (lines : List LineOf) (h : HostOf) (c d : ℕ) → IsNextCount c d → length lines ≤ 2 ^ 64 - 1 → after h (group_at lines c) ≡ after h (ran_between lines c d)
next_after lines h c d next few = elim (cases_lt c (2 ^ 64 - 1)) [
  | inl less ↦ let is = next.is in sym (between_next lines h c) ∙ ap (λ (n : ℕ). after h (ran_between lines c n)) (let e : c + 1 ≡ d = omega (arith, is, less) in e)
  | inr last ↦
      let is = next.is in let fits = next.fits in
      ap (λ (l : List LineOf). after h (first_group l)) (none_left lines c (omega (arith, last, few)))
      ∙ sym (ap (λ (l : List LineOf). after h l) (ap (ran_between lines c) (let e : d ≡ c = omega (arith, is, fits, last) in e) ∙ between_same lines c))
]

pub logged_next : (lines : List LineOf) (h : HostOf) (log : Pfns) (c d : ℕ) → IsNextCount c d → length lines ≤ 2 ^ 64 - 1 → logged_after h (group_at lines c) log ≡ logged_after h (ran_between lines c d) log
logged_next lines h log c d next few = elim (cases_lt c (2 ^ 64 - 1)) [
  | inl less ↦ let is = next.is in sym (next_logged lines h c log) ∙ ap (λ (n : ℕ). logged_after h (ran_between lines c n) log) (let e : c + 1 ≡ d = omega (arith, is, less) in e)
  | inr last ↦
      let is = next.is in let fits = next.fits in
      ap (λ (l : List LineOf). logged_after h (first_group l) log) (none_left lines c (omega (arith, last, few)))
      ∙ sym (ap (λ (l : List LineOf). logged_after h l log) (ap (ran_between lines c) (let e : d ≡ c = omega (arith, is, fits, last) in e) ∙ between_same lines c))
]

-- ---- what is touched

pub after_between : (h : HostOf) (lines : List LineOf) (a b : ℕ) → a ≤ b → after (after h (ran lines a)) (ran_between lines a b) ≡ after h (ran lines b)
after_between h lines a b le =
    let p = begins lines a b le in
    ap (λ (l : List LineOf). after (after h (ran lines a)) l) (between_is lines a b p.rest p.is) ∙ sym (fold-append after_line h (ran lines a) p.rest) ∙ sym (ap (λ (l : List LineOf). after h l) p.is)

-- what is touched up to a later call
pub touched_on : (h : HostOf) (lines : List LineOf) (a b c : ℕ) → a ≤ b → b ≤ c → touched h lines a c ≡ logged_after (after h (ran lines b)) (ran_between lines b c) (touched h lines a b)
touched_on h lines a b c low high =
    ap (λ (l : List LineOf). logged_after (after h (ran lines a)) l no_pfns) (between_on lines a b c low high) ∙ logged_append (after h (ran lines a)) (ran_between lines a b) (ran_between lines b c) no_pfns
    ∙ ap (λ (k : HostOf). logged_after k (ran_between lines b c) (touched h lines a b)) (after_between h lines a b low)

pub touched_same : (h : HostOf) (lines : List LineOf) (a : ℕ) → touched h lines a a ≡ no_pfns
touched_same h lines a = ap (λ (l : List LineOf). logged_after (after h (ran lines a)) l no_pfns) (between_same lines a)

-- ---- what is later

pub later_now : (a b : Course) → b.lines ≡ a.lines → a.calls ≤ b.calls → IsNextCount a.runs b.runs → length a.lines ≤ 2 ^ 64 - 1 → b.host ≡ after a.host (group_at a.lines a.runs) → IsLaterCourse a b
later_now a b same calls runs few host = record {
  script = same;
  calls = calls;
  runs = let is = runs.is in let fits = runs.fits in omega (arith, is, fits);
  host = host ∙ next_after a.lines a.host a.runs b.runs runs few;
}

pub later_itself : (a : Course) → IsLaterCourse a a
later_itself a = record { script = refl; calls = omega arith; runs = omega arith; host = sym (ap (λ (l : List LineOf). after a.host l) (between_same a.lines a.runs)) }

pub later_still : (a b c : Course) → IsLaterCourse a b → IsLaterCourse b c → IsLaterCourse a c
later_still a b c p q = record {
  script = q.script ∙ p.script;
  calls = let x = p.calls in let y = q.calls in omega (arith, x, y);
  runs = let x = p.runs in let y = q.runs in omega (arith, x, y);
  host = q.host ∙ (λ i. after (p.host i) (ran_between (p.script i) b.runs c.runs)) ∙ sym (fold-append after_line a.host (ran_between a.lines a.runs b.runs) (ran_between a.lines b.runs c.runs))
      ∙ sym (ap (λ (l : List LineOf). after a.host l) (between_on a.lines a.runs b.runs c.runs p.runs q.runs));
}

pub from_start : (a b : Course) → a.calls ≡ 0 → a.runs ≤ a.calls → IsLaterCourse a b → b.host ≡ after a.host (ran a.lines b.runs)
from_start a b none least later = later.host ∙ ap (λ (n : ℕ). after a.host (ran_between a.lines n b.runs)) (let e : a.runs ≡ 0 = omega (arith, none, least) in e)

-- ---- one group

pub group_ran : (g h : HostOf) (lines : List LineOf) (log now : Pfns) → IsRegular g → h ≡ after g lines → now ≡ logged_after g lines log → LinesRan g h log now
group_ran g h lines log now t is logged =
    subst (λ (s : Pfns). LinesRan g h log s) (sym logged) (subst (λ (k : HostOf). LinesRan g k log (logged_after g lines log)) (sym is) (lines_ran g lines log t))
