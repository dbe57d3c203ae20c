-- What the lines of the exercise log are frames of data, so a round behind the first reads at most all of these.
use Rattle.mig_exercise.proofs.Common.{◌≡◌, ℕ, zero, suc, ◌+◌, ◌-◌, ◌*◌, ◌≤◌, ◌<◌, Bool, true, false, cond, nat_eq, List, [], ◌∷◌, length, Some, None, inl, inr, refl, sym, ap, ◌∙◌, arith, AllByRecursion, HostOf, LineOf, Write, Dot, ran, ran_between, applies, after_line, after, IsExerciseSize, first_data, data_count, host_of_exercise, IsDataWrite, script_of_exercise, filter, mul-le-mul_right, range_with_len, or_cases, eqb-true, false≢true, logs, with_logged, logged_after}
use Rattle.mig_headers.specs.declared.kind.Kind.{Kind}
use Rattle.mig_guest.specs.Pfns.{Pfns, no_pfns, with_pfn, joined, size}
use Rattle.mig_machine_script.specs.Touched.{touched}
use Rattle.mig_machine.specs.Paced.{Pace, pace_before, ArePaces, Paced, sizes, sent_again}
use Rattle.mig_exercise.proofs.DataWrites.{script_writes, between_writes}

-- ---- what is logged

-- a frame number that the set names is at least the first and below the end
abbrev pub IsBetween : ℕ → ℕ → Pfns → Type 0
IsBetween first end set = (p : ℕ) → set p ≡ true → (first ≤ p) × (p < end)

one_more : (first end pfn : ℕ) (log : Pfns) → (first ≤ pfn) × (pfn < end) → IsBetween first end log → IsBetween first end (with_pfn pfn log)
one_more first end pfn log one all p is = elim (or_cases (nat_eq p pfn) (log p) is) [
  | inl same ↦ let e = eqb-true p pfn same in let low = one.0 in let high = one.1 in (omega (arith, e, low), omega (arith, e, high))
  | inr other ↦ all p other
]

where_applied : (b : Bool) (first end pfn : ℕ) (log : Pfns) → (first ≤ pfn) × (pfn < end) → IsBetween first end log → IsBetween first end (with_logged (cond b (Some pfn) None) log)
where_applied true first end pfn log one all = one_more first end pfn log one all
where_applied false first end pfn log one all = all

one_logged : (n : ℕ) (h : HostOf) (line : LineOf) (log : Pfns) → IsDataWrite n line → IsBetween (first_data n) n log → IsBetween (first_data n) n (with_logged (logs h line) log)
one_logged n h (Write pfn at bytes) log is all = where_applied (applies h (Write pfn at bytes)) (first_data n) n pfn log (is.0, is.1) all
one_logged n h Dot log is all = all
one_logged n h _ log is all = absurd is

-- lines that write into frames of data log no others
pub logged_data : (n : ℕ) (h : HostOf) (lines : List LineOf) (log : Pfns) → AllByRecursion (IsDataWrite n) lines → IsBetween (first_data n) n log → IsBetween (first_data n) n (logged_after h lines log)
logged_data n h [] log all before = before
logged_data n h (line ∷ lines) log all before = logged_data n (after_line h line) lines (with_logged (logs h line) log) all.1 (one_logged n h line log all.0 before)

none_named : (first end : ℕ) → IsBetween first end no_pfns
none_named first end p is = absurd (false≢true is)

-- what these lines log are frames of data
pub touched_data : (seed n a b pfn : ℕ) → IsExerciseSize n → touched (host_of_exercise seed n) (script_of_exercise seed n) a b pfn ≡ true → (first_data n ≤ pfn) × (pfn < n)
touched_data seed n a b pfn is named =
    logged_data n (after (host_of_exercise seed n) (ran (script_of_exercise seed n) a)) (ran_between (script_of_exercise seed n) a b) no_pfns
    (between_writes (IsDataWrite n) (script_of_exercise seed n) a b (script_writes seed n (2 * n) is)) (none_named (first_data n) n) pfn named

-- ---- how many these are

one_counted : (b : Bool) (set : Pfns) (first end from : ℕ) (others : List ℕ) → set from ≡ b → IsBetween first end set → length others ≤ end - first → length others ≤ end - (from + 1)
    → (length (cond b (from ∷ others) others) ≤ end - first) × (length (cond b (from ∷ others) others) ≤ end - from)
one_counted true set first end from others is between few fewer = let inside = between from is in let low = inside.0 in let high = inside.1 in (omega (arith, low, high, fewer), omega (arith, high, fewer))
one_counted false set first end from others is between few fewer = (few, omega (arith, fewer))

few_from : (set : Pfns) (first end from n : ℕ) → IsBetween first end set
    → (length (filter set (range_with_len from n)) ≤ end - first) × (length (filter set (range_with_len from n)) ≤ end - from)
few_from set first end from zero between = (omega arith, omega arith)
few_from set first end from (suc n) between =
    let others = few_from set first end (from + 1) n between in
    one_counted (set from) set first end from (filter set (range_with_len (from + 1) n)) refl between others.0 others.1

-- a set that names frame numbers between two has no more members than lie between them
pub few_between : (set : Pfns) (first end width : ℕ) → IsBetween first end set → size width set ≤ end - first
few_between set first end width between = (few_from set first end 0 width between).0

joined_between : (a b : Pfns) (first end : ℕ) → IsBetween first end a → IsBetween first end b → IsBetween first end (joined a b)
joined_between a b first end in_a in_b p is = elim (or_cases (a p) (b p) is) [ inl named ↦ in_a p named | inr named ↦ in_b p named ]

-- ---- rounds

module _ (touches : ℕ → ℕ → Pfns) (kind : Kind) (width first end : ℕ) (between : (a b : ℕ) → IsBetween first end (touches a b)) where
  same_between : (set : Pfns) (a b : ℕ) → set ≡ touches a b → IsBetween first end set
  same_between set a b same p is = between a b p (sym (ap (λ (s : Pfns). s p) same) ∙ is)

  few_in_rounds : (l : List Pace) → ArePaces touches kind width l → sizes width l ≤ length l * (end - first)
  few_in_rounds [] are = omega arith
  few_in_rounds (last ∷ before) are =
      let earlier = few_in_rounds before are.0 in
      let now = few_between last.log first end width (same_between last.log (pace_before width before).calls last.calls are.2.log) in
      omega (arith, earlier, now)

  few_read : (l : List Pace) (last : Pfns) → 1 ≤ length l → length l ≤ 5 → ArePaces touches kind width l → IsBetween first end last
      → sent_again width l + size width (joined (pace_before width l).log last) ≤ 5 * (end - first)
  few_read [] last some few are after = absurd (omega (arith, some))
  few_read (pace ∷ before) last some few are after =
      let earlier = few_in_rounds before are.0 in
      let now = few_between (joined pace.log last) first end width (joined_between pace.log last first end (same_between pace.log (pace_before width before).calls pace.calls are.2.log) after) in
      let most : (length before + 1) * (end - first) ≤ 5 * (end - first) = mul-le-mul_right (end - first) (omega (arith, few)) in
      omega (arith, earlier, now, most)

-- so a round behind the first reads at most all of these
pub few_again : (seed n r c e : ℕ) → IsExerciseSize n → Paced (host_of_exercise seed n) (script_of_exercise seed n) r c e → e ≤ 5 * data_count n
few_again seed n r c e is paced =
    let least = paced.bounds.0 in let most = paced.bounds.1 in
    let h = host_of_exercise seed n in
    let between : (a b : ℕ) → IsBetween (first_data n) n (touched h (script_of_exercise seed n) a b) = λ a b p named. touched_data seed n a b p is named in
    let few = few_read (touched h (script_of_exercise seed n)) h.kind n (first_data n) n between paced.paces paced.last (omega (arith, paced.number, least)) (omega (arith, paced.number, most)) paced.are
    (same_between (touched h (script_of_exercise seed n)) h.kind n (first_data n) n between paced.last (pace_before n paced.paces).calls c paced.is_last) in
    omega (arith, few, paced.entries)
