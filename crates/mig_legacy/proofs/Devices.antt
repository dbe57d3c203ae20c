-- The device model's record, of which the first byte is taken alone.
use Rattle.mig_legacy.proofs.Common.{◌≡◌, ℕ, suc, ◌-◌, false, cond, nat_lt, List, [], ◌∷◌, ◌++◌, length, take, drop, get_or, Option, Some, None, Result, Ok, Err, refl, sym, ap, subst, ◌∙◌, arith, common_steps, Judged, part, Matches, AgreesWithJudging, Passes, Faulty, Stop, part_passes, LegacyCause, Truncated, judged_as, first_named, signature_causes, counted_form, device_form, device_at, most_body, any_stop, passes_not, part_whole, IsErrAnd, Refused}

-- what follows the signature
abbrev pub behind_signature : List ℕ → Judged LegacyCause (Option (List ℕ))
behind_signature input = judged_as (counted_form (most_body - 8) (λ _. []) Some) input

-- a byte before a part that is there
part_more : (n b : ℕ) (i x rest : List ℕ) → part Truncated n i ≡ Passes x rest → part Truncated (suc n) (b ∷ i) ≡ Passes (b ∷ x) rest
part_more n b i x rest is =
    let (whole, len) = part_passes Truncated n i x rest is in
    ap (λ l. part Truncated (suc n) (b ∷ l)) whole ∙ part_whole Truncated (suc n) (b ∷ x) rest (ap suc len)

module _ {V : Type 0} (Q : V → Option (List ℕ) → Type 0) (first n : ℕ) (bytes : List ℕ) (size : n ≡ 20) where
  pub signed : (a b d : Option (List ℕ)) (r : Result V (Stop LegacyCause)) → AgreesWithJudging {X = Unit {0}} (λ _ x. x ≡ bytes) a b (part Truncated n) (Ok tt) → first_named (signature_causes (first ∷ bytes)) ≡ None
      → AgreesWithJudging Q b d behind_signature r → AgreesWithJudging Q a d (λ rest. judged_as device_form (first ∷ rest)) r
  unfolding judged_as
  signed None b d r told fine read = tt
  signed (Some i) b d r (x, rest, is, left, same) fine read =
      let there : part Truncated 21 (first ∷ i) ≡ Passes (first ∷ x) rest = part_more 20 first i x rest (subst (λ k. part Truncated k i ≡ Passes x rest) size is) in
      let none : first_named (signature_causes (first ∷ x)) ≡ None = ap (λ l. first_named (signature_causes (first ∷ l))) same ∙ fine in
      let judged : judged_as device_form (first ∷ i) ≡ behind_signature rest = rw (there, none) refl in
      subst (λ j. Matches Q d j r) (sym judged) (subst (λ o. AgreesWithJudging Q o d behind_signature r) left read)

-- ---- the first byte

-- without one the input has ended
ended : (i : List ℕ) (c : LegacyCause) (rest : List ℕ) → part Truncated 1 i ≡ Faulty c rest → device_at i ≡ Passes None rest
unfolding device_at
ended [] c rest is = let nothing : [] ≡ rest = cc in ap (Passes None) nothing
ended (b ∷ i) c rest is =
    let long : nat_lt (suc (length i)) 1 ≡ false = grind (arith, common_steps) in
    passes_not (take 1 (b ∷ i)) (drop 1 (b ∷ i)) c rest (ap (λ t. cond t (Faulty Truncated []) (Passes (take 1 (b ∷ i)) (drop 1 (b ∷ i)))) (sym long) ∙ is)

begins : (x rest : List ℕ) → length x ≡ 1 → device_at (x ++ rest) ≡ judged_as device_form (get_or x 0 0 ∷ rest)
unfolding device_at
begins [] rest one = absurd (omega (arith, one))
begins (b ∷ []) rest one = refl
begins (b ∷ d ∷ x) rest one = absurd (omega (arith, one))

module _ {V : Type 0} (Q : V → Option (List ℕ) → Type 0) (n : ℕ) (size : n ≡ 1) where
  pub no_device : (R : Unit {0} → List ℕ → Type 0) (a b : Option (List ℕ)) (e : Stop LegacyCause) (c : LegacyCause) (v : V) → e ≡ Refused c → AgreesWithJudging R a b (part Truncated n) (Err e) → Q v None → AgreesWithJudging Q a b device_at (Ok v)
  no_device R None b e c v refuses h q = tt
  no_device R (Some i) b e c v refuses h q =
      let (rest, is, left) = subst (λ s. Matches R b (part Truncated n i) (Err s)) refuses h in
      (None, rest, ended i c rest (subst (λ k. part Truncated k i ≡ Faulty c rest) size is), left, q)

  pub some_device : (bytes : List ℕ) (first : ℕ) (a b d : Option (List ℕ)) (r : Result V (Stop LegacyCause)) → first ≡ get_or bytes 0 0 → AgreesWithJudging {X = Unit {0}} (λ _ x. x ≡ bytes) a b (part Truncated n) (Ok tt)
      → AgreesWithJudging Q b d (λ rest. judged_as device_form (first ∷ rest)) r → AgreesWithJudging Q a d device_at r
  some_device bytes first None b d r at told read = tt
  some_device bytes first (Some i) b d r at (x, rest, is, left, same) read =
      let (whole, one) = part_passes Truncated 1 i x rest (subst (λ k. part Truncated k i ≡ Passes x rest) size is) in
      let judged : device_at i ≡ judged_as device_form (first ∷ rest) = ap device_at whole ∙ begins x rest one ∙ ap (λ k. judged_as device_form (k ∷ rest)) (ap (λ l. get_or l 0 0) same ∙ sym at) in
      subst (λ j. Matches Q d j r) (sym judged) (subst (λ o. AgreesWithJudging Q o d (λ rest. judged_as device_form (first ∷ rest)) r) left read)

-- ---- where it stops

module _ {X V Y : Type 0} (R : X → Y → Type 0) (Q : V → Y → Type 0) (f : List ℕ → Judged LegacyCause Y) where
  pub stops_so : (a b : Option (List ℕ)) (e : Stop LegacyCause) (r : Result V (Stop LegacyCause)) → IsErrAnd r (λ d. d ≡ e) → AgreesWithJudging R a b f (Err e) → AgreesWithJudging Q a b f r
  stops_so a b e (Ok v) is h = absurd is
  stops_so a b e (Err d) is h = subst (λ s. AgreesWithJudging Q a b f (Err s)) (sym is) (any_stop R Q a b f e h)
