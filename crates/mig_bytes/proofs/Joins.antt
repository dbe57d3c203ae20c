-- How judgements, and what readers give, join.
use Rattle.mig_bytes.proofs.Common.{IsErrAnd, ◌≡◌, inl, inr, ℕ, suc, ◌+◌, ◌<◌, length, take, drop, get_or, take-append-drop, List, [], ◌∷◌, ◌++◌, Bool, true, false, cond, Option, Some, None, Result, Ok, Err, refl, sym, ap, subst, ◌∙◌, length-append, arith, length-take-le, Stop, Refused, ReadFault, Memory, Judged, ◌>>=◌, part, tried, said_at, plain_at, placed, AgreesWithJudging, Passes, Faulty, le-ltb, drop-cons, ◌⊎◌, nat_lt, ltb-false}
use Rattle.std.proofs.lemmas.List.{take_more, take_at, drop_at}
use Rattle.mig_bytes.specs.Judged.{each, Matches}

module _ {C X Y : Type 0} (R : X → Y → Type 0) where
  -- nothing is read
  pub done : (a : Option (List ℕ)) (f : List ℕ → Judged C Y) (x : X) (y : Y) → ((i : List ℕ) → f i ≡ Passes y i) → R x y → AgreesWithJudging R a a f (Ok x)
  done None f x y is r = tt
  done (Some i) f x y is r = (y, i, is i, refl, r)

  -- the same, judged another way
  pub judged_so : (a b : Option (List ℕ)) (f g : List ℕ → Judged C Y) (r : Result X (Stop C)) → ((i : List ℕ) → g i ≡ f i) → AgreesWithJudging R a b f r → AgreesWithJudging R a b g r
  judged_so None b f g r same h = tt
  judged_so (Some i) b f g r same h = subst (λ j. Matches R b j r) (sym (same i)) h

-- a cause stands, and no bytes are taken
pub refused : {C X Y : Type 0} (R : X → Y → Type 0) (a : Option (List ℕ)) (f : List ℕ → Judged C Y) (c : C) → ((i : List ℕ) → f i ≡ Faulty c i) → AgreesWithJudging R a a f (Err (Refused c))
refused R None f c is = tt
refused R (Some i) f c is = (i, is i, refl)

module _ {C W X Y Z : Type 0} (R : W → X → Type 0) (Q : Y → Z → Type 0) where
  at_some : (b c : Option (List ℕ)) (rest : List ℕ) (f : List ℕ → Judged C Z) (r : Result Y (Stop C)) → b ≡ Some rest → AgreesWithJudging Q b c f r → Matches Q c (f rest) r
  at_some b c rest f r e h = subst (λ o. AgreesWithJudging Q o c f r) e h

  -- one reader after another
  pub seq : (a b c : Option (List ℕ)) (f : List ℕ → Judged C X) (k : X × List ℕ → Judged C Z) (w : W) (r : Result Y (Stop C))
      → AgreesWithJudging R a b f (Ok w) → ((x : X) → R w x → AgreesWithJudging Q b c (λ i. k (x, i)) r) → AgreesWithJudging Q a c (λ i. f i >>= k) r
  seq None b c f k w r h next = tt
  seq (Some i) b c f k w r (x, rest, is, left, rx) next =
      subst (λ j. Matches Q c (j >>= k) r) (sym is) (at_some b c rest (λ j. k (x, j)) r left (next x rx))

  -- a reader that stops
  pub stop : (a b : Option (List ℕ)) (f : List ℕ → Judged C X) (k : X × List ℕ → Judged C Z) (e : Stop C) → AgreesWithJudging R a b f (Err e) → AgreesWithJudging Q a b (λ i. f i >>= k) (Err e)
  stop None b f k e h = tt
  stop (Some i) b f k (Refused cause) (rest, is, left) = (rest, ap (λ j. j >>= k) is, left)
  stop (Some i) b f k ReadFault h = tt
  stop (Some i) b f k Memory h = tt

-- ---- one part after another

module _ {C W X : Type 0} (f : W → List ℕ → Judged C X) where
  abbrev joined : List X → Judged C (List X) → Judged C (List X)
  joined first others = others >>= λ o. Passes (first ++ o.0) o.1

  joined-nil : (j : Judged C (List X)) → joined [] j ≡ j
  joined-nil (Passes es rest) = refl
  joined-nil (Faulty c rest) = refl

  joined-cons : (x : X) (xs : List X) (j : Judged C (List X)) → joined (x ∷ xs) j ≡ (joined xs j >>= λ o. Passes (x ∷ o.0) o.1)
  joined-cons x xs (Passes es rest) = refl
  joined-cons x xs (Faulty c rest) = refl

  -- at the front, then at the others
  at_front : (x : X) (vs : List W) (j : Judged C (List X)) → ((j >>= λ a. joined a.0 (each f vs a.1)) >>= λ o. Passes (x ∷ o.0) o.1) ≡ ((j >>= λ o. Passes (x ∷ o.0) o.1) >>= λ a. joined a.0 (each f vs a.1))
  at_front x vs (Passes es rest) = sym (joined-cons x es (each f vs rest))
  at_front x vs (Faulty c rest) = refl

  abbrev step : List W → Judged C X → Judged C (List X)
  step ws j = j >>= λ first. each f ws first.1 >>= λ others. Passes (first.0 ∷ others.0) others.1

  stepped : (ws vs : List W) (j : Judged C X) → ((i : List ℕ) → each f (ws ++ vs) i ≡ (each f ws i >>= λ a. joined a.0 (each f vs a.1)))
      → step (ws ++ vs) j ≡ (step ws j >>= λ a. joined a.0 (each f vs a.1))
  stepped ws vs (Passes x rest) same = ap (λ k. k >>= λ others. Passes (x ∷ others.0) others.1) (same rest) ∙ at_front x vs (each f ws rest)
  stepped ws vs (Faulty c rest) same = refl

  pub each-append : (ws vs : List W) (i : List ℕ) → each f (ws ++ vs) i ≡ (each f ws i >>= λ a. joined a.0 (each f vs a.1))
  unfolding each
  each-append [] vs i = sym (joined-nil (each f vs i))
  each-append (w ∷ ws) vs i = stepped ws vs (f w i) (each-append ws vs)

  one : (w : W) (i : List ℕ) → each f (w ∷ []) i ≡ (f w i >>= λ x. Passes (x.0 ∷ []) x.1)
  unfolding each
  one w i = refl

  cons_is : (w : W) (vs : List W) (i : List ℕ) → each f (w ∷ vs) i ≡ step vs (f w i)
  unfolding each
  cons_is w vs i = refl

module _ {C W X V U Y : Type 0} (f : W → List ℕ → Judged C X) (R : V → List X → Type 0) (Q : U → X → Type 0) (P : Y → List X → Type 0) where
  -- the parts of ws, and then that of w
  pub each_more : (a b c : Option (List ℕ)) (ws : List W) (w : W) (v : V) (u : U) (y : Y) → AgreesWithJudging R a b (each f ws) (Ok v) → AgreesWithJudging Q b c (f w) (Ok u)
      → ((xs : List X) (x : X) → R v xs → Q u x → P y (xs ++ x ∷ [])) → AgreesWithJudging P a c (each f (ws ++ w ∷ [])) (Ok y)
  each_more None b c ws w v u y h n join = tt
  each_more (Some i) b c ws w v u y (xs, rest, is, left, rx) n join =
      let (x, rest', is', left', qx) = subst (λ o. AgreesWithJudging Q o c (f w) (Ok u)) left n in
      (xs ++ x ∷ [], rest', each-append f ws (w ∷ []) i ∙ ap (λ j. j >>= λ a. joined f a.0 (each f (w ∷ []) a.1)) is ∙ ap (joined f xs) (one f w rest ∙ ap (λ j. j >>= λ o. Passes (o.0 ∷ []) o.1) is'), left', join xs x rx qx)

  -- the parts of ws, and then that of w, where the reader stops
  pub each_stops : (a b c : Option (List ℕ)) (ws vs : List W) (w : W) (v : V) (e : Stop C) → AgreesWithJudging R a b (each f ws) (Ok v) → AgreesWithJudging Q b c (f w) (Err e)
      → AgreesWithJudging P a c (each f (ws ++ w ∷ vs)) (Err e)
  each_stops None b c ws vs w v e h n = tt
  each_stops (Some i) b c ws vs w v (Refused cause) (xs, rest, is, left, rx) n =
      let (rest', is', left') = subst (λ o. AgreesWithJudging Q o c (f w) (Err (Refused cause))) left n in
      (rest', each-append f ws (w ∷ vs) i ∙ ap (λ j. j >>= λ a. joined f a.0 (each f (w ∷ vs) a.1)) is ∙ ap (joined f xs) (cons_is f w vs rest ∙ ap (step f vs) is'), left')
  each_stops (Some i) b c ws vs w v ReadFault h n = tt
  each_stops (Some i) b c ws vs w v Memory h n = tt

  -- at the index k of a loop
  pub each_step : (a b c : Option (List ℕ)) (all : List W) (k : ℕ) (d : W) (v : V) (u : U) (y : Y) → k < length all → AgreesWithJudging R a b (each f (take k all)) (Ok v) → AgreesWithJudging Q b c (f (get_or all k d)) (Ok u)
      → ((xs : List X) (x : X) → R v xs → Q u x → P y (xs ++ x ∷ [])) → AgreesWithJudging P a c (each f (take (k + 1) all)) (Ok y)
  each_step a b c all k d v u y lt h n join =
      subst (λ ws. AgreesWithJudging P a c (each f ws) (Ok y)) (sym (take_more all k d lt)) (each_more a b c (take k all) (get_or all k d) v u y h n join)

  pub each_ends : (a b c : Option (List ℕ)) (all : List W) (k : ℕ) (d : W) (v : V) (e : Stop C) (r : Result Y (Stop C)) → k < length all → AgreesWithJudging R a b (each f (take k all)) (Ok v)
      → AgreesWithJudging Q b c (f (get_or all k d)) (Err e) → IsErrAnd r (λ s. s ≡ e) → AgreesWithJudging P a c (each f all) r
  each_ends a b c all k d v e (Ok y) lt h n is = absurd is
  each_ends a b c all k d v e (Err s) lt h n is =
      let whole : take k all ++ get_or all k d ∷ drop (suc k) all ≡ all = ap (λ l. take k all ++ l) (sym (drop-cons all k d lt)) ∙ take-append-drop k all in
      subst (λ t. AgreesWithJudging P a c (each f all) (Err t)) (sym is) (subst (λ ws. AgreesWithJudging P a c (each f ws) (Err e)) whole (each_stops a b c (take k all) (drop (suc k) all) (get_or all k d) v e h n))

-- ---- one reader after another

module _ {C X Y Z V : Type 0} (R : X → Y → Type 0) (Q : V → Z → Type 0) where
  -- what a reader gives is put into another form
  pub mapped : (a b : Option (List ℕ)) (f : List ℕ → Judged C Y) (g : List ℕ → Judged C Z) (h : Y → Z) (x : X) (v : V) → ((i : List ℕ) → g i ≡ (f i >>= λ y. Passes (h y.0) y.1))
      → AgreesWithJudging R a b f (Ok x) → ((y : Y) → R x y → Q v (h y)) → AgreesWithJudging Q a b g (Ok v)
  mapped None b f g h x v same n turn = tt
  mapped (Some i) b f g h x v same (y, rest, is, left, r) turn = (h y, rest, same i ∙ ap (λ j. j >>= λ y. Passes (h y.0) y.1) is, left, turn y r)

  -- a reader stopped, and its error is handed on
  pub stopped : (a b : Option (List ℕ)) (f : List ℕ → Judged C Y) (g : List ℕ → Judged C Z) (k : Y × List ℕ → Judged C Z) (e : Stop C) (r : Result V (Stop C)) → ((i : List ℕ) → g i ≡ (f i >>= k))
      → IsErrAnd r (λ d. d ≡ e) → AgreesWithJudging R a b f (Err e) → AgreesWithJudging Q a b g r
  stopped a b f g k e (Ok v) same is n = absurd is
  stopped a b f g k e (Err d) same is n = subst (λ s. AgreesWithJudging Q a b g (Err s)) (sym is) (judged_so Q a b (λ i. f i >>= k) g (Err e) same (stop R Q a b f k e n))

  -- a reader, and then another
  pub then_reads : (a b c : Option (List ℕ)) (f : List ℕ → Judged C Y) (g : List ℕ → Judged C Z) (k : Y × List ℕ → Judged C Z) (x : X) (r : Result V (Stop C)) → ((i : List ℕ) → g i ≡ (f i >>= k))
      → AgreesWithJudging R a b f (Ok x) → ((y : Y) → R x y → AgreesWithJudging Q b c (λ i. k (y, i)) r) → AgreesWithJudging Q a c g r
  then_reads a b c f g k x r same n next = judged_so Q a c (λ i. f i >>= k) g r same (seq R Q a b c f k x r n next)

-- what a reader gives is told of in another way
pub weakened : {C X V Y : Type 0} (R : X → Y → Type 0) (Q : V → Y → Type 0) (a b : Option (List ℕ)) (f : List ℕ → Judged C Y) (x : X) (v : V) → ((y : Y) → R x y → Q v y) → AgreesWithJudging R a b f (Ok x) → AgreesWithJudging Q a b f (Ok v)
weakened R Q None b f x v turn h = tt
weakened R Q (Some i) b f x v turn (y, rest, is, left, r) = (y, rest, is, left, turn y r)

-- a stop says nothing of what would be given
pub any_stop : {C X V Y : Type 0} (R : X → Y → Type 0) (Q : V → Y → Type 0) (a b : Option (List ℕ)) (f : List ℕ → Judged C Y) (e : Stop C) → AgreesWithJudging R a b f (Err e) → AgreesWithJudging Q a b f (Err e)
any_stop R Q None b f e h = tt
any_stop R Q (Some i) b f (Refused cause) h = h
any_stop R Q (Some i) b f ReadFault h = tt
any_stop R Q (Some i) b f Memory h = tt

-- a part that is there
pub part_whole : {C : Type 0} (truncated : C) (n : ℕ) (x rest : List ℕ) → length x ≡ n → part truncated n (x ++ rest) ≡ Passes x rest
part_whole truncated n x rest size = rw (le-ltb (length (x ++ rest)) n (omega (arith, length-append x rest)), take_at x rest n size, drop_at x rest n size) refl

-- ---- judgements that pass, taken apart

-- both of two judgements go on
pub record Both {C X Y : Type 0} (j : Judged C X) (k : X × List ℕ → Judged C Y) (y : Y) (rest : List ℕ) : Type 0 where
  pub x : X
  pub mid : List ℕ
  pub first : j ≡ Passes x mid
  pub second : k (x, mid) ≡ Passes y rest

pub both_pass : {C X Y : Type 0} (j : Judged C X) (k : X × List ℕ → Judged C Y) (y : Y) (rest : List ℕ) → (j >>= k) ≡ Passes y rest → Both j k y rest
both_pass (Passes x mid) k y rest h = record { x = x; mid = mid; first = refl; second = h }
both_pass (Faulty c mid) k y rest h = absurd (refused h)
  where
    refused : Faulty c mid ≡ Passes y rest → ⊥
    refused e = cc

part_cases : {C : Type 0} (truncated : C) (n : ℕ) (i x rest : List ℕ) (b : Bool) → nat_lt (length i) n ≡ b → ◌≡◌ {A = Judged C (List ℕ)} (cond b (Faulty truncated []) (Passes (take n i) (drop n i))) (Passes x rest) → (i ≡ x ++ rest) × (length x ≡ n)
part_cases {C} truncated n i x rest true short h = let no : ◌≡◌ {A = Judged C (List ℕ)} (Faulty truncated []) (Passes x rest) = h in (cc, cc)
part_cases truncated n i x rest false long h =
    let front : take n i ≡ x = cc in
    let back : drop n i ≡ rest = cc in
    (sym (take-append-drop n i) ∙ ap (λ l. l ++ drop n i) front ∙ ap (λ l. x ++ l) back, ap length (sym front) ∙ length-take-le n i (ltb-false (length i) n long))

pub part_passes : {C : Type 0} (truncated : C) (n : ℕ) (i x rest : List ℕ) → part truncated n i ≡ Passes x rest → (i ≡ x ++ rest) × (length x ≡ n)
part_passes truncated n i x rest h = part_cases truncated n i x rest (nat_lt (length i) n) refl h

pub tried_passes : {C : Type 0} (f : Option C) (i rest : List ℕ) (u : Unit {0}) → tried f i ≡ Passes u rest → (f ≡ None) × (i ≡ rest)
tried_passes None i rest u h = (refl, cc)
tried_passes {C} (Some c) i rest u h = let no : ◌≡◌ {A = Judged C (Unit {0})} (Faulty c i) (Passes u rest) = h in (cc, cc)

pub passes_not : {C X Y : Type 0} (x : X) (i : List ℕ) (c : C) (rest : List ℕ) → ◌≡◌ {A = Judged C X} (Passes x i) (Faulty c rest) → Y
passes_not x i c rest h = absurd (cc)

pub same_faulty : {C X : Type 0} (c d : C) (i j : List ℕ) → ◌≡◌ {A = Judged C X} (Faulty c i) (Faulty d j) → (c ≡ d) × (i ≡ j)
same_faulty c d i j h = (cc, cc)

pub same_passes : {C X : Type 0} (x y : X) (i j : List ℕ) → ◌≡◌ {A = Judged C X} (Passes x i) (Passes y j) → (x ≡ y) × (i ≡ j)
same_passes x y i j h = (cc, cc)

pub placed_passes : {P C X : Type 0} (place : P) (j : Judged C X) (x : X) (rest : List ℕ) → placed place j ≡ Passes x rest → j ≡ Passes x rest
placed_passes place (Passes y mid) x rest h = let e = same_passes y x mid rest h in ap (λ z. Passes z mid) e.0 ∙ ap (Passes x) e.1
placed_passes {P} {C} {X} place (Faulty c mid) x rest h = let no : ◌≡◌ {A = Judged (P × C) X} (Faulty (place, c) mid) (Passes x rest) = h in absurd (cc)

-- ---- and put together

pub then_passes : {C X Y : Type 0} (j : Judged C X) (k : X × List ℕ → Judged C Y) (x : X) (mid : List ℕ) (z : Judged C Y) → j ≡ Passes x mid → k (x, mid) ≡ z → (j >>= k) ≡ z
then_passes j k x mid z p q = ap (λ i. i >>= k) p ∙ q

pub tried_none : {C Y : Type 0} (f : Option C) (i : List ℕ) (j : Judged C Y) → f ≡ None → (tried f i >>= λ _. j) ≡ j
tried_none f i j p = ap (λ o. tried o i >>= λ _. j) p

-- ---- judgements that are faulty

-- with what follows it too
pub then_faulty : {C X Y : Type 0} (j : Judged C X) (k : X × List ℕ → Judged C Y) (c : C) (rest : List ℕ) → j ≡ Faulty c rest → (j >>= k) ≡ Faulty c rest
then_faulty j k c rest h = ap (λ i. i >>= k) h

-- of two judgements the first is faulty, or it passes and the second is
pub bind_cases : {C X Y : Type 0} (j : Judged C X) (k : X × List ℕ → Judged C Y) (c : C) (rest : List ℕ) → (j >>= k) ≡ Faulty c rest
    → (j ≡ Faulty c rest) ⊎ ((x : X) × (mid : List ℕ) × (j ≡ Passes x mid) × (k (x, mid) ≡ Faulty c rest))
bind_cases (Passes x mid) k c rest h = inr (x, mid, refl, h)
bind_cases (Faulty d mid) k c rest h = let e = same_faulty d c mid rest h in inl (rw (e.0, e.1) refl)

-- what is said of a judgement that passes has no fault of its own
pub only_first : {C X Y : Type 0} (says : X → Y) (j : Judged C X) (c : C) (rest : List ℕ) → (j >>= λ p. Passes (says p.0) p.1) ≡ Faulty c rest → j ≡ Faulty c rest
only_first says (Passes x mid) c rest h = passes_not (says x) mid c rest h
only_first says (Faulty d mid) c rest h = let e = same_faulty d c mid rest h in rw (e.0, e.1) refl

-- what is faulty at a place is faulty, and the place is this one
pub placed_faulty : {P C X : Type 0} (at place : P) (j : Judged C X) (c : C) (rest : List ℕ) → placed at j ≡ Faulty (place, c) rest → (j ≡ Faulty c rest) × (at ≡ place)
placed_faulty at place (Passes x mid) c rest h = passes_not x mid (place, c) rest h
placed_faulty {P} {C} at place (Faulty d mid) c rest h = let e = same_faulty (at, d) (place, c) mid rest h in (ap (λ (p : P × C). Faulty p.1 mid) e.0 ∙ ap (Faulty c) e.1, ap (λ (p : P × C). p.0) e.0)

-- ---- judgements in a row, regrouped

module _ {P C X Z : Type 0} (place : P) (truncated : C) (says : List ℕ → X) (k : X × List ℕ → Judged (P × C) Z) where
  said_by : (fault : List ℕ → Option C) (j : Judged C (List ℕ))
      → (placed place (j >>= λ b. tried (fault b.0) b.1 >>= λ _. Passes (says b.0) b.1) >>= k) ≡ (placed place (j >>= λ b. tried (fault b.0) b.1 >>= λ _. Passes b.0 b.1) >>= λ b. k (says b.0, b.1))
  said_by fault (Faulty c rest) = refl
  said_by fault (Passes b rest) =
      elim (fault b) as (λ g. (placed place (tried g rest >>= λ _. Passes (says b) rest) >>= k) ≡ (placed place (tried g rest >>= λ _. Passes b rest) >>= λ b. k (says b.0, b.1))) [ None ↦ refl | Some c ↦ refl ]

  -- a part with its causes, and what follows what it says
  pub said_part : (fault : List ℕ → Option C) (n : ℕ) (i : List ℕ) → (placed place (said_at truncated fault says n i) >>= k) ≡ (placed place (said_at truncated fault (λ b. b) n i) >>= λ b. k (says b.0, b.1))
  said_part fault n i = said_by fault (part truncated n i)

  plain_by : (j : Judged C (List ℕ)) → (placed place (j >>= λ b. Passes (says b.0) b.1) >>= k) ≡ (placed place (j >>= λ b. tried None b.1 >>= λ _. Passes b.0 b.1) >>= λ b. k (says b.0, b.1))
  plain_by (Faulty c rest) = refl
  plain_by (Passes b rest) = refl

  pub plain_part : (n : ℕ) (i : List ℕ) → (placed place (plain_at truncated says n i) >>= k) ≡ (placed place (said_at truncated (λ _. None) (λ b. b) n i) >>= λ b. k (says b.0, b.1))
  plain_part n i = plain_by (part truncated n i)

pub no_bytes : {C : Type 0} (truncated : C) (i : List ℕ) → part truncated 0 i ≡ Passes [] i
no_bytes truncated i = part_whole truncated 0 [] i refl
