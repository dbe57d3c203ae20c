-- What edits in one slab do to all pages.
use Rattle.mig_pagestore.proofs.Common.{◌≡◌, ℕ, zero, suc, ◌+◌, ◌-◌, ◌<◌, ◌≤◌, List, [], ◌∷◌, ◌++◌, length, take, drop, get_or, set, slice_get, refl, sym, ap, ◌∙◌, subst, arith, length-append, length-set, append-nil, append_assoc, IsArena, set_front, set_back}
use Rattle.mig_pagestore.specs.Slab.{Pages}
use Rattle.mig_pagestore.specs.Packed.{IsPacked, IsFound, AreLaid, all_pages, places_before, places_after, slab_sizes}
use Rattle.std.specs.Prelude.{min}
use Rattle.mig_pagestore.proofs.Sizes.{IsAt, at_found}

module _ {X : Type 0} where
  get_left : (xs ys : List X) (i : ℕ) → i < length xs → slice_get (xs ++ ys) i ≡ slice_get xs i
  get_left [] ys i lt = absurd (omega arith)
  get_left (x ∷ xs) ys zero lt = refl
  get_left (x ∷ xs) ys (suc i) lt = get_left xs ys i (omega arith)

  pub get_right : (xs ys : List X) (i k : ℕ) → i ≡ length xs + k → slice_get (xs ++ ys) i ≡ slice_get ys k
  get_right [] ys i k e = let same : i ≡ k = omega arith in ap (slice_get ys) same
  get_right (x ∷ xs) ys zero k e = absurd (omega arith)
  get_right (x ∷ xs) ys (suc i) k e = get_right xs ys i k (omega arith)

  part_left : (xs ys : List X) (r c : ℕ) → r + c ≤ length xs → take c (drop r (xs ++ ys)) ≡ take c (drop r xs)
  part_left [] ys zero zero le = refl
  part_left [] ys zero (suc c) le = absurd (omega (arith, le))
  part_left [] ys (suc r) c le = absurd (omega (arith, le))
  part_left (x ∷ xs) ys zero zero le = refl
  part_left (x ∷ xs) ys zero (suc c) le = ap (λ l. x ∷ l) (part_left xs ys zero c (omega (arith, le)))
  part_left (x ∷ xs) ys (suc r) c le = part_left xs ys r c (omega (arith, le))

  part_right : (xs ys : List X) (i k c : ℕ) → i ≡ length xs + k → take c (drop i (xs ++ ys)) ≡ take c (drop k ys)
  part_right [] ys i k c e = let same : i ≡ k = omega arith in ap (λ m. take c (drop m ys)) same
  part_right (x ∷ xs) ys zero k c e = absurd (omega arith)
  part_right (x ∷ xs) ys (suc i) k c e = part_right xs ys i k c (omega arith)

first_none : 0 ≡ places_before 0
unfolding places_before
first_none = refl

-- whatever is put for one that isn't there, what is read is what is read with itself in that stead
get_or_own : {X : Type 0} (xs : List X) (i : ℕ) (d : X) → get_or xs i d ≡ get_or xs i (get_or xs i d)
get_or_own [] i d = refl
get_or_own (x ∷ xs) zero d = refl
get_or_own (x ∷ xs) (suc i) d = get_or_own xs i d

abbrev pub with_pages : Pages → List (List ℕ) → Pages
with_pages s l = record s { pages = l }

nothing : (xs ys : List (List ℕ)) → length xs ≡ 0 → ys ≡ [] → xs ++ ys ≡ []
nothing [] ys e f = f
nothing (x ∷ xs) ys e f = absurd (omega (arith, e))

empty_rest : (ss : List Pages) (n : ℕ) → n ≡ 0 → IsPacked ss n → all_pages ss ≡ []
unfolding IsPacked all_pages
empty_rest [] n e p = refl
empty_rest (s ∷ ss) n e p = nothing s.pages (all_pages ss) (p.2 (omega (arith, e)) ∙ e) (empty_rest ss (n - s.places) (omega (arith, e)) p.3)

pub count_of : (ss : List Pages) (n : ℕ) → IsPacked ss n → length (all_pages ss) ≡ n
unfolding IsPacked all_pages
count_of [] n p = omega (arith, p)
count_of (s ∷ ss) n p = let on = count_of ss (n - s.places) p.3 in let long = length-append s.pages (all_pages ss) in
    grind (arith, long, on, p.1, p.2)

pub within : (ss : List Pages) (n from to : ℕ) → IsPacked ss n → AreLaid (slab_sizes ss) from to → from + n ≤ to
unfolding IsPacked AreLaid
within [] n from to p laid = omega (arith, p, laid)
within (s ∷ ss) n from to p laid = let on = within ss (n - s.places) (from + s.places) to p.3 laid.1 in omega (arith, on)

pub at_place : (ss : List Pages) (n j r p : ℕ) (s : Pages) → IsPacked ss n → IsAt (slab_sizes ss) j r p → p < n → s ≡ get_or ss j s
    → (j < length ss) × (r < length s.pages) × (slice_get (all_pages ss) p ≡ slice_get s.pages r)
unfolding IsPacked all_pages IsAt
at_place [] n j r p s packed is lt e = absurd (omega (arith, is))
at_place (t ∷ ss) n zero r p s packed is lt e =
    let within : r < length t.pages = grind (arith, packed.1, packed.2, lt, is.0, is.1) in
    (omega arith, subst (λ (u : Pages). r < length u.pages) (sym e) within, ap (slice_get (t.pages ++ all_pages ss)) (sym is.0) ∙ get_left t.pages (all_pages ss) r within ∙ ap (λ (u : Pages). slice_get u.pages r) (sym e))
at_place (t ∷ ss) n (suc j) r p s packed is lt e =
    let on = at_place ss (n - t.places) j r (p - t.places) s packed.3 is.1 (omega (arith, lt, is.0)) e in
    let full : length t.pages ≡ t.places = packed.1 (omega (arith, lt, is.0)) in
    (omega (arith, on.0), on.1, get_right t.pages (all_pages ss) p (p - t.places) (omega (arith, full, is.0)) ∙ on.2)

-- pages one behind another in one slab
run_place : (ss : List Pages) (n j r c p : ℕ) (s : Pages) → IsPacked ss n → IsAt (slab_sizes ss) j r p → p < n → s ≡ get_or ss j s → r + c ≤ length s.pages
    → take c (drop p (all_pages ss)) ≡ take c (drop r s.pages)
unfolding IsPacked all_pages IsAt
run_place [] n j r c p s packed is lt e fits = absurd (omega (arith, is))
run_place (t ∷ ss) n zero r c p s packed is lt e fits =
    ap (λ k. take c (drop k (t.pages ++ all_pages ss))) (sym is.0) ∙ part_left t.pages (all_pages ss) r c (subst (λ (u : Pages). r + c ≤ length u.pages) e fits) ∙ ap (λ (u : Pages). take c (drop r u.pages)) (sym e)
run_place (t ∷ ss) n (suc j) r c p s packed is lt e fits =
    let full : length t.pages ≡ t.places = packed.1 (omega (arith, lt, is.0)) in
    part_right t.pages (all_pages ss) p (p - t.places) c (omega (arith, full, is.0)) ∙ run_place ss (n - t.places) j r c (p - t.places) s packed.3 is.1 (omega (arith, lt, is.0)) e fits

pub set_place : (ss : List Pages) (n j r p : ℕ) (s : Pages) (w : List ℕ) → IsPacked ss n → IsAt (slab_sizes ss) j r p → p < n → s ≡ get_or ss j s
    → IsPacked (set ss j (with_pages s (set s.pages r w))) n × (all_pages (set ss j (with_pages s (set s.pages r w))) ≡ set (all_pages ss) p w)
unfolding IsPacked all_pages IsAt
set_place [] n j r p s w packed is lt e = absurd (omega (arith, is))
set_place (t ∷ ss) n zero r p s w packed is lt e =
    let within : r < length t.pages = grind (arith, packed.1, packed.2, lt, is.0, is.1) in
    let long = length-set t.pages r w in
    subst (λ (u : Pages). IsPacked (with_pages u (set u.pages r w) ∷ ss) n × (set u.pages r w ++ all_pages ss ≡ set (t.pages ++ all_pages ss) p w)) (sym e)
    ((omega (arith, long, packed.0), λ le. long ∙ packed.1 le, λ le. long ∙ packed.2 le, packed.3), sym (set_front t.pages (all_pages ss) r w within) ∙ ap (λ k. set (t.pages ++ all_pages ss) k w) is.0)
set_place (t ∷ ss) n (suc j) r p s w packed is lt e =
    let on = set_place ss (n - t.places) j r (p - t.places) s w packed.3 is.1 (omega (arith, lt, is.0)) e in
    let full : length t.pages ≡ t.places = packed.1 (omega (arith, lt, is.0)) in
    ((packed.0, packed.1, packed.2, on.0), ap (λ l. t.pages ++ l) on.1 ∙ sym (set_back t.pages (all_pages ss) p (p - t.places) w (omega (arith, full, is.0))))

pub push_place : (ss : List Pages) (n j r : ℕ) (s : Pages) (w : List ℕ) → IsPacked ss n → IsAt (slab_sizes ss) j r n → s ≡ get_or ss j s
    → (j < length ss) × (length s.pages < s.places) × IsPacked (set ss j (with_pages s (s.pages ++ w ∷ []))) (n + 1) × (all_pages (set ss j (with_pages s (s.pages ++ w ∷ []))) ≡ all_pages ss ++ w ∷ [])
unfolding IsPacked all_pages IsAt
push_place [] n j r s w packed is e = absurd (omega (arith, is))
push_place (t ∷ ss) n zero r s w packed is e =
    let has : length t.pages ≡ n = packed.2 (omega (arith, is.0, is.1)) in
    let long = length-append t.pages (w ∷ []) in
    let later : n - t.places ≡ 0 = omega (arith, is.0, is.1) in let after : n + 1 - t.places ≡ n - t.places = omega (arith, is.0, is.1) in
    let none : all_pages ss ≡ [] = empty_rest ss (n - t.places) later packed.3 in
    subst (λ (u : Pages). (0 < suc (length ss)) × (length u.pages < u.places) × IsPacked (with_pages u (u.pages ++ w ∷ []) ∷ ss) (n + 1) × ((u.pages ++ w ∷ []) ++ all_pages ss ≡ (t.pages ++ all_pages ss) ++ w ∷ [])) (sym e) (
      omega arith,
      omega (arith, has, is.0, is.1),
      (omega (arith, long, has, is.0, is.1), λ le. omega (arith, long, has, is.0, is.1, le), λ le. omega (arith, long, has), subst (IsPacked ss) (sym after) packed.3),
      append_assoc t.pages (w ∷ []) (all_pages ss) ∙ ap (λ l. t.pages ++ (w ∷ l)) none ∙ ap (λ l. l ++ w ∷ []) (sym (append-nil t.pages) ∙ ap (λ l. t.pages ++ l) (sym none)),
    )
push_place (t ∷ ss) n (suc j) r s w packed is e =
    let on = push_place ss (n - t.places) j r s w packed.3 is.1 e in
    let step : n + 1 - t.places ≡ n - t.places + 1 = omega (arith, is.0) in (
      omega (arith, on.0),
      on.1,
      (packed.0, λ le. packed.1 is.0, λ le. absurd (omega (arith, is.0, le)), subst (IsPacked (set ss j (with_pages s (s.pages ++ w ∷ [])))) (sym step) on.2),
      ap (λ l. t.pages ++ l) on.3 ∙ sym (append_assoc t.pages (all_pages ss) (w ∷ [])),
    )

pub one_more : (ss : List Pages) (n : ℕ) (s : Pages) → IsPacked ss n → s.pages ≡ [] → IsPacked (ss ++ s ∷ []) n × (all_pages (ss ++ s ∷ []) ≡ all_pages ss)
unfolding IsPacked all_pages
one_more [] n s p e = let none = ap length e in
    ((omega (arith, none), λ le. omega (arith, p, le, none), λ le. none ∙ sym p, omega (arith, p)), append-nil s.pages ∙ e)
one_more (t ∷ ss) n s p e = let on = one_more ss (n - t.places) s p.3 e in ((p.0, p.1, p.2, on.0), ap (λ l. t.pages ++ l) on.1)

pub pop_place : (ss : List Pages) (n j r p : ℕ) (s : Pages) → IsPacked ss n → IsAt (slab_sizes ss) j r p → p + 1 ≡ n → s ≡ get_or ss j s
    → (j < length ss) × (0 < length s.pages) × ((us : List (List ℕ)) (w : List ℕ) → s.pages ≡ us ++ w ∷ [] → IsPacked (set ss j (with_pages s us)) p × (all_pages ss ≡ all_pages (set ss j (with_pages s us)) ++ w ∷ []))
unfolding IsPacked all_pages IsAt
pop_place [] n j r p s packed at is e = absurd (omega (arith, at))
pop_place (t ∷ ss) n zero r p s packed at is e =
    let has : length t.pages ≡ n = packed.2 (omega (arith, at.0, at.1, is)) in
    let later : n - t.places ≡ 0 = omega (arith, at.0, at.1, is) in let after : p - t.places ≡ n - t.places = omega (arith, at.0, at.1, is) in
    let none : all_pages ss ≡ [] = empty_rest ss (n - t.places) later packed.3 in (
      omega arith,
      subst (λ (u : Pages). 0 < length u.pages) (sym e) (omega (arith, has, is)),
      λ us w split.
          let cut : t.pages ≡ us ++ w ∷ [] = ap (λ (u : Pages). u.pages) (sym e) ∙ split in
          let long : length us + 1 ≡ n = omega (arith, ap length cut, length-append us (w ∷ []), has) in
          let size : s.places ≡ t.places = ap (λ (u : Pages). u.places) e in (
            (omega (arith, long, is, at.0, at.1, size), λ le. absurd (omega (arith, le, is, at.0, at.1, size)), λ le. omega (arith, long, is), subst (IsPacked ss) (sym (ap (λ k. p - k) size ∙ after)) packed.3),
            (λ i. cut i ++ none i) ∙ append-nil (us ++ w ∷ []) ∙ ap (λ l. l ++ w ∷ []) (sym (append-nil us) ∙ ap (λ l. us ++ l) (sym none)),
          ),
    )
pop_place (t ∷ ss) n (suc j) r p s packed at is e =
    let on = pop_place ss (n - t.places) j r (p - t.places) s packed.3 at.1 (omega (arith, at.0, is)) e in (
      omega (arith, on.0),
      on.1,
      λ us w split. let did = on.2 us w split in (
        (packed.0, λ le. packed.1 (omega (arith, le, is)), λ le. packed.1 (omega (arith, at.0, is)) ∙ omega (arith, le, at.0), did.0),
        ap (λ l. t.pages ++ l) did.1 ∙ sym (append_assoc t.pages (all_pages (set ss j (with_pages s us))) (w ∷ [])),
      ),
    )

sizes_set : (ss : List Pages) (j : ℕ) (s t : Pages) → s ≡ get_or ss j s → t.places ≡ s.places → slab_sizes (set ss j t) ≡ slab_sizes ss
sizes_set [] j s t e same = refl
sizes_set (x ∷ ss) zero s t e same = ap (λ k. k ∷ slab_sizes ss) (same ∙ ap (λ (u : Pages). u.places) e)
sizes_set (x ∷ ss) (suc j) s t e same = ap (λ l. x.places ∷ l) (sizes_set ss j s t e same)

laid_more : (ss : List Pages) (s : Pages) (from to : ℕ) → AreLaid (slab_sizes ss) from to → s.places ≡ places_after to → AreLaid (slab_sizes (ss ++ s ∷ [])) from (to + s.places)
unfolding AreLaid
laid_more [] s from to laid is = (is ∙ ap places_after (sym laid), ap (λ k. k + s.places) laid)
laid_more (t ∷ ss) s from to laid is = (laid.0, laid_more ss s (from + t.places) to laid.1 is)

-- ---- the same of an arena, by place

module _ (ss : List Pages) (n m : ℕ) (arena : IsArena ss n m) where
  pub arena_len : length (all_pages ss) ≡ n
  arena_len = count_of ss n arena.packed

  pub arena_room : n ≤ m
  arena_room = omega (arith, within ss n 0 m arena.packed arena.laid)

  is_at : (place slab at : ℕ) → place < m → IsFound place slab at → IsAt (slab_sizes ss) slab at place
  is_at place slab at lt found = at_found (slab_sizes ss) 0 m 0 slab slab at place place arena.laid first_none (omega arith) (omega arith) lt found

  module _ (j : ℕ) (s t : Pages) (e : s ≡ get_or ss j s) (same : t.places ≡ s.places) where
    laid_set : AreLaid (slab_sizes (set ss j t)) 0 m
    laid_set = subst (λ l. AreLaid l 0 m) (sym (sizes_set ss j s t e same)) arena.laid

  module _ (place slab at : ℕ) (found : IsFound place slab at) (lt : place < length (all_pages ss)) where
    below : place < n
    below = omega (arith, lt, arena_len)

    there : IsAt (slab_sizes ss) slab at place
    there = is_at place slab at (omega (arith, below, arena_room)) found

    pub slab_there : slab < length ss
    slab_there = (at_place ss n slab at place (get_or ss slab (record { pages = []; places = 0 })) arena.packed there below (get_or_own ss slab _)).0

    module _ (s : Pages) (e : s ≡ get_or ss slab s) where
      lies : (slab < length ss) × (at < length s.pages) × (slice_get (all_pages ss) place ≡ slice_get s.pages at)
      lies = at_place ss n slab at place s arena.packed there below e

      pub page_within : at < length s.pages
      page_within = lies.1

      pub page_in_slab : slice_get (all_pages ss) place ≡ slice_get s.pages at
      page_in_slab = lies.2

      module _ (c : ℕ) (some : 0 < c) (fits : place + c ≤ length (all_pages ss)) (one : at + c ≤ places_after (places_before slab)) where
        last : IsFound (place + c - 1) slab (at + c - 1)
        last = record { is = omega (arith, found.is, some); small = omega (arith, some, one) }

        last_there : IsAt (slab_sizes ss) slab (at + c - 1) (place + c - 1)
        last_there = is_at (place + c - 1) slab (at + c - 1) (omega (arith, fits, some, arena_len, arena_room)) last

        pub run_within : at + c ≤ length s.pages
        run_within = let lies = at_place ss n slab (at + c - 1) (place + c - 1) s arena.packed last_there (omega (arith, fits, some, arena_len)) e in omega (arith, lies.1, some)

        pub run_in_slab : take c (drop place (all_pages ss)) ≡ take c (drop at s.pages)
        run_in_slab = run_place ss n slab at c place s arena.packed there below e run_within

      module _ (w : List ℕ) where
        did : IsPacked (set ss slab (with_pages s (set s.pages at w))) n × (all_pages (set ss slab (with_pages s (set s.pages at w))) ≡ set (all_pages ss) place w)
        did = set_place ss n slab at place s w arena.packed there below e

        pub arena_set : IsArena (set ss slab (with_pages s (set s.pages at w))) n m
        arena_set = record { packed = did.0; laid = laid_set slab s (with_pages s (set s.pages at w)) e refl; few = arena.few }

        pub pages_set : all_pages (set ss slab (with_pages s (set s.pages at w))) ≡ set (all_pages ss) place w
        pages_set = did.1

  module _ (slab at : ℕ) (found : IsFound n slab at) (room : 1 ≤ m - n) where
    spare_at : IsAt (slab_sizes ss) slab at n
    spare_at = is_at n slab at (omega (arith, room)) found

    pub slab_spare : slab < length ss
    slab_spare = (push_place ss n slab at (get_or ss slab (record { pages = []; places = 0 })) [] arena.packed spare_at (get_or_own ss slab _)).0

    module _ (s : Pages) (e : s ≡ get_or ss slab s) where
      pushed : (w : List ℕ) → (slab < length ss) × (length s.pages < s.places) × IsPacked (set ss slab (with_pages s (s.pages ++ w ∷ []))) (n + 1) × (all_pages (set ss slab (with_pages s (s.pages ++ w ∷ []))) ≡ all_pages ss ++ w ∷ [])
      pushed w = push_place ss n slab at s w arena.packed spare_at e

      pub spare_within : length s.pages < s.places
      spare_within = (pushed []).1

      module _ (w : List ℕ) (t : Pages) (more : t.pages ≡ s.pages ++ w ∷ []) (same : t.places ≡ s.places) where
        is_t : with_pages s (s.pages ++ w ∷ []) ≡ t
        is_t = λ i. record { pages = sym more i; places = sym same i }

        pub arena_pushed : IsArena (set ss slab t) (n + 1) m
        arena_pushed = record { packed = subst (λ (u : Pages). IsPacked (set ss slab u) (n + 1)) is_t (pushed w).2; laid = laid_set slab s t e same; few = arena.few }

        pub pages_pushed : all_pages (set ss slab t) ≡ all_pages ss ++ w ∷ []
        pages_pushed = ap (λ (u : Pages). all_pages (set ss slab u)) (sym is_t) ∙ (pushed w).3

  module _ (slab at : ℕ) (found : IsFound (n - 1) slab at) (some : 0 < length (all_pages ss)) where
    one : n - 1 + 1 ≡ n
    one = omega (arith, some, arena_len)

    last_at : IsAt (slab_sizes ss) slab at (n - 1)
    last_at = is_at (n - 1) slab at (omega (arith, one, arena_room)) found

    pub slab_last : slab < length ss
    slab_last = (pop_place ss n slab at (n - 1) (get_or ss slab (record { pages = []; places = 0 })) arena.packed last_at one (get_or_own ss slab _)).0

    module _ (s : Pages) (e : s ≡ get_or ss slab s) where
      popped : (slab < length ss) × (0 < length s.pages) × ((us : List (List ℕ)) (w : List ℕ) → s.pages ≡ us ++ w ∷ [] → IsPacked (set ss slab (with_pages s us)) (n - 1) × (all_pages ss ≡ all_pages (set ss slab (with_pages s us)) ++ w ∷ []))
      popped = pop_place ss n slab at (n - 1) s arena.packed last_at one e

      pub last_within : 0 < length s.pages
      last_within = popped.1

      module _ (w : List ℕ) (t : Pages) (split : s.pages ≡ t.pages ++ w ∷ []) (same : t.places ≡ s.places) where
        is_u : with_pages s t.pages ≡ t
        is_u = λ i. record { pages = t.pages; places = sym same i }

        pub arena_popped : IsArena (set ss slab t) (n - 1) m
        arena_popped = record { packed = subst (λ (u : Pages). IsPacked (set ss slab u) (n - 1)) is_u (popped.2 t.pages w split).0; laid = laid_set slab s t e same; few = arena.few }

        pub pages_popped : all_pages ss ≡ all_pages (set ss slab t) ++ w ∷ []
        pages_popped = (popped.2 t.pages w split).1 ∙ ap (λ (u : Pages). all_pages (set ss slab u) ++ w ∷ []) is_u

    pub room_popped : m - (n - 1) ≡ m - n + 1
    room_popped = omega (arith, one, arena_room)

  module _ (l : List Pages) (s : Pages) (items : l ≡ ss ++ s ∷ []) (none : s.pages ≡ []) where
    pub arena_more : m < 1073741824 → s.places ≡ min (m + 64) 16384 → IsArena l n (m + s.places)
    arena_more few size = subst (λ (l : List Pages). IsArena l n (m + s.places)) (sym items) (record { packed = (one_more ss n s arena.packed none).0; laid = laid_more ss s 0 m arena.laid size; few = omega (arith, few, size) })

    pub pages_more : all_pages l ≡ all_pages ss
    pages_more = ap all_pages items ∙ (one_more ss n s arena.packed none).1

pub arena_none : (l : List Pages) → l ≡ [] → IsArena l 0 0
unfolding IsPacked AreLaid
arena_none l e = subst (λ (l : List Pages). IsArena l 0 0) (sym e) (record { packed = refl; laid = refl; few = omega arith })

pub pages_none : (l : List Pages) → l ≡ [] → all_pages l ≡ []
unfolding all_pages
pages_none l e = ap all_pages e
