-- One text after another is taken off the front of bytes.
use Rattle.mig_policy.proofs.Common.{◌≡◌, ℕ, ◌+◌, ◌-◌, ◌<◌, ◌≤◌, Bool, true, false, not, List, [], ◌∷◌, ◌++◌, eqb-true, length, drop, nat_eq, nat_lt, cond, Option, Some, None, refl, sym, ap, ◌∙◌, arith, ◌||◌, common_steps, slice_split_none, fails_before_first, prefix_len-le-length, texts_in, torn_at, bad_key_at, fine_len, pairs_of, take, IfNone, position, position_or_len, slice_split_first, length-slice_split, split_at_first, passes_at_first}
use Rattle.mig_policy.specs.PairMaps.{pairs_in}

abbrev pub is_zero : ℕ → Bool
is_zero b = nat_eq b 0

-- what holds anyway holds where there is no value
pub if_none : {X : Type 0} {P : Type 0} (r : Option X) → P → IfNone r P
if_none None p = p
if_none (Some x) p = tt

nowhere : (n m : ℕ) → cond (nat_lt n m) (Some n) None ≡ None → m ≤ n
nowhere n m h = grind (arith, common_steps)

pub somewhere : (n m i : ℕ) → cond (nat_lt n m) (Some n) None ≡ Some i → (n < m) × (n ≡ i)
somewhere n m i h = grind (arith, common_steps)

pub last_text : (bytes : List ℕ) → None ≡ position is_zero bytes → texts_in bytes ≡ bytes ∷ []
last_text bytes h = slice_split_none is_zero bytes (λ k d less. fails_before_first is_zero bytes k d (omega (arith, nowhere (position_or_len is_zero bytes) (length bytes) (sym h), less)))

all_behind : (bytes : List ℕ) (n : ℕ) → drop n bytes ≡ take (length bytes - n) (drop n bytes)
all_behind bytes n = grind (arith, common_steps)

pub first_text : (bytes : List ℕ) (end : ℕ) → Some end ≡ position is_zero bytes → texts_in bytes ≡ take end bytes ∷ texts_in (take (length bytes - (end + 1)) (drop (end + 1) bytes))
first_text bytes end h =
    let (less, at) = somewhere (position_or_len is_zero bytes) (length bytes) end (sym h) in
    slice_split_first is_zero bytes 0 less ∙ ap (λ n. take n bytes ∷ texts_in (drop (n + 1) bytes)) at ∙ ap (λ t. take end bytes ∷ texts_in t) (all_behind bytes (end + 1))

is_nil : (n : ℕ) → is_zero n ≡ true → n ≡ 0
is_nil n h = eqb-true n 0 h

pub text_parts : (bytes : List ℕ) (end : ℕ) → Some end ≡ position is_zero bytes → bytes ≡ take end bytes ++ 0 ∷ take (length bytes - (end + 1)) (drop (end + 1) bytes)
text_parts bytes end h =
    let (less, at) = somewhere (position_or_len is_zero bytes) (length bytes) end (sym h) in
    split_at_first is_zero bytes 0 less ∙ ap (λ b. take (position_or_len is_zero bytes) bytes ++ b ∷ drop (position_or_len is_zero bytes + 1) bytes) (is_nil _ (passes_at_first is_zero bytes 0 less))
    ∙ ap (λ n. take n bytes ++ 0 ∷ drop (n + 1) bytes) at ∙ ap (λ t. take end bytes ++ 0 ∷ t) (all_behind bytes (end + 1))

-- ---- allowed bytes

pub at_first : (p : ℕ → Bool) (key : List ℕ) (i : ℕ) → Some i ≡ position p key → i ≡ position_or_len p key
at_first p key i h = sym (somewhere (position_or_len p key) (length key) i (sym h)).1

pub at_no : (p : ℕ → Bool) (key : List ℕ) → None ≡ position p key → length key ≡ position_or_len p key
at_no p key h = omega (arith, nowhere (position_or_len p key) (length key) (sym h), prefix_len-le-length (λ x. not (p x)) key)

-- ---- one text less

pub some_texts : (bytes : List ℕ) → 0 < length (texts_in bytes)
some_texts bytes = omega (arith, length-slice_split is_zero bytes)

pub torn_cons : (odd : Bool) (at : ℕ) (text : List ℕ) (ts : List (List ℕ)) → 0 < length ts → torn_at odd at (text ∷ ts) ≡ torn_at (not odd) (at + length text + 1) ts
torn_cons odd at text [] some = absurd (omega arith)
torn_cons odd at text (t ∷ ts) some = refl

pub pairs_cons : (key value : List ℕ) (ts : List (List ℕ)) → 0 < length ts → pairs_of (key ∷ value ∷ ts) ≡ record { key = key; value = value } ∷ pairs_of ts
pairs_cons key value [] some = absurd (omega arith)
pairs_cons key value (t ∷ ts) some = refl

further : (n r t b : ℕ) → t + b + 1 ≡ r → r ≤ n → (n - r) + t + 1 ≡ n - b
further n r t b e w = omega arith

pub torn_step : (n : ℕ) (odd : Bool) (rest text behind : List ℕ) → texts_in rest ≡ text ∷ texts_in behind → length text + length behind + 1 ≡ length rest → length rest ≤ n
    → torn_at odd (n - length rest) (texts_in rest) ≡ torn_at (not odd) (n - length behind) (texts_in behind)
torn_step n odd rest text behind cut len within =
    ap (torn_at odd (n - length rest)) cut ∙ torn_cons odd (n - length rest) text (texts_in behind) (some_texts behind)
    ∙ ap (λ at. torn_at (not odd) at (texts_in behind)) (further n (length rest) (length text) (length behind) len within)

pub bad_step : (n : ℕ) (rest key behind value next : List ℕ) → texts_in rest ≡ key ∷ texts_in behind → texts_in behind ≡ value ∷ texts_in next
    → length key + length behind + 1 ≡ length rest → length value + length next + 1 ≡ length behind → length rest ≤ n
    → ((nat_eq (length key) 0) || nat_lt (fine_len key) (length key)) ≡ false
    → bad_key_at (n - length rest) (texts_in rest) ≡ bad_key_at (n - length next) (texts_in next)
bad_step n rest key behind value next first second len1 len2 within fine =
    let at : ((n - length rest) + length key + length value + 2 ≡ n - length next) = omega arith in
    rw (first, second, fine) (ap (λ k. bad_key_at k (texts_in next)) at)

pub bad_here : (at : ℕ) (rest key behind : List ℕ) → texts_in rest ≡ key ∷ texts_in behind → ((nat_eq (length key) 0) || nat_lt (fine_len key) (length key)) ≡ true
    → bad_key_at at (texts_in rest) ≡ Some (at + fine_len key)
bad_here at rest key behind first bad = ap (bad_key_at at) first ∙ here (texts_in behind) (some_texts behind)
  where
    here : (ts : List (List ℕ)) → 0 < length ts → bad_key_at at (key ∷ ts) ≡ Some (at + fine_len key)
    here [] some = absurd (omega arith)
    here (t ∷ ts) some = ap (λ b. cond b (Some (at + fine_len key)) (bad_key_at (at + length key + length t + 2) ts)) bad

pub bad_last : (at : ℕ) (rest key behind : List ℕ) → texts_in rest ≡ key ∷ texts_in behind → texts_in behind ≡ behind ∷ [] → ((nat_eq (length key) 0) || nat_lt (fine_len key) (length key)) ≡ false
    → bad_key_at at (texts_in rest) ≡ None
bad_last at rest key behind first second fine = rw (first, second, fine) refl

pub pairs_step : (bytes key behind value rest : List ℕ) → texts_in bytes ≡ key ∷ texts_in behind → texts_in behind ≡ value ∷ texts_in rest
    → pairs_in bytes ≡ record { key = key; value = value } ∷ pairs_in rest
unfolding pairs_in
pairs_step bytes key behind value rest first second = ap pairs_of (first ∙ ap (λ ts. key ∷ ts) second) ∙ pairs_cons key value (texts_in rest) (some_texts rest)

pub pairs_none : (bytes : List ℕ) → texts_in bytes ≡ bytes ∷ [] → pairs_in bytes ≡ []
unfolding pairs_in
pairs_none bytes last = ap pairs_of last

pub pairs_half : (bytes key behind : List ℕ) → texts_in bytes ≡ key ∷ texts_in behind → texts_in behind ≡ behind ∷ [] → pairs_in bytes ≡ []
unfolding pairs_in
pairs_half bytes key behind first second = ap pairs_of (first ∙ ap (λ ts. key ∷ ts) second)
