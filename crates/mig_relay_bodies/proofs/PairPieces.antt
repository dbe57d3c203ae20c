-- Pairs that are judged byte by byte have the fault of the whole bytes.
use Rattle.mig_relay_bodies.proofs.Common.{◌≡◌, inl, ℕ, suc, ◌+◌, ◌<◌, true, false, not, List, [], ◌∷◌, ◌++◌, length, nat_eq, nat_lt, Option, Some, None, refl, sym, ap, ◌∙◌, arith, append_assoc, append-nil, length-append, common_steps, Pairs, no_bytes, then_byte, fault_in_pairs, torn_in}
use Rattle.std.proofs.Common.{◌⊎◌, inr, Bool, cond, eqb-true}
use Rattle.std.specs.Prelude.{◌||◌, fold}
use Rattle.std.specs.List.{AllByRecursion, onto_first}
use Rattle.std.proofs.lemmas.Option.{none-some}
use Rattle.mig_headers.specs.Pairs.{is_key_byte, texts_in}
use Rattle.mig_policy.specs.PairFaults.{torn_at, bad_key_at, fine_len, first_of, pairs_fault}
use Rattle.mig_policy.proofs.TextSteps.{some_texts, torn_cons}

-- an text text, and the texts whose first goes on with it
abbrev pub onto : List ℕ → List (List ℕ) → List (List ℕ)
onto text [] = []
onto text (t ∷ ts) = (text ++ t) ∷ ts

onto_nothing : (ts : List (List ℕ)) → onto [] ts ≡ ts
onto_nothing [] = refl
onto_nothing (t ∷ ts) = refl

onto_more : (text : List ℕ) (b : ℕ) (ts : List (List ℕ)) → 0 < length ts → onto text (onto_first b ts) ≡ onto (text ++ b ∷ []) ts
onto_more text b [] some = absurd (omega arith)
onto_more text b (t ∷ ts) some = ap (λ l. l ∷ ts) (sym (append_assoc text (b ∷ []) t))

-- the text that is text behind some bytes
pub record IsOpen (p : Pairs) (text : List ℕ) : Type 0 where
  pub at : p.at ≡ p.begins + length text

more_open : (p : Pairs) (text : List ℕ) (b : ℕ) → nat_eq b 0 ≡ false → IsOpen p text → IsOpen (then_byte p b) (text ++ b ∷ [])
more_open p text b goes is = record { at = rw goes (omega (arith, is.at, length-append text (b ∷ []))) }

none_open : (p : Pairs) (b : ℕ) → nat_eq b 0 ≡ true → IsOpen (then_byte p b) []
none_open p b zero = record { at = rw zero (omega arith) }

-- ---- a text that isn't ended

torn_now : (p : Pairs) (text : List ℕ) → IsOpen p text → torn_in p ≡ torn_at p.odd p.begins ((text ++ []) ∷ [])
torn_now p text is =
    let same : nat_lt p.begins p.at ≡ nat_lt 0 (length (text ++ [])) = rw (is.at, append-nil text) (shifted p.begins (length text)) in
    ap (λ b. cond (p.odd || b) (Some p.begins) None) same
  where
    shifted : (n m : ℕ) → nat_lt n (n + m) ≡ nat_lt 0 m
    shifted n m = grind (arith, common_steps)

abbrev Torn : List ℕ → Pairs → List ℕ → Type 0
Torn bytes p text = torn_in (fold then_byte p bytes) ≡ torn_at p.odd p.begins (onto text (texts_in bytes))

torn_more : (b : ℕ) (bs : List ℕ) (p : Pairs) (text : List ℕ) → ((q : Pairs) (t : List ℕ) → IsOpen q t → Torn bs q t) → IsOpen p text → (z : Bool) → nat_eq b 0 ≡ z → Torn (b ∷ bs) p text
torn_more b bs p text again is true zero =
    again (then_byte p b) [] (none_open p b zero)
    ∙ rw zero (ap (torn_at (not p.odd) (p.at + 1)) (onto_nothing (texts_in bs))
    ∙ ap (λ n. torn_at (not p.odd) n (texts_in bs)) (let e : p.at + 1 ≡ p.begins + length (text ++ []) + 1 = omega (arith, is.at, length-append text []) in e)
    ∙ sym (torn_cons p.odd p.begins (text ++ []) (texts_in bs) (some_texts bs)))
torn_more b bs p text again is false goes =
    again (then_byte p b) (text ++ b ∷ []) (more_open p text b goes is)
    ∙ rw goes (ap (torn_at p.odd p.begins) (sym (onto_more text b (texts_in bs) (some_texts bs))))

pub torn_is : (bytes : List ℕ) (p : Pairs) (text : List ℕ) → IsOpen p text → Torn bytes p text
torn_is [] p text is = torn_now p text is
torn_is (b ∷ bs) p text is = torn_more b bs p text (torn_is bs) is (nat_eq b 0) refl

-- ---- a bad key

abbrev AreFine : List ℕ → Type 0
AreFine text = AllByRecursion (λ b. is_key_byte b ≡ true) text

more_fine : (text : List ℕ) (b : ℕ) → AreFine text → is_key_byte b ≡ true → AreFine (text ++ b ∷ [])
more_fine [] b fine is = (is, tt)
more_fine (x ∷ text) b fine is = (fine.0, more_fine text b fine.1 is)

one_more : (n : ℕ) → 1 + n ≡ suc n
one_more n = omega arith

fine_before : (text : List ℕ) (b : ℕ) (t : List ℕ) → AreFine text → is_key_byte b ≡ false → fine_len ((text ++ b ∷ []) ++ t) ≡ length text
fine_before [] b t fine bad = rw bad refl
fine_before (x ∷ text) b t fine bad = rw fine.0 (ap (λ n. 1 + n) (fine_before text b t fine.1 bad) ∙ one_more (length text))

fine_whole : (text : List ℕ) → AreFine text → fine_len (text ++ []) ≡ length text
fine_whole [] fine = refl
fine_whole (x ∷ text) fine = rw fine.0 (ap (λ n. 1 + n) (fine_whole text fine.1) ∙ one_more (length text))

-- a fault that was found stays
found_stays : (bytes : List ℕ) (p : Pairs) (place : ℕ) → p.bad ≡ Some place → (fold then_byte p bytes).bad ≡ Some place
found_stays [] p place is = is
found_stays (b ∷ bs) p place is = found_stays bs (then_byte p b) place (rw is refl)

-- behind the first of some texts stand keys and values
abbrev behind_value : ℕ → List (List ℕ) → Option ℕ
behind_value at [] = None
behind_value at (value ∷ texts) = bad_key_at (at + length value + 1) texts

bad_here : (at n : ℕ) (key : List ℕ) (ts : List (List ℕ)) → 0 < length ts → fine_len key ≡ n → (length key ≡ 0) ⊎ (n < length key) → bad_key_at at (key ∷ ts) ≡ Some (at + n)
bad_here at n key [] some is bad = absurd (omega arith)
bad_here at n key (v ∷ ts) some is (inl empty) = rw (empty, is) refl
bad_here at n key (v ∷ ts) some is (inr less) = grind (arith, common_steps, is, less)

fine_here : (at : ℕ) (key : List ℕ) (ts : List (List ℕ)) → 0 < length ts → 0 < length key → fine_len key ≡ length key → bad_key_at at (key ∷ ts) ≡ behind_value (at + length key + 1) ts
fine_here at key [] some long fine = absurd (omega arith)
fine_here at key (v ∷ ts) some long fine =
    let not_none : nat_eq (length key) 0 ≡ false = grind (arith, common_steps, long) in
    let whole : nat_lt (fine_len key) (length key) ≡ false = grind (arith, common_steps, fine) in
    rw (not_none, whole) (ap (λ n. bad_key_at n ts) (let e : at + length key + length v + 2 ≡ at + length key + 1 + length v + 1 = omega arith in e))

-- a key behind which nothing stands is torn
not_alone : (at : ℕ) (key : List ℕ) (ts : List (List ℕ)) → 0 < length key → torn_at false at (key ∷ ts) ≡ None → 0 < length ts
not_alone at key [] long whole = absurd (none-some at (sym whole ∙ grind (arith, common_steps, long)))
not_alone at key (t ∷ ts) long whole = omega arith

-- what is found in texts of which the first is a key, or a value
abbrev keyed : Bool → ℕ → List (List ℕ) → Option ℕ
keyed true at texts = behind_value at texts
keyed false at texts = bad_key_at at texts

empty_here : (p : Pairs) (text : List ℕ) → IsOpen p text → nat_eq p.begins p.at ≡ true → text ≡ []
empty_here p [] is same = refl
empty_here p (x ∷ text) is same = absurd (omega (arith, is.at, eqb-true _ _ same))

filled_here : (p : Pairs) (text : List ℕ) → IsOpen p text → nat_eq p.begins p.at ≡ false → 0 < length text
filled_here p [] is other = absurd (grind (arith, common_steps, is.at, other))
filled_here p (x ∷ text) is other = omega arith

-- with nothing more
at_end : (odd : Bool) (at : ℕ) (text : List ℕ) → torn_at odd at (text ∷ []) ≡ None → None ≡ keyed odd at (text ∷ [])
at_end true at text whole = absurd (none-some at (sym whole))
at_end false at text whole = refl

abbrev Found : List ℕ → Pairs → List ℕ → Type 0
Found bytes p text = IsOpen p text → p.bad ≡ None → (p.odd ≡ false → AreFine text) → torn_at p.odd p.begins (onto text (texts_in bytes)) ≡ None → (fold then_byte p bytes).bad ≡ keyed p.odd p.begins (onto text (texts_in bytes))

module _ (b : ℕ) (bs : List ℕ) (again : (q : Pairs) (t : List ℕ) → Found bs q t) (p : Pairs) (text : List ℕ) (is : IsOpen p text) (none : p.bad ≡ None) (fine : p.odd ≡ false → AreFine text) (whole : torn_at p.odd p.begins (onto text (texts_in (b ∷ bs))) ≡ None) where
  abbrev Goal : Type 0
  Goal = (fold then_byte (then_byte p b) bs).bad ≡ keyed p.odd p.begins (onto text (texts_in (b ∷ bs)))

  zeros : nat_eq b 0 ≡ true → onto text (texts_in (b ∷ bs)) ≡ (text ++ []) ∷ texts_in bs
  zeros zero = rw zero refl

  others : nat_eq b 0 ≡ false → onto text (texts_in (b ∷ bs)) ≡ onto (text ++ b ∷ []) (texts_in bs)
  others goes = rw goes (onto_more text b (texts_in bs) (some_texts bs))

  -- a text ends here
  torn_behind : nat_eq b 0 ≡ true → torn_at (not p.odd) (p.at + 1) (texts_in bs) ≡ None
  torn_behind zero =
      ap (λ n. torn_at (not p.odd) n (texts_in bs)) (let e : p.at + 1 ≡ p.begins + length (text ++ []) + 1 = omega (arith, is.at, length-append text []) in e)
      ∙ sym (torn_cons p.odd p.begins (text ++ []) (texts_in bs) (some_texts bs)) ∙ ap (torn_at p.odd p.begins) (sym (zeros zero)) ∙ whole

  on : nat_eq b 0 ≡ true → (then_byte p b).bad ≡ None → (fold then_byte (then_byte p b) bs).bad ≡ keyed (not p.odd) (p.at + 1) (texts_in bs)
  on zero still =
      again (then_byte p b) [] (none_open p b zero) still (λ _. tt) (rw zero (ap (torn_at (not p.odd) (p.at + 1)) (onto_nothing (texts_in bs)) ∙ torn_behind zero))
      ∙ rw zero (ap (keyed (not p.odd) (p.at + 1)) (onto_nothing (texts_in bs)))

  value_ends : nat_eq b 0 ≡ true → p.odd ≡ true → Goal
  value_ends zero odd =
      on zero (rw (none, odd) refl)
      ∙ rw odd (ap (λ n. bad_key_at n (texts_in bs)) (let e : p.at + 1 ≡ p.begins + length (text ++ []) + 1 = omega (arith, is.at, length-append text []) in e)
      ∙ ap (behind_value p.begins) (sym (zeros zero)))

  key_ends : nat_eq b 0 ≡ true → p.odd ≡ false → (z : Bool) → nat_eq p.begins p.at ≡ z → Goal
  key_ends zero key true empty =
      let none_before = empty_here p text is empty in
      found_stays bs (then_byte p b) p.at (rw (none, key, zero, empty) refl)
      ∙ rw key (sym (ap (bad_key_at p.begins) (zeros zero) ∙ bad_here p.begins 0 (text ++ []) (texts_in bs) (some_texts bs) (rw none_before refl) (inl (rw none_before refl)) ∙ ap Some (omega (arith, is.at, ap length none_before))))
  key_ends zero key false filled =
      on zero (rw (none, key, zero, filled) refl)
      ∙ rw key (ap (λ n. behind_value n (texts_in bs)) (let e : p.at + 1 ≡ p.begins + length (text ++ []) + 1 = omega (arith, is.at, length-append text []) in e)
      ∙ sym (ap (bad_key_at p.begins) (zeros zero)
      ∙ fine_here p.begins (text ++ []) (texts_in bs) (some_texts bs) (omega (arith, length-append text [], filled_here p text is filled)) (fine_whole text (fine key) ∙ omega (arith, length-append text []))))

  further : nat_eq b 0 ≡ false → (then_byte p b).bad ≡ None → (p.odd ≡ false → AreFine (text ++ b ∷ [])) → Goal
  further goes still good =
      again (then_byte p b) (text ++ b ∷ []) (more_open p text b goes is) still (λ key. good (sym (rw goes refl) ∙ key)) (rw goes (ap (torn_at p.odd p.begins) (sym (others goes)) ∙ whole))
      ∙ rw goes (ap (keyed p.odd p.begins) (sym (onto_more text b (texts_in bs) (some_texts bs))))

  key_bad : nat_eq b 0 ≡ false → p.odd ≡ false → is_key_byte b ≡ false → Goal
  key_bad goes key bad = of_texts (texts_in bs) refl
    where
      of_texts : (ts : List (List ℕ)) → texts_in bs ≡ ts → Goal
      of_texts [] same = absurd (omega (arith, some_texts bs, ap length same))
      of_texts (t ∷ ts) same =
          let key_text = (text ++ b ∷ []) ++ t in
          let long : length text < length key_text = omega (arith, length-append (text ++ b ∷ []) t, length-append text (b ∷ [])) in
          let all : onto text (texts_in (b ∷ bs)) ≡ key_text ∷ ts = others goes ∙ ap (onto (text ++ b ∷ [])) same in
          found_stays bs (then_byte p b) p.at (rw (none, key, goes, bad) refl)
          ∙ rw key (sym (ap (bad_key_at p.begins) all
          ∙ bad_here p.begins (length text) key_text ts (not_alone p.begins key_text ts (omega (arith, long)) (ap (torn_at false p.begins) (sym all) ∙ ap (λ o. torn_at o p.begins (onto text (texts_in (b ∷ bs)))) (sym key) ∙ whole)) (fine_before text b t (fine key) bad) (inr long)
          ∙ ap Some (sym is.at)))

  by_key : nat_eq b 0 ≡ false → p.odd ≡ false → (z : Bool) → is_key_byte b ≡ z → Goal
  by_key goes key true good = further goes (rw (none, key, goes, good) refl) (λ _. more_fine text b (fine key) good)
  by_key goes key false bad = key_bad goes key bad

  by_odd : nat_eq b 0 ≡ false → (odd : Bool) → p.odd ≡ odd → Goal
  by_odd goes true odd = further goes (rw (none, odd) refl) (λ key. absurd (true_not (sym odd ∙ key)))
    where
      true_not : true ≡ false → ⊥
      true_not e = cc
  by_odd goes false key = by_key goes key (is_key_byte b) refl

  by_end : nat_eq b 0 ≡ true → (odd : Bool) → p.odd ≡ odd → Goal
  by_end zero true odd = value_ends zero odd
  by_end zero false key = key_ends zero key (nat_eq p.begins p.at) refl

  by : (z : Bool) → nat_eq b 0 ≡ z → Goal
  by true zero = by_end zero p.odd refl
  by false goes = by_odd goes p.odd refl

pub bad_is : (bytes : List ℕ) (p : Pairs) (text : List ℕ) → Found bytes p text
bad_is [] p text is none fine whole = none ∙ at_end p.odd p.begins (text ++ []) whole
bad_is (b ∷ bs) p text is none fine whole = by b bs (bad_is bs) p text is none fine whole (nat_eq b 0) refl

pub pairs_are : (bytes : List ℕ) → fault_in_pairs (fold then_byte no_bytes bytes) ≡ pairs_fault bytes
unfolding pairs_fault
pairs_are bytes = by (torn_at false 0 (texts_in bytes)) refl
  where
    torn : torn_in (fold then_byte no_bytes bytes) ≡ torn_at false 0 (texts_in bytes)
    torn = torn_is bytes no_bytes [] (record { at = refl }) ∙ ap (torn_at false 0) (onto_nothing (texts_in bytes))

    by : (t : Option ℕ) → torn_at false 0 (texts_in bytes) ≡ t → fault_in_pairs (fold then_byte no_bytes bytes) ≡ first_of (torn_at false 0 (texts_in bytes)) (bad_key_at 0 (texts_in bytes))
    by (Some place) is = rw (torn, is) refl
    by None is =
        ap (first_of (torn_in (fold then_byte no_bytes bytes))) (bad_is bytes no_bytes [] (record { at = refl }) refl (λ _. tt) (ap (torn_at false 0) (onto_nothing (texts_in bytes)) ∙ is) ∙ ap (bad_key_at 0) (onto_nothing (texts_in bytes)))
        ∙ ap (λ t. first_of t (bad_key_at 0 (texts_in bytes))) torn
