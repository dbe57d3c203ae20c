-- Names and their bytes.
use Rattle.mig_legacy.proofs.ChunkCommon.{◌≡◌, ℕ, suc, ◌+◌, ◌<◌, Bool, true, false, not, List, [], ◌∷◌, ◌++◌, length, take, nat_eq, cond, Option, Some, None, refl, sym, ap, subst, ◌∙◌, arith, length-append, ◌||◌, All, prefix_len, position_or_len, take-append_seam, common_steps, All-nil, All-cons, All-head, All-tail, name_bytes, IsName, is_name, name_in}

abbrev not_zero : ℕ → Bool
not_zero b = not (nat_eq b 0)

passes : (b : ℕ) → 0 < b → not_zero b ≡ true
passes b h = grind (arith, common_steps)

positive : (b : ℕ) → not_zero b ≡ true → 0 < b
positive b h = grind (arith, common_steps)

is_zero : (b : ℕ) → not_zero b ≡ false → b ≡ 0
is_zero b h = grind (arith, common_steps)

ends_at : (name : List ℕ) → All (λ b. 0 < b) name → prefix_len not_zero (name ++ 0 ∷ []) ≡ length name
ends_at [] h = refl
ends_at (b ∷ bs) h = rw (passes b (All-head (λ b. 0 < b) b bs h)) (omega (arith, ends_at bs (All-tail (λ b. 0 < b) b bs h)))

last_one : (at len : ℕ) → len ≡ at + 1 → ((nat_eq len 0) || nat_eq (at + 1) len) ≡ true
last_one at len e = grind (arith, common_steps)

len_named : (name : List ℕ) → length (name ++ 0 ∷ []) ≡ length name + 1
len_named name = length-append name (0 ∷ [])

pub name_passes : (name : Option (List ℕ)) → IsName name → is_name (name_bytes name) ≡ true
name_passes None h = refl
name_passes (Some name) h = last_one (position_or_len (λ b. nat_eq b 0) (name ++ 0 ∷ [])) (length (name ++ 0 ∷ [])) (len_named name ∙ ap (λ n. n + 1) (sym (ends_at name h)))

pub name_found : (name : Option (List ℕ)) → name_in (name_bytes name) ≡ name
name_found None = refl
name_found (Some []) = refl
name_found (Some (b ∷ bs)) =
    let long : length (bs ++ 0 ∷ []) ≡ length (b ∷ bs) = len_named bs ∙ omega arith in
    ap (λ n. Some (take n (b ∷ (bs ++ 0 ∷ [])))) long ∙ ap Some (take-append_seam (b ∷ bs) (0 ∷ []))

abbrev Closed : List ℕ → ℕ → Type 0
Closed x n = (take n x ++ 0 ∷ [] ≡ x) × All (λ b. 0 < b) (take n x)

closed : (x : List ℕ) → prefix_len not_zero x + 1 ≡ length x → Closed x (prefix_len not_zero x)
closed [] h = absurd (omega (arith, h))
closed (b ∷ bs) h = by (not_zero b) refl (closed bs) h
  where
    nothing : (bs : List ℕ) → 0 + 1 ≡ suc (length bs) → bs ≡ []
    nothing [] h = refl
    nothing (c ∷ cs) h = absurd (omega (arith, h))

    by : (t : Bool) → not_zero b ≡ t → (prefix_len not_zero bs + 1 ≡ length bs → Closed bs (prefix_len not_zero bs)) → cond t (1 + prefix_len not_zero bs) 0 + 1 ≡ length (b ∷ bs) → Closed (b ∷ bs) (cond t (1 + prefix_len not_zero bs) 0)
    by true e rest h =
        let (same, all) = rest (omega (arith, h)) in
        let on : suc (prefix_len not_zero bs) ≡ 1 + prefix_len not_zero bs = omega arith in
        subst (Closed (b ∷ bs)) on (ap (λ l. b ∷ l) same, All-cons (λ b. 0 < b) b (take (prefix_len not_zero bs) bs) (positive b e) all)
    by false e rest h = (ap (λ c. c ∷ []) (sym (is_zero b e)) ∙ ap (λ l. b ∷ l) (sym (nothing bs h)), All-nil (λ b. 0 < b))

one_of : (len at : ℕ) → ((nat_eq (suc len) 0) || nat_eq (at + 1) (suc len)) ≡ true → at ≡ len
one_of len at h = grind (arith, common_steps)

pub name_spelled : (x : List ℕ) → is_name x ≡ true → (name_bytes (name_in x) ≡ x) × IsName (name_in x)
name_spelled [] h = (refl, tt)
name_spelled (b ∷ bs) h =
    let at = one_of (length bs) (position_or_len (λ b. nat_eq b 0) (b ∷ bs)) h in
    subst (Closed (b ∷ bs)) at (closed (b ∷ bs) (ap (λ n. n + 1) at ∙ omega arith))
