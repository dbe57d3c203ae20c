-- Numbers written as 8 bytes each: what stands there is each number modulo 2^64.
use Rattle.mig_pvtables.proofs.Common.{◌≡◌, ℕ, zero, suc, ◌%◌, ◌^◌, ◌<◌, List, ◌++◌, ◌∷◌, [], refl, sym, ap, ◌∙◌, arith, long_at, each_long, long_of_longs, byte_at, little_bytes}
use Rattle.mig_guest.specs.Longs.{longs}

-- the low 8 bytes of a number are those of the number modulo 2^64
low_bytes : (x : ℕ) → little_bytes 8 (x % 2 ^ 64) ≡ little_bytes 8 x
low_bytes x =
    let a0 : byte_at 0 (x % 2 ^ 64) ≡ byte_at 0 x = omega arith in
    let a1 : byte_at 1 (x % 2 ^ 64) ≡ byte_at 1 x = omega arith in
    let a2 : byte_at 2 (x % 2 ^ 64) ≡ byte_at 2 x = omega arith in
    let a3 : byte_at 3 (x % 2 ^ 64) ≡ byte_at 3 x = omega arith in
    let a4 : byte_at 4 (x % 2 ^ 64) ≡ byte_at 4 x = omega arith in
    let a5 : byte_at 5 (x % 2 ^ 64) ≡ byte_at 5 x = omega arith in
    let a6 : byte_at 6 (x % 2 ^ 64) ≡ byte_at 6 x = omega arith in
    let a7 : byte_at 7 (x % 2 ^ 64) ≡ byte_at 7 x = omega arith in
    λ i. a0 i ∷ (a1 i ∷ (a2 i ∷ (a3 i ∷ (a4 i ∷ (a5 i ∷ (a6 i ∷ (a7 i ∷ [])))))))

same_bytes : (x y : ℕ) → x % 2 ^ 64 ≡ y % 2 ^ 64 → little_bytes 8 x ≡ little_bytes 8 y
same_bytes x y same = sym (low_bytes x) ∙ ap (little_bytes 8) same ∙ low_bytes y

-- numbers equal modulo 2^64 make equal bytes
pub longs_modulo : (n : ℕ) (f g : ℕ → ℕ) → ((i : ℕ) → i < n → f i % 2 ^ 64 ≡ g i % 2 ^ 64) → longs n f ≡ longs n g
unfolding longs
longs_modulo zero f g same = refl
longs_modulo (suc n) f g same =
    ap (λ l. l ++ little_bytes 8 (f n)) (longs_modulo n f g (λ i lt. same i (omega (arith, lt))))
    ∙ ap (λ l. longs n g ++ l) (same_bytes (f n) (g n) (same n (omega arith)))

-- the number that stands at a place once each was changed
pub long_of_each : (n : ℕ) (f : ℕ → ℕ → ℕ) (bytes : List ℕ) (i : ℕ) → i < n → long_at (each_long n f bytes) i ≡ f i (long_at bytes i) % 2 ^ 64
long_of_each n f bytes i lt =
    let g : ℕ → ℕ = λ j. f j (long_at bytes j) in
    ap (λ l. long_at l i) (longs_modulo n g (λ j. g j % 2 ^ 64) (λ j less. let e : g j % 2 ^ 64 ≡ g j % 2 ^ 64 % 2 ^ 64 = omega arith in e))
    ∙ long_of_longs n (λ j. g j % 2 ^ 64) i lt (let small : g i % 2 ^ 64 < 2 ^ 64 = omega arith in small)

-- changed twice alike is changed once, where that holds of each number modulo 2^64
pub each_modulo : (n : ℕ) (f : ℕ → ℕ → ℕ) (bytes : List ℕ) → ((i e : ℕ) → f i (f i e % 2 ^ 64) % 2 ^ 64 ≡ f i e % 2 ^ 64) → each_long n f (each_long n f bytes) ≡ each_long n f bytes
each_modulo n f bytes again =
    longs_modulo n _ _ (λ i lt. ap (λ v. f i v % 2 ^ 64) (long_of_each n f bytes i lt) ∙ again i (long_at bytes i))
