-- Each chunk is that of its number.
use Rattle.mig_legacy.proofs.Common.{le-ltb, lt-ltb}
use Rattle.std.proofs.Common.{ne_eqb, subst}
use Rattle.mig_legacy.proofs.ChunkCommon.{◌≡◌, ℕ, ◌<◌, ◌≤◌, Bool, true, false, List, [], ◌∷◌, nat_eq, cond, Some, Ok, refl, ap, ◌∙◌, arith, eqb-true, AllByRecursion, negative, param_chunks, second_of, IsParamChunk, IsNumberOf, kind_of, NumbersHaveKinds, IsWithinLimits, ChunkKind, End, Batch, VcpuMap, Tsc, LastCheckpoint, Toolstack, Param}

batch_kind : (number : ℕ) → 0 < number → number ≤ 1024 → kind_of number ≡ Ok (Batch number)
unfolding kind_of
batch_kind number some few = rw (ne_eqb number 0 (λ none. omega (arith, some, none)), lt-ltb number 2147483648 (omega (arith, few)), le-ltb 1024 number few) refl

-- a parameter's chunk is that of its number, and its index is small
abbrev IsSound : ℕ → ℕ → Type 0
IsSound index number = (kind_of number ≡ Ok (Param index)) × (index < 4096)

rows_sound : (rows : List (ℕ × ℕ)) → AllByRecursion (λ row. IsSound row.0 (negative row.1)) rows → (index number : ℕ) → IsParamChunk (second_of index rows) number → IsSound index number
rows_sound [] all index number h = absurd h
rows_sound (row ∷ rows) all index number h = by (nat_eq row.0 index) refl (rows_sound rows all.1 index number) h
  where
    by : (b : Bool) → nat_eq row.0 index ≡ b → (IsParamChunk (second_of index rows) number → IsSound index number) → IsParamChunk (cond b (Some row.1) (second_of index rows)) number → IsSound index number
    by true e others h = let is = eqb-true row.0 index e in (ap kind_of h ∙ all.0.0 ∙ ap (λ k. Ok (Param k)) is, subst (λ k. k < 4096) is all.0.1)
    by false e others h = others h

table_sound : AllByRecursion (λ (row : ℕ × ℕ). IsSound row.0 (negative row.1)) param_chunks
unfolding kind_of
table_sound = ((refl, omega arith), ((refl, omega arith), ((refl, omega arith), ((refl, omega arith), ((refl, omega arith), ((refl, omega arith), ((refl, omega arith), ((refl, omega arith), ((refl, omega arith), ((refl, omega arith), ((refl, omega arith), tt)))))))))))

pub numbers_have_kinds : NumbersHaveKinds
unfolding kind_of
numbers_have_kinds End number h = rw h refl
numbers_have_kinds (Batch count) number (is, some, few) = rw is (batch_kind count some few)
numbers_have_kinds VcpuMap number h = rw h refl
numbers_have_kinds Tsc number h = rw h refl
numbers_have_kinds LastCheckpoint number h = rw h refl
numbers_have_kinds Toolstack number h = rw h refl
numbers_have_kinds (Param index) number h = (rows_sound param_chunks table_sound index number h).0

-- ---- what a chunk's number limits

pub sound_kind : (kind : ChunkKind) (number : ℕ) → IsNumberOf kind number → IsWithinLimits kind
sound_kind (Batch n) number is = is.2
sound_kind (Param index) number is = (rows_sound param_chunks table_sound index number is).1
sound_kind _ number is = tt
