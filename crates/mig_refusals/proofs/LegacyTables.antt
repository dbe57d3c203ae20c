-- The tables of causes of a legacy stream have the causes that stand in words.
use Rattle.mig_refusals.proofs.Common.{◌≡◌, inl, inr, ℕ, ◌-◌, ◌^◌, ◌<◌, ◌≤◌, Bool, true, false, cond, nat_lt, List, [], ◌∷◌, ◌++◌, Option, Some, None, refl, ap, sym, subst, arith, le-ltb, lt-ltb, ltb-true, ltb-false, EmulatorsOf, computed, option_map, both_ways, LegacyCause, ChunkKind, toolstack_fault, spelled_with}
use Rattle.mig_bytes_form.specs.Tests.Test.{Less}
use Rattle.mig_headers.specs.declared.legacy_fault.LegacyCause.TheVariants as causes
use Rattle.mig_legacy.specs.declared.chunk.ChunkKind.TheVariants.{End, Batch, VcpuMap, Tsc, LastCheckpoint, Toolstack, Param}
use Rattle.mig_legacy.specs.Chunks.{negative, negative_causes, number_causes}
use Rattle.mig_legacy.specs.Legacy.{LegacyChunk, is_end, store_key}
use Rattle.mig_legacy.specs.LegacyForm.{length_causes, max_causes, pairs_of_toolstack, place_causes, signature_causes, start_causes, toolstack_causes}
use Rattle.mig_refusals.specs.LegacyTables.{LegacyStartHas, LegacyNumberHas, LegacyPlaceHas, LegacyMaxHas, LegacyLengthHas, LegacyToolstackHas, LegacySignatureHas, LegacyTablesSay}
use Rattle.mig_refusals.specs.LegacyTables.LegacyStartHas.{image_marker, libxl_ident, upper_half}
use Rattle.mig_refusals.specs.LegacyTables.LegacyNumberHas.{minus_1, minus_5, minus_6, minus_12, minus_13, minus_more, long_batch}
use Rattle.mig_refusals.specs.LegacyTables.LegacyPlaceHas.{unpaired, many_chunks, many_frames}
use Rattle.mig_refusals.specs.LegacyTables.LegacyMaxHas.{large_id}
use Rattle.mig_refusals.specs.LegacyTables.LegacyLengthHas.{long_body}
use Rattle.mig_refusals.specs.LegacyTables.LegacyToolstackHas.{wrong_field, many_pairs}
use Rattle.mig_refusals.specs.LegacyTables.LegacySignatureHas.{other_signature}
use Rattle.mig_refusals.proofs.AnyRow.{AnyRow, any_row, row_any}
use Rattle.mig_refusals.proofs.LegacyCauses.{computed_stand, tests_say}

-- ---- the start

start_words : (bytes : List ℕ) (c : LegacyCause) → AnyRow (start_causes bytes) c → LegacyStartHas bytes c
start_words bytes c (inl is) = subst (LegacyStartHas bytes) is.1 (elim is.0 [ inl e ↦ image_marker e | inr e ↦ libxl_ident e ])
start_words bytes c (inr (inl is)) = subst (LegacyStartHas bytes) is.1 (upper_half is.0)
start_words bytes c (inr (inr none)) = absurd none

start_row : (bytes : List ℕ) (c : LegacyCause) → LegacyStartHas bytes c → AnyRow (start_causes bytes) c
start_row bytes _ (image_marker e) = inl (inl e, refl)
start_row bytes _ (libxl_ident e) = inl (inr e, refl)
start_row bytes _ (upper_half ne) = inr (inl (ne, refl))

-- ---- the type of a chunk

negative_words : (number : ℕ) (c : LegacyCause) → number < 2 ^ 32 → 2 ^ 31 ≤ number → AnyRow (negative_causes (negative number)) c → LegacyNumberHas number c
negative_words number c small high (inl is) = let e = is.0 in subst (LegacyNumberHas number) is.1 (minus_1 (omega (arith, small, e)))
negative_words number c small high (inr (inl is)) = subst (LegacyNumberHas number) is.1 (elim is.0 [ inl e ↦ minus_5 (omega (arith, small, e)) | inr e ↦ minus_6 (omega (arith, small, e)) ])
negative_words number c small high (inr (inr (inl is))) = subst (LegacyNumberHas number) is.1 (elim is.0 [ inl e ↦ minus_12 (omega (arith, small, e)) | inr e ↦ minus_13 (omega (arith, small, e)) ])
negative_words number c small high (inr (inr (inr (inl is)))) =
    subst (LegacyNumberHas number) is.1 (elim is.0 [ inl lt ↦ absurd (omega (arith, small, lt)) | inr lt ↦ minus_more (2 ^ 32 - number) lt (omega (arith, high)) (omega (arith, small)) ])
negative_words number c small high (inr (inr (inr (inr none)))) = absurd none

batch_words : (number : ℕ) (c : LegacyCause) → number < 2 ^ 31 → (1024 < number) × (causes.BatchTooLarge number ≡ c) → LegacyNumberHas number c
batch_words number c low is = subst (LegacyNumberHas number) is.1 (long_batch is.0 low)

abbrev rows_by : ℕ → Bool → LegacyCause → Type 0
rows_by number low c = AnyRow (cond low ((Less 1024 number, causes.BatchTooLarge number) ∷ []) (negative_causes (negative number))) c

number_words : (number : ℕ) (c : LegacyCause) → number < 2 ^ 32 → (low : Bool) → nat_lt number (2 ^ 31) ≡ low → rows_by number low c → LegacyNumberHas number c
number_words number c small true is (inl row) = batch_words number c (ltb-true number (2 ^ 31) is) row
number_words number c small true is (inr none) = absurd none
number_words number c small false is any = negative_words number c small (ltb-false number (2 ^ 31) is) any

negative_row : (number : ℕ) (c : LegacyCause) → 2 ^ 31 ≤ number → AnyRow (negative_causes (negative number)) c → rows_by number (nat_lt number (2 ^ 31)) c
negative_row number c high any = subst (λ b. rows_by number b c) (sym (le-ltb number (2 ^ 31) high)) any

number_row : (number : ℕ) (c : LegacyCause) → LegacyNumberHas number c → rows_by number (nat_lt number (2 ^ 31)) c
number_row number _ (minus_1 e) = negative_row number causes.VerifyOrPv (omega (arith, e)) (inl (omega (arith, e), refl))
number_row number _ (minus_5 e) = negative_row number causes.Tmem (omega (arith, e)) (inr (inl (inl (omega (arith, e)), refl)))
number_row number _ (minus_6 e) = negative_row number causes.Tmem (omega (arith, e)) (inr (inl (inr (omega (arith, e)), refl)))
number_row number _ (minus_12 e) = negative_row number causes.Compressed (omega (arith, e)) (inr (inr (inl (inl (omega (arith, e)), refl))))
number_row number _ (minus_13 e) = negative_row number causes.Compressed (omega (arith, e)) (inr (inr (inl (inr (omega (arith, e)), refl))))
number_row number _ (minus_more n more most e) =
    let is : negative number ≡ n = omega (arith, most, e) in
    negative_row number (causes.UnknownChunk n) (omega (arith, most, e)) (inr (inr (inr (inl (inr (omega (arith, more, most, e)), ap causes.UnknownChunk is)))))
number_row number _ (long_batch long low) = subst (λ b. rows_by number b (causes.BatchTooLarge number)) (sym (lt-ltb number (2 ^ 31) low)) (inl (long, refl))

-- ---- the place of a chunk

end_is : (kind : ChunkKind) → is_end kind ≡ true → kind ≡ End
end_is End is = refl
end_is (Batch n) is = absurd (both_ways _ refl is)
end_is VcpuMap is = absurd (both_ways _ refl is)
end_is Tsc is = absurd (both_ways _ refl is)
end_is LastCheckpoint is = absurd (both_ways _ refl is)
end_is Toolstack is = absurd (both_ways _ refl is)
end_is (Param n) is = absurd (both_ways _ refl is)

place_words : (chunks : List LegacyChunk) (kind : ChunkKind) (c : LegacyCause) → AnyRow (place_causes chunks kind) c → LegacyPlaceHas chunks kind c
place_words chunks kind c (inl is) = subst (LegacyPlaceHas chunks kind) is.1 (unpaired (end_is kind is.0.0) ((tests_say.unpaired chunks).0 is.0.1))
place_words chunks kind c (inr (inl is)) = subst (LegacyPlaceHas chunks kind) is.1 (many_chunks is.0)
place_words chunks kind c (inr (inr (inl is))) = subst (LegacyPlaceHas chunks kind) is.1 (many_frames (end_is kind is.0.0) (subst (λ n. 2 ^ 24 < n) (tests_say.frames chunks) is.0.1))
place_words chunks kind c (inr (inr (inr none))) = absurd none

place_row : (chunks : List LegacyChunk) (kind : ChunkKind) (c : LegacyCause) → LegacyPlaceHas chunks kind c → AnyRow (place_causes chunks kind) c
place_row chunks kind _ (unpaired last unlike) = inl ((ap is_end last, (tests_say.unpaired chunks).1 unlike), refl)
place_row chunks kind _ (many_chunks many) = inr (inl (many, refl))
place_row chunks kind _ (many_frames last many) = inr (inr (inl ((ap is_end last, subst (λ n. 2 ^ 24 < n) (sym (tests_say.frames chunks)) many), refl)))

-- ---- bodies

max_words : (bytes : List ℕ) (c : LegacyCause) → AnyRow (max_causes bytes) c → LegacyMaxHas bytes c
max_words bytes c (inl is) = subst (LegacyMaxHas bytes) is.1 (large_id is.0)
max_words bytes c (inr none) = absurd none

max_row : (bytes : List ℕ) (c : LegacyCause) → LegacyMaxHas bytes c → AnyRow (max_causes bytes) c
max_row bytes _ (large_id large) = inl (large, refl)

length_words : (most : ℕ) (bytes : List ℕ) (c : LegacyCause) → AnyRow (length_causes most bytes) c → LegacyLengthHas most bytes c
length_words most bytes c (inl is) = subst (LegacyLengthHas most bytes) is.1 (long_body is.0)
length_words most bytes c (inr none) = absurd none

length_row : (most : ℕ) (bytes : List ℕ) (c : LegacyCause) → LegacyLengthHas most bytes c → AnyRow (length_causes most bytes) c
length_row most bytes _ (long_body long) = inl (long, refl)

module _ (e : EmulatorsOf) (body : List ℕ) where
  abbrev rows_of : Option ℕ → LegacyCause → Type 0
  rows_of fault c = AnyRow (computed (option_map causes.BadToolstack fault) ++ (Less (2 ^ 24) (spelled_with e store_key (pairs_of_toolstack body)), causes.TooManyPairs) ∷ []) c

  toolstack_words : (c : LegacyCause) (fault : Option ℕ) → toolstack_fault body ≡ fault → rows_of fault c → LegacyToolstackHas e body c
  toolstack_words c None is (inl row) = subst (LegacyToolstackHas e body) row.1 (many_pairs row.0)
  toolstack_words c None is (inr none) = absurd none
  toolstack_words c (Some offset) is (inl row) = subst (LegacyToolstackHas e body) row.1 (wrong_field offset ((computed_stand.toolstack body offset).0 is))
  toolstack_words c (Some offset) is (inr (inl row)) = subst (LegacyToolstackHas e body) row.1 (many_pairs row.0)
  toolstack_words c (Some offset) is (inr (inr none)) = absurd none

  pairs_row : (fault : Option ℕ) → 2 ^ 24 < spelled_with e store_key (pairs_of_toolstack body) → rows_of fault causes.TooManyPairs
  pairs_row None many = inl (many, refl)
  pairs_row (Some offset) many = inr (inl (many, refl))

  toolstack_row : (c : LegacyCause) → LegacyToolstackHas e body c → rows_of (toolstack_fault body) c
  toolstack_row _ (wrong_field offset wrong) = subst (λ fault. rows_of fault (causes.BadToolstack offset)) (sym ((computed_stand.toolstack body offset).1 wrong)) (inl (refl, refl))
  toolstack_row _ (many_pairs many) = pairs_row (toolstack_fault body) many

signature_words : (bytes : List ℕ) (c : LegacyCause) → AnyRow (signature_causes bytes) c → LegacySignatureHas bytes c
signature_words bytes c (inl is) = subst (LegacySignatureHas bytes) is.1 (other_signature (λ same. is.0 ((tests_say.signature_is bytes).1 same)))
signature_words bytes c (inr none) = absurd none

signature_row : (bytes : List ℕ) (c : LegacyCause) → LegacySignatureHas bytes c → AnyRow (signature_causes bytes) c
signature_row bytes _ (other_signature other) = inl ((λ same. other ((tests_say.signature_is bytes).0 same)), refl)

-- ---- the tables

pub tables_say : LegacyTablesSay
tables_say = record {
  in_start = λ bytes c. ((λ has. start_words bytes c (any_row (start_causes bytes) c has)), (λ has. row_any (start_causes bytes) c (start_row bytes c has)));
  in_number = λ number c small. ((λ has. number_words number c small (nat_lt number (2 ^ 31)) refl (any_row (number_causes number) c has)), (λ has. row_any (number_causes number) c (number_row number c has)));
  in_place = λ chunks kind c. ((λ has. place_words chunks kind c (any_row (place_causes chunks kind) c has)), (λ has. row_any (place_causes chunks kind) c (place_row chunks kind c has)));
  in_max = λ bytes c. ((λ has. max_words bytes c (any_row (max_causes bytes) c has)), (λ has. row_any (max_causes bytes) c (max_row bytes c has)));
  in_length = λ most bytes c. ((λ has. length_words most bytes c (any_row (length_causes most bytes) c has)), (λ has. row_any (length_causes most bytes) c (length_row most bytes c has)));
  in_toolstack = λ e body c. ((λ has. toolstack_words e body c (toolstack_fault body) refl (any_row (toolstack_causes e body) c has)), (λ has. row_any (toolstack_causes e body) c (toolstack_row e body c has)));
  in_signature = λ bytes c. ((λ has. signature_words bytes c (any_row (signature_causes bytes) c has)), (λ has. row_any (signature_causes bytes) c (signature_row bytes c has)));
}
