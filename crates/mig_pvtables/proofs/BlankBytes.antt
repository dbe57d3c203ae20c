-- Pages and parts in their blank form, as bytes written in place.
use Rattle.mig_pvtables.proofs.Common.{◌≡◌, ◌≢◌, ℕ, ◌+◌, ◌*◌, ◌/◌, ◌<◌, true, false, cond, List, ◌++◌, length, take, drop, refl, sym, ap, ◌∙◌, inl, inr, arith, get_or, Option, Some, None, field_at, field_place, is_marked, cases_lt, lit<, replicate, ◌==◌, ◌&&◌, nat_le, cases_eq, ne_eqb, eq-eqb, long_at, longs, blanked_table, each_stays, put_long, value_blanked, blanked_context, blanked_shared, little_bytes, le64, with_field, Bytes, bytes_from, drop-drop, longs_back, middle_zeroed}
use Rattle.std.proofs.lemmas.Bool.{lt-leb, le-leb}
use borrow.Rule.Slice.PartMut.{put_mid}
use Rattle.mig_guest.specs.Tables.{blanked_entry}
use Rattle.mig_pvtables.specs.VcpuContexts.{blanked_value, blanked_shared_value}
use Rattle.mig_pvtables.proofs.BlankSays.{place_field}

-- ---- tables

outside : (level slot e : ℕ) → (nat_le 256 slot && nat_le slot 271) ≡ false → blanked_entry level slot e ≡ e
unfolding blanked_entry
outside level slot e out = ap (λ b. cond ((level == 4) && b) 0 e) out ∙ none (level == 4)
  where
    none : (b : _) → cond (b && false) 0 e ≡ e
    none true = refl
    none false = refl

before : (slot e : ℕ) → slot < 256 → blanked_entry 4 slot e ≡ e
before slot e lt = outside 4 slot e (ap (λ b. b && nat_le slot 271) (lt-leb 256 slot lt))

inside : (slot e : ℕ) → slot < 16 → blanked_entry 4 (256 + slot) e ≡ 0
unfolding blanked_entry
inside slot e lt = (λ i. cond (le-leb 256 (256 + slot) (omega arith) i && le-leb (256 + slot) 271 (omega (arith, lt)) i) 0 e)

behind : (slot e : ℕ) → slot < 240 → blanked_entry 4 ((256 + 16) + slot) e ≡ e
behind slot e lt = outside 4 ((256 + 16) + slot) e ((λ i. le-leb 256 ((256 + 16) + slot) (omega arith) i && lt-leb ((256 + 16) + slot) 271 (omega arith) i))

pub level_4_blanked : (level : ℕ) (page zeros : List ℕ) → level ≡ 4 → ((i : ℕ) → get_or page i 0 < 256) → length page ≡ 4096 → zeros ≡ replicate 128 0 → put_mid 2048 128 page zeros ≡ blanked_table level page
level_4_blanked level page zeros four all size are =
    ap (λ z. take 2048 page ++ (z ++ drop 128 (drop 2048 page))) are ∙ ap (λ l. take 2048 page ++ (replicate 128 0 ++ l)) (drop-drop 128 2048 page)
    ∙ sym (middle_zeroed 256 16 240 (blanked_entry 4) page (bytes_from page all) size before inside behind)
    ∙ ap (λ n. blanked_table n page) (sym four)

other_level : (level slot e : ℕ) → level ≢ 4 → blanked_entry level slot e ≡ e
unfolding blanked_entry
other_level level slot e other = ap (λ b. cond (b && (nat_le 256 slot && nat_le slot 271)) 0 e) (ne_eqb level 4 other)

pub other_blanked : (level : ℕ) (page : List ℕ) → level ≢ 4 → ((i : ℕ) → get_or page i 0 < 256) → length page ≡ 4096 → page ≡ blanked_table level page
other_blanked level page other all size = sym (each_stays 512 (blanked_entry level) page (bytes_from page all) size (λ i lt. other_level level i (long_at page i) other))

-- ---- contexts

no_field : (i : ℕ) → i ≢ 626 → i ≢ 624 → (v : ℕ) → blanked_value i v ≡ v
unfolding blanked_value
no_field i root user v = by_case (field_at i) refl
  where
    by_case : (o : Option ℕ) → field_at i ≡ o → value_blanked o v ≡ v
    by_case None at = refl
    by_case (Some field) at =
        let (most, place) = place_field i field at in elim (cases_lt field 17) [
          | inl lt ↦ ap (λ t. cond t v (cond (field == 17) (v / 4096 * 4096) (cond (is_marked v) (v / 4096 * 4096 + 1) 0))) (le-leb field 16 (omega (arith, lt)))
          | inr ge ↦ elim (cases_eq field 17) [
            | inl e ↦ absurd (root (sym place ∙ ap field_place e))
            | inr ne ↦ let last : field ≡ 18 = omega (arith, ge, ne, most) in absurd (user (sym place ∙ ap field_place last))
          ]
        ]

root_is : (v : ℕ) → blanked_value 626 v ≡ v / 4096 * 4096
unfolding blanked_value
root_is v = refl

pub context_blanked : (context : List ℕ) (root user_root : ℕ) → Bytes context → length context ≡ 5168 → root ≡ le64 context 5008 / 4096 * 4096 → user_root ≡ blanked_value 624 (le64 context 4992)
    → with_field (with_field context 5008 (little_bytes 8 root)) 4992 (little_bytes 8 user_root) ≡ blanked_context context
context_blanked context root user_root all size is_root is_user =
    let bytes : context ≡ longs 646 (long_at context) = sym (longs_back 646 context all size) in let root_blanked : root ≡ blanked_value 626 (long_at context 626) = is_root ∙ sym (root_is (long_at context 626)) in
    (λ i. with_field (with_field (bytes i) 5008 (little_bytes 8 (root_blanked i))) 4992 (little_bytes 8 (is_user i)))
    ∙ ap (λ c. with_field c 4992 (little_bytes 8 (blanked_value 624 (long_at context 624)))) (put_long 646 (long_at context) between 626 (lit< tt) (λ j lt ne. sym (ap (λ b. cond b (blanked_value j (long_at context j)) (long_at context j)) (ne_eqb j 626 ne))))
    ∙ put_long 646 between (λ j. blanked_value j (long_at context j)) 624 (lit< tt) (λ j lt ne. elim (cases_eq j 626) [
      | inl e ↦ ap (λ b. cond b (blanked_value j (long_at context j)) (long_at context j)) (eq-eqb j 626 e)
      | inr other ↦ ap (λ b. cond b (blanked_value j (long_at context j)) (long_at context j)) (ne_eqb j 626 other) ∙ sym (no_field j other ne (long_at context j))
    ])
  where
    between : ℕ → ℕ
    between j = cond (j == 626) (blanked_value j (long_at context j)) (long_at context j)

-- ---- the shared page

other_shared : (i v : ℕ) → i ≢ 387 → v ≡ blanked_shared_value i v
unfolding blanked_shared_value
other_shared i v ne = sym (ap (λ b. cond b 0 v) (ne_eqb i 387 ne))

zero_shared : (v : ℕ) → blanked_shared_value 387 v ≡ 0
unfolding blanked_shared_value
zero_shared v = refl

pub shared_blanked : (page : List ℕ) → Bytes page → length page ≡ 4096 → with_field page 3096 (little_bytes 8 0) ≡ blanked_shared page
shared_blanked page all size =
    let bytes : page ≡ longs 512 (long_at page) = sym (longs_back 512 page all size) in let none : 0 ≡ blanked_shared_value 387 (long_at page 387) = sym (zero_shared (long_at page 387)) in
    (λ i. with_field (bytes i) 3096 (little_bytes 8 (none i)))
    ∙ put_long 512 (long_at page) (λ j. blanked_shared_value j (long_at page j)) 387 (lit< tt) (λ j lt ne. other_shared j (long_at page j) ne)
