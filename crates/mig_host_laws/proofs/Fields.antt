-- The four laws of fields: what a row says of values, row by row, and of fields in a context.
use Rattle.mig_host_laws.proofs.Common.{recursion_from_All, AreBytes, Bytes, long_below, ◌≡◌, ℕ, ◌+◌, ◌-◌, ◌*◌, ◌/◌, ◌%◌, ◌^◌, ◌<◌, ◌≤◌, Bool, true, false, cond, not, List, length, Some, refl, sym, ap, subst, ◌∙◌, inl, inr, arith, nat_lt, ◌==◌, cases_lt, eqb-true, eq-eqb, long_at, long_of_longs, field_at, is_used, Field, field_row, IsField, field_numbered, said_by, with_frame_in, longs, field_there, IsNumbered, ◌≢◌, nat_le, cases_eq, ne_eqb, le-leb, put_long}
use Rattle.byteorder.specs.Endian.{little_bytes}
use Rattle.mig_bytes.specs.Fields.{with_field}
use Rattle.mig_guest.proofs.Longs.{longs_back, same_longs}
use Rattle.mig_pvtables.specs.Faults.{is_notab, is_root}
use Rattle.mig_host_laws.specs.Fields.Field.{Rdx, GdtFrame, Root, UserRoot}

-- ---- a value, row by row

-- the frame of the value that says a frame
pub frame_of_value : (f : Field) (n : ℕ) → (field_row f).frame ((field_row f).value n) ≡ n
frame_of_value Rdx n = refl
frame_of_value (GdtFrame g) n = refl
frame_of_value Root n = omega arith
frame_of_value UserRoot n = omega arith

-- the value that says the frame of a value which a stream uses: its blank form
pub value_of_frame : (f : Field) (id ents v : ℕ) → (field_row f).in_stream id ents v ≡ true → (field_row f).value ((field_row f).frame v) ≡ (field_row f).blanked v
value_of_frame Rdx id ents v used = refl
value_of_frame (GdtFrame g) id ents v used = refl
value_of_frame Root id ents v used = refl
value_of_frame UserRoot id ents v used = ap (λ b. cond b (v / 4096 * 4096 + 1) 0) (sym used)

-- a value that says a frame is in blank form
pub written_blanked : (f : Field) (n : ℕ) → (field_row f).blanked ((field_row f).value n) ≡ (field_row f).value n
written_blanked Rdx n = refl
written_blanked (GdtFrame g) n = refl
written_blanked Root n = omega arith
written_blanked UserRoot n =
    ap (λ b. cond b ((n * 4096 + 1) / 4096 * 4096 + 1) 0) (eq-eqb ((n * 4096 + 1) % 2) 1 (omega arith)) ∙ (let e : (n * 4096 + 1) / 4096 * 4096 + 1 ≡ n * 4096 + 1 = omega arith in e)

-- one that isn't used in a host is in blank form
pub unused_blanked : (f : Field) (id ents v : ℕ) → (field_row f).in_host id ents v ≡ false → (field_row f).blanked v ≡ v
unused_blanked Rdx id ents v un = refl
unused_blanked (GdtFrame g) id ents v un = refl
unused_blanked Root id ents v un = cc
unused_blanked UserRoot id ents v un = zero_only (v == 0) refl un
  where
    zero_only : (b : Bool) → (v == 0) ≡ b → not b ≡ false → cond (v % 2 == 1) (v / 4096 * 4096 + 1) 0 ≡ v
    zero_only true is un = let e : v ≡ 0 = eqb-true v 0 is in subst (λ w. cond (w % 2 == 1) (w / 4096 * 4096 + 1) 0 ≡ w) (sym e) refl
    zero_only false is un = cc

-- a frame of at most 52 bits has a value of 8 bytes
pub value_small : (f : Field) (n : ℕ) → n < 2 ^ 52 → (field_row f).value n < 2 ^ 64
value_small Rdx n small = omega (arith, small)
value_small (GdtFrame g) n small = omega (arith, small)
value_small Root n small = omega (arith, small)
value_small UserRoot n small = omega (arith, small)

-- ---- numbers and places

numbered_gdt : (P : Field → Type 0) (g : ℕ) → g < 16 → P (GdtFrame ((1 + g) - 1)) → P (field_numbered (1 + g))
numbered_gdt P g lt here =
    subst (λ b. P (cond b Rdx (cond (nat_le (1 + g) 16) (GdtFrame ((1 + g) - 1)) (cond ((1 + g) == 17) Root UserRoot)))) (sym (ne_eqb (1 + g) 0 (λ e. omega (arith, e))))
    (subst (λ b. P (cond b (GdtFrame ((1 + g) - 1)) (cond ((1 + g) == 17) Root UserRoot))) (sym (le-leb (1 + g) 16 (omega (arith, lt)))) here)

-- a field is the one that has its number
pub numbered : (f : Field) → IsField f → field_numbered (field_row f).number ≡ f
numbered Rdx is = refl
numbered (GdtFrame g) is = numbered_gdt (λ f. f ≡ GdtFrame g) g is (ap GdtFrame (let e : (1 + g) - 1 ≡ g = omega arith in e))
numbered Root is = refl
numbered UserRoot is = refl

-- what a number from 0 to 18 stands for
pub by_number : (P : ℕ → Field → Type 0) → P 0 Rdx → ((g : ℕ) → g < 16 → P (1 + g) (GdtFrame g)) → P 17 Root → P 18 UserRoot → (n : ℕ) → n ≤ 18 → P n (field_numbered n)
by_number P rdx gdt root user n most = elim (cases_eq n 0) [
  | inl e ↦ subst (λ k. P k (field_numbered k)) (sym e) rdx
  | inr some ↦ elim (cases_lt n 17) [
    | inl lt ↦ let e : 1 + (n - 1) ≡ n = omega (arith, some) in let small : n - 1 < 16 = omega (arith, lt, some) in
        subst (λ k. P k (field_numbered k)) e (numbered_gdt (P (1 + (n - 1))) (n - 1) small (subst (λ k. P (1 + (n - 1)) (GdtFrame k)) (let e : n - 1 ≡ (1 + (n - 1)) - 1 = omega arith in e) (gdt (n - 1) small)))
    | inr ge ↦ elim (cases_eq n 17) [
      | inl e ↦ subst (λ k. P k (field_numbered k)) (sym e) root
      | inr ne ↦ let e : 18 ≡ n = omega (arith, ge, ne, most) in subst (λ k. P k (field_numbered k)) e user
    ]
  ]
]

-- ---- what the rows say is what is said by numbers

gdt_agrees : (g : ℕ) → g < 16 → IsNumbered (1 + g) (GdtFrame g)
gdt_agrees g lt =
    let some : ((1 + g) == 0) ≡ false = ne_eqb (1 + g) 0 (λ e. omega (arith, e)) in
    let low : nat_le (1 + g) 16 ≡ true = le-leb (1 + g) 16 (omega (arith, lt)) in
    let other : ((1 + g) == 18) ≡ false = ne_eqb (1 + g) 18 (λ e. omega (arith, e, lt)) in
    let before : ((1 + g) - 1) * 512 ≡ g * 512 = omega arith in
    let stream : (id ents v : ℕ) → is_used id ents (1 + g) v ≡ nat_lt (g * 512) ents =
    λ id ents v i. cond (some i) (id == 0) (cond (low i) (nat_lt (before i) ents) (cond ((1 + g) == 17) true (v % 2 == 1))) in
    record {
      is = lt;
      number = refl;
      place = (λ i. cond (some i) 77 (cond (low i) (603 + (1 + g)) (cond ((1 + g) == 17) 626 624))) ∙ (let e : 603 + (1 + g) ≡ 604 + g = omega arith in e);
      stream = stream;
      host = λ id ents v. ap (λ b. cond b (not (v == 0)) (is_used id ents (1 + g) v)) other ∙ stream id ents v;
      frame = λ v i. cond (low i) v (v / 4096);
      value = λ m i. cond (low i) m (cond ((1 + g) == 17) (m * 4096) (m * 4096 + 1));
      blanked = λ v i. cond (low i) v (cond ((1 + g) == 17) (v / 4096 * 4096) (cond (v % 2 == 1) (v / 4096 * 4096 + 1) 0));
      fits = λ type i. cond (low i) (is_notab type) (is_root type);
    }

pub agrees : (n : ℕ) → n ≤ 18 → IsNumbered n (field_numbered n)
agrees = by_number IsNumbered
    (record { is = tt; number = refl; place = refl; stream = λ _ _ _. refl; host = λ _ _ _. refl; frame = λ _. refl; value = λ _. refl; blanked = λ _. refl; fits = λ _. refl })
    gdt_agrees
    (record { is = tt; number = refl; place = refl; stream = λ _ _ _. refl; host = λ _ _ _. refl; frame = λ _. refl; value = λ _. refl; blanked = λ _. refl; fits = λ _. refl })
    (record { is = tt; number = refl; place = refl; stream = λ _ _ _. refl; host = λ _ _ _. refl; frame = λ _. refl; value = λ _. refl; blanked = λ _. refl; fits = λ _. refl })

pub number_small : (f : Field) → IsField f → (field_row f).number ≤ 18
number_small Rdx is = omega arith
number_small (GdtFrame g) is = omega (arith, is)
number_small Root is = omega arith
number_small UserRoot is = omega arith

-- each stands at a place of a context, and no two at one
pub place_inside : (f : Field) → IsField f → (field_row f).place < 646
place_inside Rdx is = omega arith
place_inside (GdtFrame g) is = omega (arith, is)
place_inside Root is = omega arith
place_inside UserRoot is = omega arith

pub at_its_place : (f : Field) → IsField f → field_at (field_row f).place ≡ Some (field_row f).number
at_its_place f is =
    let n : ℕ = (field_row f).number in
    let most : n ≤ 18 = number_small f is in
    ap field_at (sym (ap (λ g. (field_row g).place) (numbered f is)) ∙ sym (agrees n most).place) ∙ (field_there n most).0

pub one_place : (f g : Field) → IsField f → IsField g → (field_row f).place ≡ (field_row g).place → f ≡ g
one_place f g is also same =
    let e : Some (field_row f).number ≡ Some (field_row g).number = sym (at_its_place f is) ∙ ap field_at same ∙ at_its_place g also in
    let number : (field_row f).number ≡ (field_row g).number = cc in
    sym (numbered f is) ∙ ap field_numbered number ∙ numbered g also

-- ---- one number of many, written in place

-- bytes that are n numbers
pub record AreLongs (n : ℕ) (bytes : List ℕ) : Type 0 where
  pub all : Bytes bytes
  pub size : length bytes ≡ 8 * n

-- those of a context
pub are_longs : (context : List ℕ) → AreBytes context → length context ≡ 5168 → AreLongs 646 context
are_longs context bytes size = record { all = recursion_from_All (λ b. b < 256) context bytes; size = omega (arith, size) }

module _ (n i : ℕ) (lt : i < n) (bytes : List ℕ) (are : AreLongs n bytes) where
  abbrev told : ℕ → ℕ → ℕ
  told x j = cond (j == i) x (long_at bytes j)

  abbrev put : ℕ → List ℕ
  put x = with_field bytes (8 * i) (little_bytes 8 x)

  told_here : (x : ℕ) → told x i ≡ x
  told_here x = ap (λ b. cond b x (long_at bytes i)) (eq-eqb i i refl)

  told_there : (x j : ℕ) → j ≢ i → told x j ≡ long_at bytes j
  told_there x j ne = ap (λ b. cond b x (long_at bytes j)) (ne_eqb j i ne)

  pub put_is : (x : ℕ) → put x ≡ longs n (told x)
  put_is x =
      let back : bytes ≡ longs n (long_at bytes) = sym (longs_back n bytes are.all are.size) in
      let here : x ≡ told x i = sym (told_here x) in
      (λ k. with_field (back k) (8 * i) (little_bytes 8 (here k))) ∙ put_long n (long_at bytes) (told x) i lt (λ j less ne. sym (told_there x j ne))

  pub put_here : (x : ℕ) → x < 2 ^ 64 → long_at (put x) i ≡ x
  put_here x small = ap (λ l. long_at l i) (put_is x) ∙ long_of_longs n (told x) i lt (subst (λ e. e < 2 ^ 64) (sym (told_here x)) small) ∙ told_here x

  pub put_there : (x j : ℕ) → j < n → j ≢ i → long_at (put x) j ≡ long_at bytes j
  put_there x j less ne =
      ap (λ l. long_at l j) (put_is x) ∙ long_of_longs n (told x) j less (subst (λ e. e < 2 ^ 64) (sym (told_there x j ne)) (long_below (8 * j) bytes are.all)) ∙ told_there x j ne

  pub put_stays : put (long_at bytes i) ≡ bytes
  put_stays = put_is (long_at bytes i) ∙ same_longs n _ _ (λ j less. elim (cases_eq j i) [
    | inl e ↦ subst (λ k. told (long_at bytes i) k ≡ long_at bytes k) (sym e) (told_here (long_at bytes i))
    | inr ne ↦ told_there (long_at bytes i) j ne
  ]) ∙ longs_back n bytes are.all are.size

  pub put_over : (x y : ℕ) → with_field (put x) (8 * i) (little_bytes 8 y) ≡ put y
  put_over x y =
      let first = put_is x in
      let here : y ≡ told y i = sym (told_here y) in
      (λ k. with_field (first k) (8 * i) (little_bytes 8 (here k))) ∙ put_long n (told x) (told y) i lt (λ j less ne. told_there x j ne ∙ sym (told_there y j ne)) ∙ sym (put_is y)

-- the numbers of bytes tell the bytes
pub numbers_tell : (n : ℕ) (a b : List ℕ) → AreLongs n a → AreLongs n b → ((i : ℕ) → i < n → long_at a i ≡ long_at b i) → a ≡ b
numbers_tell n a b first second same = sym (longs_back n a first.all first.size) ∙ same_longs n _ _ same ∙ longs_back n b second.all second.size

-- ---- a field of a context

module _ (f : Field) (is : IsField f) (context : List ℕ) (are : AreLongs 646 context) where
  abbrev place : ℕ
  place = (field_row f).place

  inside : place < 646
  inside = place_inside f is

  -- a field says the frame that was put into it
  pub said_back : (n : ℕ) → n < 2 ^ 52 → said_by f (with_frame_in f n context) ≡ n
  said_back n small = ap (field_row f).frame (put_here 646 place inside context are ((field_row f).value n) (value_small f n small)) ∙ frame_of_value f n

  -- the frame that it says, put into it anew, changes nothing where its value is in written form
  pub written_stays : (field_row f).value (said_by f context) ≡ long_at context place → with_frame_in f (said_by f context) context ≡ context
  written_stays written = ap (λ x. with_field context (8 * place) (little_bytes 8 x)) written ∙ put_stays 646 place inside context are

  -- of two frames put into it the last decides
  pub put_twice : (n m : ℕ) → with_frame_in f m (with_frame_in f n context) ≡ with_frame_in f m context
  put_twice n m = put_over 646 place inside context are ((field_row f).value n) ((field_row f).value m)

  -- all other fields stay
  pub others_stay : (n : ℕ) (g : Field) → IsField g → (g ≡ f → ⊥) → said_by g (with_frame_in f n context) ≡ said_by g context
  others_stay n g also other =
      ap (field_row g).frame (put_there 646 place inside context are ((field_row f).value n) (field_row g).place (place_inside g also) (λ e. other (one_place g f also is e)))
