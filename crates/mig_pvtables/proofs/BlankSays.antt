-- What the entries of a table and the fields of a context say in the blank form: the same.
use Rattle.mig_pvtables.proofs.Common.{◌≡◌, ℕ, ◌+◌, ◌-◌, ◌*◌, ◌/◌, ◌%◌, ◌^◌, ◌<◌, ◌≤◌, Bool, true, false, cond, not, List, Some, None, refl, sym, ap, subst, ◌∙◌, inl, inr, arith, nat_le, nat_lt, ◌==◌, ◌&&◌, cases_eq, cases_lt, eqb-true, eq-eqb, le-leb, lt-ltb, ne_eqb, Blank, NotPresent, Superpage, Frame, gdt_ents, is_blank_slot, entry, blanked_table, long_at, field_at, field_place, field_value, frame_of_field, is_marked, is_used, value_blanked, blanked_context, pfn_limit, ltb-true, named_frame, leb-true}
use Rattle.mig_guest.specs.Tables.{entry_of, blanked_entry}
use Rattle.mig_pvtables.specs.VcpuContexts.{blanked_value}
use Rattle.mig_pvtables.proofs.Moduli.{long_of_each}

-- ---- entries

-- bits 0 to 63 are all that an entry says
pub low_says : (level slot e : ℕ) → entry_of level slot (e % 2 ^ 64) ≡ entry_of level slot e
unfolding entry_of
low_says level slot e =
    let present : e % 2 ^ 64 % 2 ≡ e % 2 = omega arith in
    let large : e % 2 ^ 64 / 2 ^ 7 % 2 ≡ e / 2 ^ 7 % 2 = omega arith in
    let named : named_frame (e % 2 ^ 64) ≡ named_frame e = omega arith in
    λ i. cond (is_blank_slot level slot) Blank (cond (not (present i == 1)) NotPresent (cond (nat_le 2 level && (large i == 1)) Superpage (Frame (named i))))

-- a blank slot says nothing
pub blank_says : (level slot e : ℕ) → is_blank_slot level slot ≡ true → entry_of level slot e ≡ Blank
unfolding entry_of
blank_says level slot e is = ap (λ b. cond b Blank (cond (not (e % 2 == 1)) NotPresent (cond (nat_le 2 level && (e / 2 ^ 7 % 2 == 1)) Superpage (Frame (named_frame e))))) is

-- a slot says in the blank form what it said
entry_says : (level slot e : ℕ) → entry_of level slot (blanked_entry level slot e) ≡ entry_of level slot e
unfolding blanked_entry
entry_says level slot e = by_case (is_blank_slot level slot) refl
  where
    by_case : (b : Bool) → is_blank_slot level slot ≡ b → entry_of level slot (cond b 0 e) ≡ entry_of level slot e
    by_case true is = blank_says level slot 0 is ∙ sym (blank_says level slot e is)
    by_case false is = refl

-- and so in a page
pub same_entry : (level slot : ℕ) (page : List ℕ) → slot < 512 → entry level (blanked_table level page) slot ≡ entry level page slot
same_entry level slot page lt =
    ap (entry_of level slot) (long_of_each 512 (blanked_entry level) page slot lt) ∙ low_says level slot (blanked_entry level slot (long_at page slot)) ∙ entry_says level slot (long_at page slot)

-- ---- fields

-- it is a field, and its place is in a context
abbrev There : ℕ → Type 0
There field = (field_at (field_place field) ≡ Some field) × (field_place field < 646)

-- each field stands at its place
pub field_there : (field : ℕ) → field ≤ 18 → There field
field_there field most = elim (cases_eq field 0) [
  | inl e ↦ subst There (sym e) (refl, omega arith)
  | inr some ↦ elim (cases_lt field 17) [
    | inl lt ↦ of_gdt (λ e. some e) lt
    | inr ge ↦ elim (cases_eq field 17) [
      | inl e ↦ subst There (sym e) (refl, omega arith)
      | inr ne ↦ let e : 18 ≡ field = omega (arith, ge, ne, most) in subst There e (refl, omega arith)
    ]
  ]
]
  where
    of_gdt : (field ≡ 0 → ⊥) → field < 17 → There field
    of_gdt some lt =
        let place : field_place field ≡ 603 + field = (λ i. cond (ne_eqb field 0 some i) 77 (cond (le-leb field 16 (omega (arith, lt)) i) (603 + field) (cond (field == 17) 626 624))) in
        let not_first : ((603 + field) == 77) ≡ false = ne_eqb (603 + field) 77 (λ e. omega (arith, e)) in
        let low : nat_le 604 (603 + field) ≡ true = le-leb 604 (603 + field) (omega (arith, some)) in
        let high : nat_lt (603 + field) 620 ≡ true = lt-ltb (603 + field) 620 (omega (arith, lt)) in
        let at : field_at (603 + field) ≡ Some ((603 + field) - 603) =
        (λ i. cond (not_first i) (Some 0) (cond (low i && high i) (Some ((603 + field) - 603)) (cond ((603 + field) == 626) (Some 17) (cond ((603 + field) == 624) (Some 18) None)))) in
        (ap field_at place ∙ at ∙ ap (λ n. Some n) (let e : (603 + field) - 603 ≡ field = omega arith in e), subst (λ n. n < 646) (sym place) (omega (arith, lt)))

some_is : (x y : ℕ) → Some x ≡ Some y → x ≡ y
some_is x y e = cc

-- where a field stands, the place is its place
pub place_field : (i field : ℕ) → field_at i ≡ Some field → (field ≤ 18) × (field_place field ≡ i)
place_field i field = by_case (i == 77) (nat_le 604 i) (nat_lt i 620) (i == 626) (i == 624) refl refl refl refl refl
  where
    Stands : ℕ → Type 0
    Stands f = (f ≤ 18) × (field_place f ≡ i)

    of_gdt : (field : ℕ) → 0 < field → field ≤ 16 → field_place field ≡ 603 + field
    of_gdt field some most = (λ j. cond (ne_eqb field 0 (λ e. omega (arith, e, some)) j) 77 (cond (le-leb field 16 most j) (603 + field) (cond (field == 17) 626 624)))

    roots : (d e : Bool) → (i == 626) ≡ d → (i == 624) ≡ e → cond d (Some 17) (cond e (Some 18) None) ≡ Some field → Stands field
    roots true e id ie is = subst Stands (some_is 17 field is) (omega arith, sym (eqb-true i 626 id))
    roots false true id ie is = subst Stands (some_is 18 field is) (omega arith, sym (eqb-true i 624 ie))
    roots false false id ie is = cc

    by_case : (a b c d e : Bool) → (i == 77) ≡ a → nat_le 604 i ≡ b → nat_lt i 620 ≡ c → (i == 626) ≡ d → (i == 624) ≡ e
        → cond a (Some 0) (cond (b && c) (Some (i - 603)) (cond d (Some 17) (cond e (Some 18) None))) ≡ Some field → Stands field
    by_case true b c d e ia ib ic id ie is = subst Stands (some_is 0 field is) (omega arith, sym (eqb-true i 77 ia))
    by_case false true true d e ia ib ic id ie is =
        let low = leb-true 604 i ib in let high = ltb-true i 620 ic in
        subst Stands (some_is (i - 603) field is) (omega (arith, high), of_gdt (i - 603) (omega (arith, low)) (omega (arith, high)) ∙ omega (arith, low))
    by_case false true false d e ia ib ic id ie is = roots d e id ie is
    by_case false false c d e ia ib ic id ie is = roots d e id ie is

-- a field is used where its blank form is
pub same_used : (id ents field v : ℕ) → is_used id ents field (value_blanked (Some field) v % 2 ^ 64) ≡ is_used id ents field v
same_used id ents field v = by_case (field == 0) (nat_le field 16) (field == 17) (id == 0) (nat_lt ((field - 1) * 512) ents)
  where
    marked : (n : ℕ) → is_marked ((n * 4096 + 1) % 2 ^ 64) ≡ true
    marked n = eq-eqb ((n * 4096 + 1) % 2 ^ 64 % 2) 1 (omega arith)

    last : (m : Bool) → is_marked (cond m (v / 4096 * 4096 + 1) 0 % 2 ^ 64) ≡ m
    last true = marked (v / 4096)
    last false = refl

    by_case : (z a b i g : Bool) → cond z i (cond a g (cond b true (is_marked (cond a v (cond b (v / 4096 * 4096) (cond (is_marked v) (v / 4096 * 4096 + 1) 0)) % 2 ^ 64))))
        ≡ cond z i (cond a g (cond b true (is_marked v)))
    by_case true a b i g = refl
    by_case false true b i g = refl
    by_case false false true i g = refl
    by_case false false false i g = last (is_marked v)

-- a field that is used says the same frame
pub same_said : (id ents field v : ℕ) → v < 2 ^ 64 → is_used id ents field v ≡ true → frame_of_field field (value_blanked (Some field) v % 2 ^ 64) ≡ frame_of_field field v
same_said id ents field v fits = by_case (field == 0) (nat_le field 16) (field == 17) (id == 0) (nat_lt ((field - 1) * 512) ents) (λ e. ap (λ n. nat_le n 16) (eqb-true field 0 e))
  where
    by_case : (z a b i g : Bool) → (z ≡ true → a ≡ true) → cond z i (cond a g (cond b true (is_marked v))) ≡ true
        → cond a (cond a v (cond b (v / 4096 * 4096) (cond (is_marked v) (v / 4096 * 4096 + 1) 0)) % 2 ^ 64) (cond a v (cond b (v / 4096 * 4096) (cond (is_marked v) (v / 4096 * 4096 + 1) 0)) % 2 ^ 64 / 4096)
        ≡ cond a v (v / 4096)
    by_case z true b i g za is = omega (arith, fits)
    by_case z false true i g za is = omega (arith, fits)
    by_case true false false i g za is = let no : false ≡ true = za refl in cc
    by_case false false false i g za is = ap (λ m. cond m (v / 4096 * 4096 + 1) 0 % 2 ^ 64 / 4096) is ∙ omega (arith, fits)

-- a field that says a frame number is a number of 8 bytes
pub said_fits : (field v : ℕ) → frame_of_field field v < pfn_limit → v < 2 ^ 64
said_fits field v = by_case (nat_le field 16)
  where
    by_case : (a : Bool) → cond a v (v / 4096) < pfn_limit → v < 2 ^ 64
    by_case true lt = omega (arith, lt)
    by_case false lt = omega (arith, lt)

-- ---- contexts

module _ (context : List ℕ) where
  -- the number at a place
  pub blanked_at : (i : ℕ) → i < 646 → long_at (blanked_context context) i ≡ blanked_value i (long_at context i) % 2 ^ 64
  blanked_at i lt = long_of_each 646 blanked_value context i lt

  no_field : (v : ℕ) → blanked_value 620 v ≡ v
  unfolding blanked_value
  no_field v = refl

  -- how many descriptors the GDT has isn't a field
  pub blanked_ents : gdt_ents (blanked_context context) ≡ gdt_ents context % 2 ^ 64
  blanked_ents = blanked_at 620 (omega arith) ∙ ap (λ v. v % 2 ^ 64) (no_field (long_at context 620))

  pub at_field : (i v field : ℕ) → field_at i ≡ Some field → blanked_value i v ≡ value_blanked (Some field) v
  unfolding blanked_value
  at_field i v field is = ap (λ o. value_blanked o v) is

  -- a field's value
  pub blanked_field : (field : ℕ) → field ≤ 18 → field_value (blanked_context context) field ≡ value_blanked (Some field) (field_value context field) % 2 ^ 64
  blanked_field field most =
      let (at, lt) = field_there field most in
      blanked_at (field_place field) lt ∙ ap (λ v. v % 2 ^ 64) (at_field (field_place field) (field_value context field) field at)
