-- The first wrong field of a toolstack's data stands where judging finds it.
use Rattle.mig_refusals.proofs.Common.{◌≡◌, ◌⊎◌, inl, inr, ℕ, zero, suc, ◌+◌, ◌<◌, ◌≤◌, List, [], ◌∷◌, ◌++◌, length, take, drop, Bool, true, false, nat_lt, Option, Some, refl, sym, ap, subst, ◌∙◌, arith, common_steps, take-append-drop, length-append, length-take-le, cases_eq, cases_lt, eq-eqb, ne_eqb, le-ltb, lt-ltb, none-some, same_Some, both_ways, le32, not, first_fault, drop-drop, length-drop, take-append_seam, drop-append_seam, le64, entries_fault, entry_fault, entry_len, is_name, name_at, name_in, name_len, toolstack_fault, Physmap, IsName, IsPhysmapHead, name_bytes, faultless_first, faulty_first, nothing_left, in32, first32, name_passes, name_spelled, fault_of, behind_all, len_is, PhysmapsTo, EntryWrong, FieldWrong, fine_entry, cases_Bool, false_from_ne_true}
use Rattle.mig_refusals.specs.LegacyToolstack.PhysmapsTo.{at_first, one_more}
use Rattle.mig_refusals.specs.LegacyToolstack.EntryWrong.{short_phys, short_start, short_size, short_length, short_name, no_name, short_padding}
use Rattle.mig_refusals.specs.LegacyToolstack.FieldWrong.{short_version, other_version, short_count, in_entry, more_bytes}

-- ---- an entry

module _ (bytes : List ℕ) where
  -- behind a whole name
  named_fault : 28 + name_len bytes ≤ length bytes → entry_fault bytes ≡ first_fault ((not (is_name (name_at bytes)), 28) ∷ (nat_lt (length bytes) (entry_len bytes), 28 + name_len bytes) ∷ [])
  unfolding entry_fault
  named_fault fits =
      rw (
        le-ltb (length bytes) 8 (omega (arith, fits)),
        le-ltb (length bytes) 16 (omega (arith, fits)),
        le-ltb (length bytes) 24 (omega (arith, fits)),
        le-ltb (length bytes) 28 (omega (arith, fits)),
        le-ltb (length bytes) (28 + name_len bytes) fits,
      ) refl

  no_name_found : 28 + name_len bytes ≤ length bytes → is_name (name_at bytes) ≡ false → entry_fault bytes ≡ Some 28
  no_name_found fits other = named_fault fits ∙ rw other refl

  short_found : 28 + name_len bytes ≤ length bytes → is_name (name_at bytes) ≡ true → length bytes < entry_len bytes → entry_fault bytes ≡ Some (28 + name_len bytes)
  short_found fits named less = named_fault fits ∙ rw (named, lt-ltb (length bytes) (entry_len bytes) less) refl

-- a text of which no name has the bytes
no_name_is : (text : List ℕ) → ((name : Option (List ℕ)) → IsName name → text ≡ name_bytes name → ⊥) → is_name text ≡ false
no_name_is text never = false_from_ne_true (is_name text) (λ is. let s = name_spelled text is in never (name_in text) s.1 (sym s.0))

module _ (head text rest : List ℕ) (size : length head ≡ 28) (len : le32 head 24 ≡ length text) where
  abbrev all : List ℕ
  all = head ++ (text ++ rest)

  text_len : name_len all ≡ length text
  text_len = in32 head (text ++ rest) 24 (omega (arith, size)) ∙ len

  text_is : name_at all ≡ text
  text_is = ap (λ n. take n (drop 28 all)) text_len ∙ ap (take (length text)) (ap (λ n. drop n all) (sym size) ∙ drop-append_seam head (text ++ rest)) ∙ take-append_seam text rest

  all_len : length all ≡ 28 + length text + length rest
  all_len = length-append head (text ++ rest) ∙ omega (arith, size, length-append text rest)

entry_found : (bytes : List ℕ) (field : ℕ) → EntryWrong bytes field → entry_fault bytes ≡ Some field
unfolding entry_fault
entry_found bytes _ (short_phys h) = grind (arith, common_steps, h)
entry_found bytes _ (short_start a h) = grind (arith, common_steps, a, h)
entry_found bytes _ (short_size a h) = grind (arith, common_steps, a, h)
entry_found bytes _ (short_length a h) = grind (arith, common_steps, a, h)
entry_found bytes _ (short_name a h) = grind (arith, common_steps, a, h)
entry_found bytes _ (no_name head text rest whole size len never) =
    ap entry_fault whole
    ∙ no_name_found (head ++ (text ++ rest)) (omega (arith, text_len head text rest size len, all_len head text rest size len)) (ap is_name (text_is head text rest size len) ∙ no_name_is text never)
entry_found bytes _ (short_padding head padding e whole is named less) =
    let text = name_bytes e.name in
    let same = text_len head text padding is.len is.name in
    let long = all_len head text padding is.len is.name in
    ap entry_fault whole
    ∙ short_found (head ++ (text ++ padding)) (omega (arith, same, long)) (ap is_name (text_is head text padding is.len is.name) ∙ name_passes e.name named) (omega (arith, same, long, less))
    ∙ ap (λ n. Some (28 + n)) same

-- each entry has a wrong field, or it is whole
module _ (bytes : List ℕ) where
  abbrev Judged : Type 0
  Judged =
      ((field : ℕ) × EntryWrong bytes field)
      ⊎ ((head : List ℕ) × (padding : List ℕ) × (left : List ℕ) × (e : Physmap) × (bytes ≡ head ++ (name_bytes e.name ++ (padding ++ left))) × IsPhysmapHead head e × IsName e.name × (length padding ≡ 4))

  module _ (fits : 28 + le32 bytes 24 ≤ length bytes) where
    abbrev head : List ℕ
    head = take 28 bytes

    abbrev behind : List ℕ
    behind = drop (28 + le32 bytes 24) bytes

    head_size : length head ≡ 28
    head_size = length-take-le 28 bytes (omega (arith, fits))

    name_size : length (name_at bytes) ≡ le32 bytes 24
    name_size = length-take-le (le32 bytes 24) (drop 28 bytes) (omega (arith, fits, length-drop 28 bytes))

    head_len : le32 head 24 ≡ le32 bytes 24
    head_len = first32 bytes 28 24 (omega arith) (omega (arith, fits))

    split : bytes ≡ head ++ (name_at bytes ++ behind)
    split = sym (take-append-drop 28 bytes) ∙ ap (λ l. head ++ l) (sym (take-append-drop (le32 bytes 24) (drop 28 bytes)) ∙ ap (λ l. name_at bytes ++ l) (drop-drop (le32 bytes 24) 28 bytes))

    unnamed : is_name (name_at bytes) ≡ false → EntryWrong bytes 28
    unnamed other = no_name head (name_at bytes) behind split head_size (head_len ∙ sym name_size) (λ name is same. both_ways _ other (ap is_name same ∙ name_passes name is))

    module _ (named : is_name (name_at bytes) ≡ true) where
      abbrev said : Physmap
      said = record { phys = le64 head 0; start = le64 head 8; size = le64 head 16; name = name_in (name_at bytes) }

      spelled : name_bytes said.name ≡ name_at bytes
      spelled = (name_spelled (name_at bytes) named).0

      head_is : IsPhysmapHead head said
      head_is = record { len = head_size; phys = refl; start = refl; size = refl; name = head_len ∙ sym name_size ∙ ap length (sym spelled) }

      split_name : bytes ≡ head ++ (name_bytes said.name ++ behind)
      split_name = split ∙ ap (λ l. head ++ (l ++ behind)) (sym spelled)

      by_padding : Judged
      by_padding = elim (cases_lt (length behind) 4) [
        | inl less ↦ inl (28 + length (name_bytes said.name), short_padding head behind said split_name head_is (name_spelled (name_at bytes) named).1 less)
        | inr four ↦ inr (head, take 4 behind, drop 4 behind, said, split_name ∙ ap (λ l. head ++ (name_bytes said.name ++ l)) (sym (take-append-drop 4 behind)), head_is, (name_spelled (name_at bytes) named).1, length-take-le 4 behind four)
      ]

    by_name : (b : Bool) → is_name (name_at bytes) ≡ b → Judged
    by_name false other = inl (28, unnamed other)
    by_name true named = by_padding named

  entry_judged : Judged
  entry_judged = elim (cases_lt (length bytes) 8) [
    | inl h ↦ inl (0, short_phys h)
    | inr a ↦ elim (cases_lt (length bytes) 16) [
      | inl h ↦ inl (8, short_start a h)
      | inr a ↦ elim (cases_lt (length bytes) 24) [
        | inl h ↦ inl (16, short_size a h)
        | inr a ↦ elim (cases_lt (length bytes) 28) [
          | inl h ↦ inl (24, short_length a h)
          | inr a ↦ elim (cases_lt (length bytes) (28 + le32 bytes 24)) [ inl h ↦ inl (28, short_name a h) | inr fits ↦ by_name fits (is_name (name_at bytes)) refl ]
        ]
      ]
    ]
  ]

-- ---- all entries

-- a whole entry has no fault, and what follows it is judged
entry_goes : (n offset : ℕ) (head padding left : List ℕ) (e : Physmap) → IsPhysmapHead head e → IsName e.name → length padding ≡ 4
    → entries_fault (n + 1) offset (head ++ (name_bytes e.name ++ (padding ++ left))) ≡ entries_fault n (offset + (32 + length (name_bytes e.name))) left
entry_goes n offset head padding left e is named four =
    let bytes = head ++ (name_bytes e.name ++ (padding ++ left)) in
    let more : n + 1 ≡ suc n = omega arith in
    let len : entry_len bytes ≡ 32 + length (name_bytes e.name) = ap (λ m. 32 + m) (len_is head padding left e is named four) in
    ap (λ m. entries_fault m offset bytes) more
    ∙ faultless_first n offset bytes (fault_of bytes (fine_entry head padding left e is named four))
    ∙ ap (λ m. entries_fault n (offset + m) (drop (entry_len bytes) bytes)) len
    ∙ ap (entries_fault n (offset + (32 + length (name_bytes e.name)))) (behind_all head padding left e is named four)

front_goes : (body : List ℕ) (offset n : ℕ) (left : List ℕ) → PhysmapsTo body offset n left → toolstack_fault body ≡ entries_fault n offset left
unfolding toolstack_fault
front_goes body _ _ _ (at_first head left whole size version) =
    let one : le32 (head ++ left) 0 ≡ 1 = in32 head left 0 (omega (arith, size)) ∙ version in
    let count : le32 (head ++ left) 4 ≡ le32 head 4 = in32 head left 4 (omega (arith, size)) in
    let behind : drop 8 (head ++ left) ≡ left = ap (λ n. drop n (head ++ left)) (sym size) ∙ drop-append_seam head left in
    let long : 8 ≤ length (head ++ left) = omega (arith, length-append head left, size) in
    ap toolstack_fault whole
    ∙ fields_go (head ++ left) long one
    ∙ ap (λ m. entries_fault m 8 (drop 8 (head ++ left))) count
    ∙ ap (entries_fault (le32 head 4) 8) behind
  where
    fields_go : (body : List ℕ) → 8 ≤ length body → le32 body 0 ≡ 1 → toolstack_fault body ≡ entries_fault (le32 body 4) 8 (drop 8 body)
    fields_go body long one = rw (le-ltb (length body) 4 (omega (arith, long)), eq-eqb (le32 body 0) 1 one, le-ltb (length body) 8 long) refl
front_goes body _ _ _ (one_more offset n head padding left e before is named four) = front_goes body offset (n + 1) (head ++ (name_bytes e.name ++ (padding ++ left))) before ∙ entry_goes n offset head padding left e is named four

some_left : (offset : ℕ) (left : List ℕ) → 0 < length left → entries_fault 0 offset left ≡ Some offset
some_left offset left some = nothing_left offset left ∙ rw (ne_eqb (length left) 0 (λ e. omega (arith, e, some))) refl

pub field_found : (body : List ℕ) (offset : ℕ) → FieldWrong body offset → toolstack_fault body ≡ Some offset
unfolding toolstack_fault
field_found body _ (short_version h) = rw (lt-ltb (length body) 4 h) refl
field_found body _ (other_version h) = elim (cases_Bool (nat_lt (length body) 4)) [ inl short ↦ rw short refl | inr long ↦ rw (long, ne_eqb (le32 body 0) 1 h) refl ]
field_found body _ (short_count long version h) = rw (le-ltb (length body) 4 long, eq-eqb (le32 body 0) 1 version, lt-ltb (length body) 8 h) refl
field_found body _ (in_entry offset n field left to wrong) =
    let more : n + 1 ≡ suc n = omega arith in
    front_goes body offset (n + 1) left to ∙ ap (λ m. entries_fault m offset left) more ∙ faulty_first n offset field left (entry_found left field wrong)
field_found body _ (more_bytes offset left to some) = front_goes body offset 0 left to ∙ some_left offset left some

module _ (body : List ℕ) (at : ℕ) where
  entries_cases : (n offset : ℕ) (left : List ℕ) → PhysmapsTo body offset n left → entries_fault n offset left ≡ Some at → FieldWrong body at
  entries_cases zero offset [] to h = absurd (none-some at (sym (nothing_left offset []) ∙ h))
  entries_cases zero offset (b ∷ left) to h = subst (FieldWrong body) (same_Some offset at (sym (some_left offset (b ∷ left) (omega arith)) ∙ h)) (more_bytes offset (b ∷ left) to (omega arith))
  entries_cases (suc n) offset left to h =
      let more : suc n ≡ n + 1 = omega arith in
      elim (entry_judged left) [
        | inl wrong ↦ subst (FieldWrong body) (same_Some (offset + wrong.0) at (sym (faulty_first n offset wrong.0 left (entry_found left wrong.0 wrong.1)) ∙ h)) (in_entry offset n wrong.0 left (subst (λ m. PhysmapsTo body offset m left) more to) wrong.1)
        | inr (head, padding, after, e, whole, is, named, four) ↦
            let next = one_more offset n head padding after e (subst (PhysmapsTo body offset (n + 1)) whole (subst (λ m. PhysmapsTo body offset m left) more to)) is named four in
            entries_cases n (offset + (32 + length (name_bytes e.name))) after next (sym (ap (entries_fault (n + 1) offset) whole ∙ entry_goes n offset head padding after e is named four) ∙ ap (λ m. entries_fault m offset left) (sym more) ∙ h)
      ]

  pub found_field : toolstack_fault body ≡ Some at → FieldWrong body at
  found_field h = elim (cases_lt (length body) 4) [
    | inl less ↦ same 0 (short_version less)
    | inr four ↦ elim (cases_eq (le32 body 0) 1) [
      | inr other ↦ same 0 (other_version other)
      | inl one ↦ elim (cases_lt (length body) 8) [
        | inl less ↦ same 4 (short_count four one less)
        | inr long ↦
            let to = at_first (take 8 body) (drop 8 body) (sym (take-append-drop 8 body)) (length-take-le 8 body long) (first32 body 8 0 (omega arith) long ∙ one) in
            entries_cases (le32 (take 8 body) 4) 8 (drop 8 body) to (sym (front_goes body 8 (le32 (take 8 body) 4) (drop 8 body) to) ∙ h)
      ]
    ]
  ]
    where
      same : (offset : ℕ) → FieldWrong body offset → FieldWrong body at
      same offset wrong = subst (FieldWrong body) (same_Some offset at (sym (field_found body offset wrong) ∙ h)) wrong
