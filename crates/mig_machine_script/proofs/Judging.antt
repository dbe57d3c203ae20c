-- All bytes are a script, or have a first bad line.
use Rattle.mig_machine_script.proofs.Common.{◌≡◌, ◌⊎◌, ℕ, zero, suc, ◌+◌, ◌<◌, ◌≤◌, ◌^◌, List, [], ◌∷◌, length, take, drop, ◌-◌, Option, Some, None, Result, Ok, Err, refl, sym, ap, subst, ◌∙◌, arith, inl, inr, length-append, decimal, codes, ◌==◌, position, cases_eq, cases_lt, length-slice_split, HasFields, LineOf, IsNumber, IsHex, AreNumbers, AreArguments, IsScriptLine, letter_of, fields_in, Write, Retype, Add, Remove, Exchange, Put, Dot, BeginsWithText, IsScript, IsBadLine, nil_from_length, decimal_is_IsNumeral}
use Rattle.std.specs.Str.Parse.{digits_value}
use Rattle.hex.specs.Hex.{decode_of}
use Rattle.hex.specs.declared.error.FromHexError.{FromHexError}
use Rattle.mig_machine_script.proofs.Cutting.{is_it, behind, cut_line, last_line}
use Rattle.mig_machine_script.proofs.FieldsSaid.{initial, no_write, no_put, no_dot}

-- ---- one field

same_lists : (xs ys : List ℕ) → (xs ≡ ys) ⊎ (xs ≡ ys → ⊥)
same_lists [] [] = inl refl
same_lists [] (y ∷ ys) = inr (λ h. cc)
same_lists (x ∷ xs) [] = inr (λ h. cc)
same_lists (x ∷ xs) (y ∷ ys) =
    elim (cases_eq x y) [
      | inl e ↦ elim (same_lists xs ys) [ inl f ↦ inl cc | inr never ↦ inr (λ h. let others : xs ≡ ys = cc in never others) ]
      | inr never ↦ inr (λ h. let first : x ≡ y = cc in never first)
    ]

value_is : (field : List ℕ) (n : ℕ) → IsNumber field n → digits_value 10 field ≡ n
value_is field n h = ap (digits_value 10) h.digits ∙ (decimal_is_IsNumeral n h.small).1

number_of : (field : List ℕ) → ((n : ℕ) × IsNumber field n) ⊎ ((n : ℕ) → IsNumber field n → ⊥)
number_of field =
    elim (cases_lt (digits_value 10 field) (2 ^ 64)) [
      | inl small ↦
          elim (same_lists field (decimal (digits_value 10 field))) [
            | inl e ↦ inl (digits_value 10 field, record { small = small; digits = e })
            | inr never ↦ inr (λ n h. never (h.digits ∙ ap decimal (sym (value_is field n h))))
          ]
      | inr large ↦ inr (λ n h. let is = value_is field n h in let small = h.small in omega (arith, is, small, large))
    ]

hex_so : (field : List ℕ) (r : Result (List ℕ) FromHexError) → decode_of field ≡ r → 2 ≤ length field → ((bytes : List ℕ) × IsHex field bytes) ⊎ ((bytes : List ℕ) → IsHex field bytes → ⊥)
hex_so field (Ok bytes) e long = inl (bytes, record { some = long; digits = e })
hex_so field (Err fault) e long = inr (λ bytes h. let same = sym e ∙ h.digits in cc)

hex_of : (field : List ℕ) → ((bytes : List ℕ) × IsHex field bytes) ⊎ ((bytes : List ℕ) → IsHex field bytes → ⊥)
hex_of field =
    elim (cases_lt (length field) 2) [
      | inl short ↦ inr (λ bytes h. let long = h.some in omega (arith, short, long))
      | inr long ↦ hex_so field (decode_of field) refl long
    ]

-- ---- fields one after another

-- numbers, and behind them other fields that fit
record Says (X : Type 0) (ns : X → List ℕ) (others : X → List (List ℕ)) (Fits : X → Type 0) (fields : List (List ℕ)) : Type 0 where
  value : X
  are : AreNumbers fields (ns value) (others value)
  fits : Fits value

-- there is one, or none
abbrev Decided : Type 0 → Type 0
Decided P = P ⊎ (P → ⊥)

number_before : (X : Type 0) (ns : X → List ℕ) (others : X → List (List ℕ)) (Fits : X → Type 0) → ((fields : List (List ℕ)) → Decided (Says X ns others Fits fields))
    → (fields : List (List ℕ)) → Decided (Says (ℕ × X) (λ x. x.0 ∷ ns x.1) (λ x. others x.1) (λ x. Fits x.1) fields)
number_before X ns others Fits behind [] = inr (λ h. h.are)
number_before X ns others Fits behind (field ∷ fields) =
    elim (number_of field) [
      | inl n ↦
          elim (behind fields) [
            | inl h ↦ inl (record { value = (n.0, h.value); are = (n.1, h.are); fits = h.fits })
            | inr never ↦ inr (λ h. never (record { value = h.value.1; are = h.are.1; fits = h.fits }))
          ]
      | inr never ↦ inr (λ h. never h.value.0 h.are.0)
    ]

none_left : (fields : List (List ℕ)) → (fields ≡ []) ⊎ (fields ≡ [] → ⊥)
none_left [] = inl refl
none_left (field ∷ fields) = inr (λ h. cc)

no_field : (fields : List (List ℕ)) → Decided (Says (Unit {0}) (λ _. []) (λ _. []) (λ _. Unit {0}) fields)
no_field fields = elim (none_left fields) [ inl e ↦ inl (record { value = tt; are = e; fits = tt }) | inr never ↦ inr (λ h. never h.are) ]

bytes_alone : (fields : List (List ℕ)) → Decided (Says (List ℕ × List ℕ) (λ _. []) (λ x. x.0 ∷ []) (λ x. IsHex x.0 x.1) fields)
bytes_alone [] = inr (λ h. let none = h.are in cc)
bytes_alone (field ∷ []) =
    elim (hex_of field) [
      | inl h ↦ inl (record { value = (field, h.0); are = refl; fits = h.1 })
      | inr never ↦ inr (λ h. let e = h.are in let same : h.value.0 ≡ field = cc in never h.value.1 (subst (λ (t : List ℕ). IsHex t h.value.1) same h.fits))
    ]
bytes_alone (field ∷ (other ∷ fields)) = inr (λ h. let none = h.are in cc)

two : (fields : List (List ℕ)) → ((n : ℕ) × (m : ℕ) × AreNumbers fields (n ∷ m ∷ []) []) ⊎ ((n m : ℕ) → AreNumbers fields (n ∷ m ∷ []) [] → ⊥)
two fields =
    elim (number_before _ _ _ _ (number_before _ _ _ _ no_field) fields) [
      | inl h ↦ inl (h.value.0, h.value.1.0, h.are)
      | inr never ↦ inr (λ n m k. never (record { value = (n, (m, tt)); are = k; fits = tt }))
    ]

-- ---- a line

-- fields behind a name are a line, or none
abbrev Sought : List ℕ → List (List ℕ) → Type 0
Sought name fields = ((line : LineOf) × HasFields name fields line) ⊎ ((line : LineOf) → HasFields name fields line → ⊥)

no_retype : (fields : List (List ℕ)) → ((n m : ℕ) → AreNumbers fields (n ∷ m ∷ []) [] → ⊥) → (line : LineOf) → HasFields (codes "t") fields line → ⊥
no_retype fields none (Retype n m) h = none n m h.are
no_retype fields none line h = let e = initial (letter_of line) (codes "t") h.name in absurd (omega (arith, e))

no_add : (fields : List (List ℕ)) → ((n m : ℕ) → AreNumbers fields (n ∷ m ∷ []) [] → ⊥) → (line : LineOf) → HasFields (codes "a") fields line → ⊥
no_add fields none (Add n m) h = none n m h.are
no_add fields none line h = let e = initial (letter_of line) (codes "a") h.name in absurd (omega (arith, e))

no_exchange : (fields : List (List ℕ)) → ((n m : ℕ) → AreNumbers fields (n ∷ m ∷ []) [] → ⊥) → (line : LineOf) → HasFields (codes "x") fields line → ⊥
no_exchange fields none (Exchange n m) h = none n m h.are
no_exchange fields none line h = let e = initial (letter_of line) (codes "x") h.name in absurd (omega (arith, e))

no_remove : (fields : List (List ℕ)) → ((n : ℕ) → AreNumbers fields (n ∷ []) [] → ⊥) → (line : LineOf) → HasFields (codes "r") fields line → ⊥
no_remove fields none (Remove n) h = none n h.are
no_remove fields none line h = let e = initial (letter_of line) (codes "r") h.name in absurd (omega (arith, e))

write : (fields : List (List ℕ)) → Sought (codes "w") fields
write fields =
    elim (number_before _ _ _ _ (number_before _ _ _ _ bytes_alone) fields) [
      | inl h ↦ inl (Write h.value.0 h.value.1.0 h.value.1.1.1, record { name = refl; are = (h.value.1.1.0, h.are, h.fits) })
      | inr never ↦ inr (no_write fields (λ n m hex bytes k x. never (record { value = (n, (m, (hex, bytes))); are = k; fits = x })))
    ]

put : (fields : List (List ℕ)) → Sought (codes "p") fields
put fields =
    elim (number_before _ _ _ _ (number_before _ _ _ _ (number_before _ _ _ _ bytes_alone)) fields) [
      | inl h ↦ inl (Put h.value.0 h.value.1.0 h.value.1.1.0 h.value.1.1.1.1, record { name = refl; are = (h.value.1.1.1.0, h.are, h.fits) })
      | inr never ↦ inr (no_put fields (λ n m o hex bytes k x. never (record { value = (n, (m, (o, (hex, bytes)))); are = k; fits = x })))
    ]

retype : (fields : List (List ℕ)) → Sought (codes "t") fields
retype fields = elim (two fields) [ inl h ↦ inl (Retype h.0 h.1, record { name = refl; are = h.2 }) | inr never ↦ inr (no_retype fields never) ]

add : (fields : List (List ℕ)) → Sought (codes "a") fields
add fields = elim (two fields) [ inl h ↦ inl (Add h.0 h.1, record { name = refl; are = h.2 }) | inr never ↦ inr (no_add fields never) ]

exchange : (fields : List (List ℕ)) → Sought (codes "x") fields
exchange fields = elim (two fields) [ inl h ↦ inl (Exchange h.0 h.1, record { name = refl; are = h.2 }) | inr never ↦ inr (no_exchange fields never) ]

remove : (fields : List (List ℕ)) → Sought (codes "r") fields
remove fields =
    elim (number_before _ _ _ _ no_field fields) [
      | inl h ↦ inl (Remove h.value.0, record { name = refl; are = h.are })
      | inr never ↦ inr (no_remove fields (λ n k. never (record { value = (n, tt); are = k; fits = tt })))
    ]

dot : (fields : List (List ℕ)) → Sought (codes ".") fields
dot fields = elim (none_left fields) [ inl e ↦ inl (Dot, record { name = refl; are = e }) | inr never ↦ inr (no_dot fields never) ]

-- a name is none of the seven
record IsNoName (name : List ℕ) : Type 0 where
  write : name ≡ codes "w" → ⊥
  retype : name ≡ codes "t" → ⊥
  add : name ≡ codes "a" → ⊥
  remove : name ≡ codes "r" → ⊥
  exchange : name ≡ codes "x" → ⊥
  put : name ≡ codes "p" → ⊥
  dot : name ≡ codes "." → ⊥

nothing_named : (name : List ℕ) (fields : List (List ℕ)) → IsNoName name → (line : LineOf) → HasFields name fields line → ⊥
nothing_named name fields never (Write n m bytes) h = never.write (sym h.name)
nothing_named name fields never (Retype n m) h = never.retype (sym h.name)
nothing_named name fields never (Add n m) h = never.add (sym h.name)
nothing_named name fields never (Remove n) h = never.remove (sym h.name)
nothing_named name fields never (Exchange n m) h = never.exchange (sym h.name)
nothing_named name fields never (Put n m o bytes) h = never.put (sym h.name)
nothing_named name fields never Dot h = never.dot (sym h.name)

module _ (name : List ℕ) (fields : List (List ℕ)) where
  tried : (this : List ℕ) → Sought this fields → ((name ≡ this → ⊥) → Sought name fields) → Sought name fields
  tried this found others = elim (same_lists name this) [ inl e ↦ subst (λ (n : List ℕ). Sought n fields) (sym e) found | inr ne ↦ others ne ]

  named : Sought name fields
  named =
      tried (codes "w") (write fields) (λ w. tried (codes "t") (retype fields) (λ t. tried (codes "a") (add fields) (λ a. tried (codes "r") (remove fields) (λ r.
      tried (codes "x") (exchange fields) (λ x. tried (codes "p") (put fields) (λ p. tried (codes ".") (dot fields) (λ d.
      inr (nothing_named name fields (record { write = w; retype = t; add = a; remove = r; exchange = x; put = p; dot = d })))))))))

line_so : (text : List ℕ) (fields : List (List ℕ)) → fields_in text ≡ fields → ((line : LineOf) × IsScriptLine text line) ⊎ ((line : LineOf) → IsScriptLine text line → ⊥)
line_so text [] e = let none : length (fields_in text) ≡ 0 = ap length e in absurd (omega (arith, none, length-slice_split (λ b. b == 32) text))
line_so text (name ∷ arguments) e =
    elim (named name arguments) [
      | inl h ↦ inl (h.0, record { arguments = arguments; fields = e ∙ ap (λ (n : List ℕ). n ∷ arguments) (sym h.1.name); are = h.1.are })
      | inr never ↦ inr (λ line h.
          let both : name ∷ arguments ≡ letter_of line ∷ h.arguments = sym e ∙ h.fields in
          let letter : letter_of line ≡ name = cc in
          let same : h.arguments ≡ arguments = cc in
          never line (record { name = letter; are = subst (λ (fs : List (List ℕ)). AreArguments fs line) same h.are }))
    ]

line_of_text : (text : List ℕ) → ((line : LineOf) × IsScriptLine text line) ⊎ ((line : LineOf) → IsScriptLine text line → ⊥)
line_of_text text = line_so text (fields_in text) refl

-- ---- all lines

record FirstText (bytes : List ℕ) : Type 0 where
  text : List ℕ
  others : List ℕ
  begins : BeginsWithText bytes text others

text_so : (bytes : List ℕ) (at : Option ℕ) → at ≡ position (is_it 10) bytes → 0 < length bytes → FirstText bytes
text_so bytes (Some end) e some = record { text = take end bytes; others = behind bytes end; begins = cut_line bytes end e }
text_so bytes None e some = record { text = bytes; others = take (length bytes - length bytes) (drop (length bytes) bytes); begins = last_line bytes some e }

shorter : (bytes text others : List ℕ) → BeginsWithText bytes text others → length others < length bytes
shorter bytes text others h =
    elim h.ended [
      | inl e ↦ let all = ap length e in let sum = length-append text (10 ∷ others) in omega (arith, all, sum)
      | inr e ↦ let none = ap length e.2 in let all = ap length e.1 in let some = e.0 in omega (arith, none, all, some)
    ]

abbrev Judgement : List ℕ → Type 0
Judgement bytes = ((lines : List LineOf) × IsScript bytes lines) ⊎ ((number : ℕ) × IsBadLine bytes number)

onto : (bytes text others : List ℕ) (line : LineOf) → BeginsWithText bytes text others → IsScriptLine text line → Judgement others → Judgement bytes
onto bytes text others line begins is (inl h) = inl (line ∷ h.0, (text, others, begins, is, h.1))
onto bytes text others line begins is (inr h) = inr (
  h.0 + 1,
  record {
    lines = line ∷ h.1.lines;
    behind = h.1.behind;
    good = (text, others, begins, is, h.1.good);
    text = h.1.text;
    others = h.1.others;
    next = h.1.next;
    bad = h.1.bad;
    counted = let e = h.1.counted in omega (arith, e);
  },
)

judged_within : (n : ℕ) (bytes : List ℕ) → length bytes ≤ n → Judgement bytes
judged_within zero bytes h = inl ([], nil_from_length bytes (omega (arith, h)))
judged_within (suc n) bytes h =
    elim (cases_lt 0 (length bytes)) [
      | inl some ↦
          let f = text_so bytes (position (is_it 10) bytes) refl some in
          elim (line_of_text f.text) [
            | inl line ↦ onto bytes f.text f.others line.0 f.begins line.1 (judged_within n f.others (omega (arith, shorter bytes f.text f.others f.begins)))
            | inr bad ↦ inr (1, record { lines = []; behind = bytes; good = refl; text = f.text; others = f.others; next = f.begins; bad = bad; counted = refl })
          ]
      | inr none ↦ inl ([], nil_from_length bytes (omega (arith, none)))
    ]

pub judged : (bytes : List ℕ) → Judgement bytes
judged bytes = judged_within (length bytes) bytes (omega arith)
