-- What fields say, and what no line has.
use Rattle.mig_machine_script.proofs.Common.{◌≡◌, ℕ, ◌<◌, true, List, [], ◌∷◌, length, get_or, Option, Some, None, Result, Ok, Err, sym, ap, subst, arith, decimal, codes, ◌==◌, option_copied, length-slice_split, fields_left, HasFields, LineOf, IsNumber, IsHex, AreNumbers, letter_of, fields_in, Write, Put, Dot, Bor, IsAscii-decimal}
use Rattle.std.specs.Prelude.{IfNone, is_some}
use Rattle.std.specs.Str.{IsUtf8}
use Rattle.std.proofs.lemmas.Str.{IsUtf8-from_ascii}

-- what holds anyway holds where there is no value
pub if_none : {X : Type 0} {P : Type 0} (r : Option X) → P → IfNone r P
if_none None p = p
if_none (Some x) p = tt

pub at_none : {X : Type 0} {P : Type 0} (r : Option X) → r ≡ None → IfNone r P → P
at_none None e h = h
at_none (Some x) e h = cc

pub apart : {E : Type 0} (e : E) (n : ℕ) → ◌≡◌ {A = Result ℕ E} (Err e) (Ok n) → ⊥
apart e n h = cc

pub same : {E : Type 0} (m n : ℕ) → ◌≡◌ {A = Result ℕ E} (Ok m) (Ok n) → m ≡ n
same m n h = cc

pub number_is_text : (field : List ℕ) (n : ℕ) → IsNumber field n → IsUtf8 field
number_is_text field n h = subst IsUtf8 (sym h.digits) (IsUtf8-from_ascii (decimal n) (IsAscii-decimal n h.small))

-- ---- fields one after another

some_fields : (text : List ℕ) → 0 < length (fields_in text)
some_fields text = omega (arith, length-slice_split (λ b. b == 32) text)

pub no_more : (r : Option (Bor (List ℕ))) → is_some r ≡ true → fields_left (option_copied r) ≡ [] → ⊥
no_more None is none = cc
no_more (Some text) is none = let e : length (fields_in text.now) ≡ 0 = ap length none in omega (arith, some_fields text.now)

-- the fields behind the first, when the first is a number
pub behind_one : (fields behind others : List (List ℕ)) (a b : ℕ) (ns : List ℕ) → AreNumbers fields (a ∷ []) behind → AreNumbers fields (b ∷ ns) others → AreNumbers behind ns others
behind_one [] behind others a b ns h k = absurd h
behind_one (field ∷ fields) behind others a b ns h k = subst (λ (l : List (List ℕ)). AreNumbers l ns others) h.1 k.1

-- ---- no line

pub initial : (l m : List ℕ) → l ≡ m → get_or l 0 0 ≡ get_or m 0 0
initial l m e = ap (λ (t : List ℕ). get_or t 0 0) e

pub no_write : (fields : List (List ℕ)) → ((pfn at : ℕ) (hex bytes : List ℕ) → AreNumbers fields (pfn ∷ at ∷ []) (hex ∷ []) → IsHex hex bytes → ⊥) → (line : LineOf) → HasFields (codes "w") fields line → ⊥
no_write fields none (Write pfn at bytes) h = none pfn at h.are.0 bytes h.are.1 h.are.2
no_write fields none line h = let e = initial (letter_of line) (codes "w") h.name in absurd (omega (arith, e))

pub no_put : (fields : List (List ℕ)) → ((code first second : ℕ) (hex bytes : List ℕ) → AreNumbers fields (code ∷ first ∷ second ∷ []) (hex ∷ []) → IsHex hex bytes → ⊥) → (line : LineOf) → HasFields (codes "p") fields line → ⊥
no_put fields none (Put code first second bytes) h = none code first second h.are.0 bytes h.are.1 h.are.2
no_put fields none line h = let e = initial (letter_of line) (codes "p") h.name in absurd (omega (arith, e))

pub no_dot : (fields : List (List ℕ)) → (fields ≡ [] → ⊥) → (line : LineOf) → HasFields (codes ".") fields line → ⊥
no_dot fields none Dot h = none h.are
no_dot fields none line h = let e = initial (letter_of line) (codes ".") h.name in absurd (omega (arith, e))
