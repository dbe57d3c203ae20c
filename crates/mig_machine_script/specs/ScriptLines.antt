-- The lines of a script: what each says, and how it is written. Numbers are written in decimal digits without leading zeros,
-- bytes in hexadecimal digits of either case, and one space stands between two fields.
use Rattle.std.specs.Prelude.{◌≡◌, ℕ, zero, suc, ◌<◌, ◌≤◌, ◌^◌, ◌==◌, List, [], ◌∷◌, length, codes, decimal, Ok, refl}
use Rattle.mig_machine_script.specs.Common.{slice_split}
use Rattle.std.specs.Coded.{Coded, code_by, coded_ℕ, coded_list}
use Rattle.hex.specs.Hex.{decode_of}
use Rattle.mig_machine_script.specs.declared.script.Line.{Line}
use Rattle.mig_machine_script.specs.declared.script.Line.TheVariants as lines

-- what a line says
pub data LineOf : Type 0 where
  Write : ℕ → ℕ → List ℕ → LineOf  -- a frame number, an offset in its page, and bytes
  Retype : ℕ → ℕ → LineOf  -- a frame number, and the number of a type
  Add : ℕ → ℕ → LineOf  -- a frame number and a machine frame
  Remove : ℕ → LineOf  -- a frame number
  Exchange : ℕ → ℕ → LineOf  -- a frame number and a machine frame
  Put : ℕ → ℕ → ℕ → List ℕ → LineOf  -- the code and the two keys of a part, and bytes
  Dot : LineOf  -- a group ends here

-- what a line that was read says
abbrev pub line_said : Line → LineOf
line_said (lines.Write pfn at bytes) = Write pfn at bytes.items
line_said (lines.Retype pfn kind) = Retype pfn kind
line_said (lines.Add pfn mfn) = Add pfn mfn
line_said (lines.Remove pfn) = Remove pfn
line_said (lines.Exchange pfn mfn) = Exchange pfn mfn
line_said (lines.Put code first second bytes) = Put code first second bytes.items
line_said lines.Dot = Dot

-- the fields of a text, between its spaces
abbrev pub fields_in : List ℕ → List (List ℕ)
fields_in text = slice_split (λ b. b == 32) text

-- what is in front of its arguments
abbrev pub letter_of : LineOf → List ℕ
letter_of (Write pfn at bytes) = codes "w"
letter_of (Retype pfn type) = codes "t"
letter_of (Add pfn mfn) = codes "a"
letter_of (Remove pfn) = codes "r"
letter_of (Exchange pfn mfn) = codes "x"
letter_of (Put code first second bytes) = codes "p"
letter_of Dot = codes "."

-- a field is this number, which has 64 bits
pub record IsNumber (field : List ℕ) (n : ℕ) : Type 0 where
  pub small : n < 2 ^ 64
  pub digits : field ≡ decimal n

-- a field is these bytes, of which there is one at least, two hexadecimal digits each
pub record IsHex (field bytes : List ℕ) : Type 0 where
  pub some : 2 ≤ length field
  pub digits : decode_of field ≡ Ok bytes

-- fields are these numbers, and then these fields
abbrev pub AreNumbers : List (List ℕ) → List ℕ → List (List ℕ) → Type 0
AreNumbers fields [] others = fields ≡ others
AreNumbers [] (n ∷ ns) others = ⊥
AreNumbers (field ∷ fields) (n ∷ ns) others = IsNumber field n × AreNumbers fields ns others

-- fields are the arguments of the line
abbrev pub AreArguments : List (List ℕ) → LineOf → Type 0
AreArguments fields (Write pfn at bytes) = (hex : List ℕ) × AreNumbers fields (pfn ∷ at ∷ []) (hex ∷ []) × IsHex hex bytes
AreArguments fields (Retype pfn type) = AreNumbers fields (pfn ∷ type ∷ []) []
AreArguments fields (Add pfn mfn) = AreNumbers fields (pfn ∷ mfn ∷ []) []
AreArguments fields (Remove pfn) = AreNumbers fields (pfn ∷ []) []
AreArguments fields (Exchange pfn mfn) = AreNumbers fields (pfn ∷ mfn ∷ []) []
AreArguments fields (Put code first second bytes) = (hex : List ℕ) × AreNumbers fields (code ∷ first ∷ second ∷ []) (hex ∷ []) × IsHex hex bytes
AreArguments fields Dot = fields ≡ []

-- a text is this line: its name, and its arguments
pub record IsScriptLine (text : List ℕ) (line : LineOf) : Type 0 where
  pub arguments : List (List ℕ)
  pub fields : fields_in text ≡ letter_of line ∷ arguments
  pub are : AreArguments arguments line

-- ---- how a line is stored: the number of its kind, and then its numbers

abbrev pub line_numbers : LineOf → List ℕ
line_numbers (Write pfn at bytes) = 0 ∷ pfn ∷ at ∷ bytes
line_numbers (Retype pfn type) = 1 ∷ pfn ∷ type ∷ []
line_numbers (Add pfn mfn) = 2 ∷ pfn ∷ mfn ∷ []
line_numbers (Remove pfn) = 3 ∷ pfn ∷ []
line_numbers (Exchange pfn mfn) = 4 ∷ pfn ∷ mfn ∷ []
line_numbers (Put code first second bytes) = 5 ∷ code ∷ first ∷ second ∷ bytes
line_numbers Dot = []

abbrev pub line_of_numbers : List ℕ → LineOf
line_of_numbers (zero ∷ pfn ∷ at ∷ bytes) = Write pfn at bytes
line_of_numbers (suc zero ∷ pfn ∷ type ∷ _) = Retype pfn type
line_of_numbers (suc (suc zero) ∷ pfn ∷ mfn ∷ _) = Add pfn mfn
line_of_numbers (suc (suc (suc zero)) ∷ pfn ∷ _) = Remove pfn
line_of_numbers (suc (suc (suc (suc zero))) ∷ pfn ∷ mfn ∷ _) = Exchange pfn mfn
line_of_numbers (suc (suc (suc (suc (suc zero)))) ∷ code ∷ first ∷ second ∷ bytes) = Put code first second bytes
line_of_numbers _ = Dot

pub line_again : (line : LineOf) → line_of_numbers (line_numbers line) ≡ line
line_again (Write pfn at bytes) = refl
line_again (Retype pfn type) = refl
line_again (Add pfn mfn) = refl
line_again (Remove pfn) = refl
line_again (Exchange pfn mfn) = refl
line_again (Put code first second bytes) = refl
line_again Dot = refl

abbrev pub line_code : Coded LineOf
line_code = code_by (List ℕ) (coded_list coded_ℕ) line_numbers line_of_numbers line_again
