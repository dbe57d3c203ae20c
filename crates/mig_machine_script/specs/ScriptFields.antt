-- What is left of a text's fields, and which lines they say.
use Rattle.std.specs.Prelude.{◌≡◌, List, [], Option, Some, None, ℕ}
use Rattle.mig_machine_script.specs.ScriptLines.{LineOf, fields_in, letter_of, AreArguments}

-- the fields of the text that is left, where one is
abbrev pub fields_left : Option (List ℕ) → List (List ℕ)
fields_left None = []
fields_left (Some text) = fields_in text

-- a line has this name, and these fields are its arguments
pub record HasFields (first : List ℕ) (fields : List (List ℕ)) (line : LineOf) : Type 0 where
  pub name : letter_of line ≡ first
  pub are : AreArguments fields line
