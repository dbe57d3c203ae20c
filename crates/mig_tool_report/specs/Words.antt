-- The words of a command line, and the commands that they name.
use Rattle.std.specs.Prelude.{◌≡◌, ◌≢◌, ◌⊎◌, ◌<◌, ◌≤◌, ◌^◌, ◌+◌, ◌-◌, ◌*◌, ◌&&◌, ℕ, List, [], ◌∷◌, length, map, codes, decimal, string_bytes, slice_index, nat_le, Option, Some, None, option_and_then, if◌then◌else◌}
use Rattle.std.specs.declared.string.String.{String}
use Rattle.mig_tool_report.specs.Common.{vcpu_limit}
use Rattle.mig_pagetypes.specs.Limits.{machine_limit, most_frames}
use Rattle.mig_tool_report.specs.declared.command.Command.{Command}
use Rattle.mig_tool_report.specs.declared.command.Command.TheVariants.{Normalise, Restore, Verify, Convert, Save, Exercise, Walk, WalkImage, Relay, Show}

abbrev pub texts_of : {Z : Type 0} → List (String Z) → List (List ℕ)
texts_of words = map string_bytes words

-- the base of `restore` where none is given
abbrev pub usual_base : ℕ
usual_base = 1048576

-- the greatest base: from there on as many frames as a guest may have lie below the limit of machine frames
abbrev pub most_base : ℕ
most_base = machine_limit - most_frames

abbrev pub IsBase : ℕ → Type 0
IsBase base = (0 < base) × (base ≤ most_base)

-- how few and how many frames the host of `exercise` may have
abbrev pub least_exercise_frames : ℕ
least_exercise_frames = 8

abbrev pub most_exercise_frames : ℕ
most_exercise_frames = 65536

abbrev pub IsFrameNumber : ℕ → Type 0
IsFrameNumber frames = (least_exercise_frames ≤ frames) × (frames ≤ most_exercise_frames)

-- what a letter stands for in a number to base 16, in lower case: 0 to 9, and a to f for 10 to 15
abbrev pub hex_value : ℕ → Option ℕ
hex_value letter = if nat_le 48 letter && nat_le letter 57 then Some (letter - 48) else if nat_le 97 letter && nat_le letter 102 then Some (letter - 87) else None

-- the number to base 16 that letters spell behind those of n; none where one of them stands for nothing
abbrev pub hex_behind : ℕ → List ℕ → Option ℕ
hex_behind n [] = Some n
hex_behind n (letter ∷ letters) = option_and_then (λ value. hex_behind (16 * n + value) letters) (hex_value letter)

-- a word is an address in 1 to 16 digits to base 16, in lower case and without leading zeros; 0 is one digit
pub record IsAddress (word : List ℕ) (address : ℕ) : Type 0 where
  pub some : 1 ≤ length word
  pub few : length word ≤ 16
  pub first : 2 ≤ length word → slice_index word 0 ≢ 48
  pub spells : hex_behind 0 word ≡ Some address

-- two words are a vCPU's id and an address
pub record ArePlace (vcpu address : List ℕ) (id at : ℕ) : Type 0 where
  pub id_is : vcpu ≡ decimal id
  pub id_small : id < vcpu_limit
  pub address_is : IsAddress address at

-- the words are this one, a vCPU's id and an address
pub record NamePlace (word : List ℕ) (words : List (List ℕ)) (id at : ℕ) : Type 0 where
  pub vcpu : List ℕ
  pub address : List ℕ
  pub words_are : words ≡ word ∷ vcpu ∷ address ∷ []
  pub place : ArePlace vcpu address id at

-- the words name this command; a number is written in decimal digits, without a sign and without leading zeros
abbrev pub Names : List (List ℕ) → Command → Type 0
Names words Normalise = words ≡ codes "normalise" ∷ []
Names words Verify = words ≡ codes "verify" ∷ []
Names words Convert = words ≡ codes "convert" ∷ []
Names words Save = words ≡ codes "save" ∷ []
Names words Relay = words ≡ codes "relay" ∷ []
Names words Show = words ≡ codes "show" ∷ []
Names words (Restore base) = ((words ≡ codes "restore" ∷ []) × (base ≡ usual_base)) ⊎ ((words ≡ codes "restore" ∷ decimal base ∷ []) × IsBase base)
Names words (Exercise seed frames) = (words ≡ codes "exercise" ∷ decimal seed ∷ decimal frames ∷ []) × (seed < 2 ^ 64) × IsFrameNumber frames
Names words (Walk id at) = NamePlace (codes "walk") words id at
Names words (WalkImage id at) = NamePlace (codes "walkimage") words id at
