-- What the calls over a source and a sink do to the bytes that are left, or written, where these are told.
use Rattle.std.specs.Prelude.{◌≡◌, ◌<◌, ◌≤◌, ℕ, ◌+◌, ◌-◌, ◌*◌, ◌%◌, List, ◌++◌, length, take, Bool, true, false, Result, Ok, Err, MatchResult}
use Rattle.std.specs.List.{All}
use Rattle.std.specs.declared.option.Option.{Option}
use Rattle.mig_bytes.specs.Common.{Consumes, Appends, IsAtEnd, Keeps}
use Rattle.mig_bytes.specs.declared.stop.Got.{Got}
use Rattle.mig_bytes.specs.declared.stop.Got.TheVariants.{Whole, Short}
use Rattle.mig_bytes.specs.declared.failure.WriteFailed.{WriteFailed}

-- how many bytes make a length a multiple of 8
abbrev pub padding_len : ℕ → ℕ
padding_len len = (8 - len % 8) % 8

abbrev pub IsMultipleOf8 : ℕ → Type 0
IsMultipleOf8 n = (k : ℕ) × (n ≡ 8 * k)

-- so many bytes make the length a multiple of 8, and none fewer do
pub record IsLeastPadding (len padding : ℕ) : Type 0 where
  pub fills : IsMultipleOf8 (len + padding)
  pub least : (fewer : ℕ) → IsMultipleOf8 (len + fewer) → padding ≤ fewer

-- the buffer holds the next bytes; or the source ended after n of them, fewer than there is room for
abbrev pub Taken : Option (List ℕ) → Option (List ℕ) → List ℕ → Got → Type 0
Taken old new buf Whole = Consumes old new buf
Taken old new buf (Short n) = (n < length buf) × Consumes old new (take n buf) × IsAtEnd new

-- n bytes are gone; or all that was left, fewer than n
abbrev pub Skipped : Option (List ℕ) → Option (List ℕ) → ℕ → Bool → Type 0
Skipped old new n true = (bytes : List ℕ) × (length bytes ≡ n) × Consumes old new bytes
Skipped old new n false = (bytes : List ℕ) × (length bytes < n) × Consumes old new bytes × IsAtEnd new

-- each element is a byte
abbrev pub AreBytes : List ℕ → Type 0
AreBytes items = All (λ b. b < 256) items

-- `pass(most)` took n bytes at `Ok(n)`, none only at the end or where none were asked for, and nothing at `Err`
abbrev pub PassesOver : {E : Type 0} → Option (List ℕ) → Option (List ℕ) → ℕ → Result ℕ E → Type 0
PassesOver old new most r = MatchResult r (λ n. ((bytes : List ℕ) × AreBytes bytes × (length bytes ≡ n) × Consumes old new bytes) × (n ≡ 0 → 0 < most → IsAtEnd new)) (λ _. Keeps old new)

-- some first elements of what was left are gone, and they are bytes
pub record TakesBytes (old new : Option (List ℕ)) : Type 0 where
  pub taken : List ℕ
  pub bytes : AreBytes taken
  pub gone : Consumes old new taken

-- at most so many first elements of what was left are gone
pub record TakesFew (n : ℕ) (old new : Option (List ℕ)) : Type 0 where
  pub taken : List ℕ
  pub few : length taken ≤ n
  pub gone : Consumes old new taken

-- the vector grew by the next n bytes; or by all that was left, fewer than n
abbrev pub Grown : Option (List ℕ) → Option (List ℕ) → List ℕ → List ℕ → ℕ → Got → Type 0
Grown old new before after n Whole = (bytes : List ℕ) × (length bytes ≡ n) × (after ≡ before ++ bytes) × Consumes old new bytes
Grown old new before after n (Short m) = (bytes : List ℕ) × (length bytes ≡ m) × (m < n) × (after ≡ before ++ bytes) × Consumes old new bytes × IsAtEnd new

-- the vector grew by some first bytes of what was taken, which are some first bytes of what was left
abbrev pub GrownSome : Option (List ℕ) → Option (List ℕ) → List ℕ → List ℕ → Type 0
GrownSome old new before after = (bytes : List ℕ) × (kept : ℕ) × (after ≡ before ++ take kept bytes) × Consumes old new bytes

-- some first bytes of the text were appended, but not all
abbrev pub AppendsPart : Option (List ℕ) → Option (List ℕ) → List ℕ → Type 0
AppendsPart old new text = (n : ℕ) × (n < length text) × Appends old new (take n text)

-- all of the text was appended; after an error a part of it that isn't all
abbrev pub Puts : {X : Type 0} → List ℕ → Option (List ℕ) → Option (List ℕ) → Result X WriteFailed → Type 0
Puts text old new (Ok x) = Appends old new text
Puts text old new (Err e) = AppendsPart old new text
