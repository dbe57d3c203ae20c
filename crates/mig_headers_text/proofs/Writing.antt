-- Texts that are written a part at a time.
use Rattle.std.proofs.Common.{List, ℕ, [], ◌∷◌, ◌++◌, codes, Option, Result, ap, append-nil}
use Rattle.std.specs.Io.KnownBytes.{Appends}
use Rattle.mig_bytes.specs.declared.failure.WriteFailed.{WriteFailed}
use Rattle.mig_bytes.specs.Bytes.{Puts}
use Rattle.mig_bytes.proofs.Texts.{puts_then, puts_same}
use Rattle.mig_headers_text.specs.Texts.{spaced}

-- a word, and a last one
pub two_words : {X : Type 0} (first second : List ℕ) (a b c : Option (List ℕ)) (r : Result X WriteFailed) → Appends a b (codes " " ++ first) → Puts (codes " " ++ second) b c r
    → Puts (spaced (first ∷ second ∷ [])) a c r
two_words first second a b c r p q =
    puts_then (codes " " ++ first) (spaced (second ∷ [])) a b c r p (puts_same _ _ b c r (ap (λ l. codes " " ++ l) (append-nil second)) q)
