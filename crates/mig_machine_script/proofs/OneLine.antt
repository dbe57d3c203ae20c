-- A text is one line at most.
use Rattle.mig_machine_script.proofs.Common.{◌≡◌, ℕ, List, [], ◌∷◌, length, refl, sym, subst, ◌∙◌, arith, LineOf, IsNumber, IsHex, AreNumbers, AreArguments, IsScriptLine, letter_of, Write, Retype, Add, Remove, Exchange, Put, Dot, decimal_injective}
use Rattle.hex.proofs.HexLemmas.{decode_of-same}
use Rattle.mig_machine_script.proofs.FieldsSaid.{initial}

same_number : (field : List ℕ) (a b : ℕ) → IsNumber field a → IsNumber field b → a ≡ b
same_number field a b h k = decimal_injective a b h.small k.small (sym h.digits ∙ k.digits)

same_numbers : (fields : List (List ℕ)) (ns ms : List ℕ) (os ps : List (List ℕ)) → length ns ≡ length ms → AreNumbers fields ns os → AreNumbers fields ms ps → (ns ≡ ms) × (os ≡ ps)
same_numbers fields [] [] os ps e h k = (refl, sym h ∙ k)
same_numbers fields [] (m ∷ ms) os ps e h k = absurd (omega (arith, e))
same_numbers fields (n ∷ ns) [] os ps e h k = absurd (omega (arith, e))
same_numbers [] (n ∷ ns) (m ∷ ms) os ps e h k = absurd h
same_numbers (field ∷ fields) (n ∷ ns) (m ∷ ms) os ps e h k =
    let first : n ≡ m = same_number field n m h.0 k.0 in
    let others = same_numbers fields ns ms os ps (omega (arith, e)) h.1 k.1 in
    let behind : ns ≡ ms = others.0 in
    (cc, others.1)

same_bytes : (a b : List ℕ) (x y : List ℕ) → a ∷ [] ≡ b ∷ [] → IsHex a x → IsHex b y → x ≡ y
same_bytes a b x y e h k =
    let one : a ≡ b = cc in
    decode_of-same b x y (subst (λ (t : List ℕ). IsHex t x) one h).digits k.digits

same_line : (fields : List (List ℕ)) (a b : LineOf) → letter_of a ≡ letter_of b → AreArguments fields a → AreArguments fields b → a ≡ b
same_line fields (Write p a x) (Write q b y) e h k =
    let same = same_numbers fields (p ∷ a ∷ []) (q ∷ b ∷ []) (h.0 ∷ []) (k.0 ∷ []) refl h.1 k.1 in
    let numbers : p ∷ a ∷ [] ≡ q ∷ b ∷ [] = same.0 in
    let bytes : x ≡ y = same_bytes h.0 k.0 x y same.1 h.2 k.2 in
    cc
same_line fields (Put p a m x) (Put q b n y) e h k =
    let same = same_numbers fields (p ∷ a ∷ m ∷ []) (q ∷ b ∷ n ∷ []) (h.0 ∷ []) (k.0 ∷ []) refl h.1 k.1 in
    let numbers : p ∷ a ∷ m ∷ [] ≡ q ∷ b ∷ n ∷ [] = same.0 in
    let bytes : x ≡ y = same_bytes h.0 k.0 x y same.1 h.2 k.2 in
    cc
same_line fields (Retype p a) (Retype q b) e h k = let numbers : p ∷ a ∷ [] ≡ q ∷ b ∷ [] = (same_numbers fields (p ∷ a ∷ []) (q ∷ b ∷ []) [] [] refl h k).0 in cc
same_line fields (Add p a) (Add q b) e h k = let numbers : p ∷ a ∷ [] ≡ q ∷ b ∷ [] = (same_numbers fields (p ∷ a ∷ []) (q ∷ b ∷ []) [] [] refl h k).0 in cc
same_line fields (Exchange p a) (Exchange q b) e h k = let numbers : p ∷ a ∷ [] ≡ q ∷ b ∷ [] = (same_numbers fields (p ∷ a ∷ []) (q ∷ b ∷ []) [] [] refl h k).0 in cc
same_line fields (Remove p) (Remove q) e h k = let numbers : p ∷ [] ≡ q ∷ [] = (same_numbers fields (p ∷ []) (q ∷ []) [] [] refl h k).0 in cc
same_line fields Dot Dot e h k = refl
same_line fields a b e h k = let letters = initial (letter_of a) (letter_of b) e in absurd (omega (arith, letters))

pub one_line : (text : List ℕ) (a b : LineOf) → IsScriptLine text a → IsScriptLine text b → a ≡ b
one_line text a b h k =
    let fields : letter_of a ∷ h.arguments ≡ letter_of b ∷ k.arguments = sym h.fields ∙ k.fields in
    let letters : letter_of a ≡ letter_of b = cc in
    let arguments : h.arguments ≡ k.arguments = cc in
    same_line k.arguments a b letters (subst (λ (fs : List (List ℕ)). AreArguments fs a) arguments h.are) k.are
