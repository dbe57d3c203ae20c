-- What stands around an image looks at the parts of emulators alone, and what stands before it at their keys.
use Rattle.mig_libxl.proofs.Common.{and_parts, ◌≡◌, ℕ, ◌==◌, ◌&&◌, Bool, true, false, cond, List, [], ◌++◌, Option, Some, None, is_some, refl, sym, ap, ◌∙◌, list_any, is_emulator_code, PartMap, PartKey, has_emulators, is_of_converter, text_of_emulators, spelled, opening_text}
use Rattle.mig_canon.specs.CanonStream.{wrapper_opening, wrapper_closing}
use Rattle.mig_libxl.proofs.Canon.{none_is}
use Rattle.mig_libxl.proofs.EmulatorParts.{order_alike}
use Rattle.std.specs.FinMap as maps

-- the keys that pass a test are the same
abbrev SameKeys : (PartKey → Bool) → PartMap → PartMap → Type 0
SameKeys test m n = (q : PartKey) → test q ≡ true → is_some (maps.get m q) ≡ is_some (maps.get n q)

none_alike : (test : PartKey → Bool) (m n : PartMap) → SameKeys test m n → list_any (λ e. test e.0) (maps.entries n) ≡ false → list_any (λ e. test e.0) (maps.entries m) ≡ false
none_alike test m n same none = (none_is test m).1 (λ key bytes got. by key bytes got (test key) refl (maps.get n key) refl)
  where
    by : (key : PartKey) (bytes : List ℕ) → maps.get m key ≡ Some bytes → (b : Bool) → test key ≡ b → (o : Option (List ℕ)) → maps.get n key ≡ o → test key ≡ false
    by key bytes got false is o at = is
    by key bytes got true is None at = let no : true ≡ false = sym (ap (λ (x : Option (List ℕ)). is_some x) got) ∙ same key is ∙ ap (λ (x : Option (List ℕ)). is_some x) at in cc
    by key bytes got true is (Some other) at = (none_is test n).0 none key other at

-- one of them passes in both, or in neither
any_alike : (test : PartKey → Bool) (m n : PartMap) → SameKeys test m n → list_any (λ e. test e.0) (maps.entries m) ≡ list_any (λ e. test e.0) (maps.entries n)
any_alike test m n same = by (list_any (λ e. test e.0) (maps.entries m)) refl (list_any (λ e. test e.0) (maps.entries n)) refl
  where
    by : (a : Bool) → list_any (λ e. test e.0) (maps.entries m) ≡ a → (b : Bool) → list_any (λ e. test e.0) (maps.entries n) ≡ b → list_any (λ e. test e.0) (maps.entries m) ≡ list_any (λ e. test e.0) (maps.entries n)
    by true a true b = a ∙ sym b
    by false a false b = a ∙ sym b
    by true a false b = let no : true ≡ false = sym a ∙ none_alike test m n same b in cc
    by false a true b = let no : true ≡ false = sym b ∙ none_alike test n m (λ q is. sym (same q is)) a in cc

module _ (m n : PartMap) (same : (q : PartKey) → is_emulator_code q.code ≡ true → is_some (maps.get m q) ≡ is_some (maps.get n q)) where
  pub some_alike : has_emulators m ≡ has_emulators n
  some_alike = any_alike (λ q. is_emulator_code q.code) m n same

  converter_alike : is_of_converter m ≡ is_of_converter n
  converter_alike = any_alike (λ q. is_emulator_code q.code && (q.key1 == 0)) m n (λ q is. same q (and_parts (is_emulator_code q.code) (q.key1 == 0) is).0)

  pub opening_alike : wrapper_opening m ≡ wrapper_opening n
  unfolding wrapper_opening
  opening_alike = let some = some_alike in let legacy = converter_alike in λ i. cond (some i) (opening_text (legacy i)) []

module _ (m n : PartMap) (same : (q : PartKey) → is_emulator_code q.code ≡ true → maps.get m q ≡ maps.get n q) where
  pub closing_alike : wrapper_closing m ≡ wrapper_closing n
  unfolding wrapper_closing
  closing_alike =
      let some = some_alike m n (λ q is. ap (λ (o : Option (List ℕ)). is_some o) (same q is)) in let order = order_alike m n same in
      λ i. cond (some i) (text_of_emulators (order i) ++ spelled 0 []) []
