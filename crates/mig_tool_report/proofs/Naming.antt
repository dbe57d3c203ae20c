-- Words name one command at most.
use Rattle.mig_tool_report.proofs.Common.{◌≡◌, ◌+◌, ◌*◌, Some, ℕ, ◌<◌, ◌^◌, List, [], length, get_or, sym, ap, ◌∙◌, refl, arith, IsBase, IsFrameNumber, Names, Command, inl, inr, decimal_injective, hex_behind, NamePlace}
use Rattle.mig_headers.specs.RecordTypes.{vcpu_limit}
use Rattle.mig_tool_report.specs.declared.command.Command.TheVariants.{Normalise, Restore, Verify, Convert, Save, Exercise, Walk, WalkImage, Relay, Show}

-- the third letter of the first word, and how long that is
abbrev initial : List (List ℕ) → ℕ
initial words = get_or (get_or words 0 []) 2 0 + 256 * length (get_or words 0 [])

abbrev named : Command → ℕ
named Normalise = 114 + 256 * 9
named Verify = 114 + 256 * 6
named Convert = 110 + 256 * 7
named Save = 118 + 256 * 4
named (Restore base) = 115 + 256 * 7
named (Exercise seed frames) = 101 + 256 * 8
named (Walk id at) = 108 + 256 * 4
named (WalkImage id at) = 108 + 256 * 9
named Relay = 108 + 256 * 5
named Show = 111 + 256 * 4

begins : (words : List (List ℕ)) (command : Command) → Names words command → initial words ≡ named command
begins words Normalise h = ap initial h
begins words Verify h = ap initial h
begins words Convert h = ap initial h
begins words Save h = ap initial h
begins words Relay h = ap initial h
begins words Show h = ap initial h
begins words (Restore base) (inl (h, e)) = ap initial h
begins words (Restore base) (inr (h, e)) = ap initial h
begins words (Exercise seed frames) h = ap initial h.0
begins words (Walk id at) h = ap initial h.words_are
begins words (WalkImage id at) h = ap initial h.words_are

small : (base : ℕ) → IsBase base → base < 2 ^ 64
small base h = omega (arith, h.1)

second : List (List ℕ) → List ℕ
second words = get_or words 1 []

same_base : (words : List (List ℕ)) (a b : ℕ) → Names words (Restore a) → Names words (Restore b) → a ≡ b
unfolding second
same_base words a b (inl (h, e)) (inl (k, f)) = e ∙ sym f
same_base words a b (inl (h, e)) (inr (k, f)) = let lengths : 1 ≡ 2 = ap length (sym h ∙ k) in absurd (omega (arith, lengths))
same_base words a b (inr (h, e)) (inl (k, f)) = let lengths : 2 ≡ 1 = ap length (sym h ∙ k) in absurd (omega (arith, lengths))
same_base words a b (inr (h, e)) (inr (k, f)) = decimal_injective a b (small a e) (small b f) (ap second (sym h ∙ k))

third : List (List ℕ) → List ℕ
third words = get_or words 2 []

same_numbers : (words : List (List ℕ)) (a b n m : ℕ) → Names words (Exercise a n) → Names words (Exercise b m) → (a ≡ b) × (n ≡ m)
unfolding second third
same_numbers words a b n m h k =
    let fits : (x : ℕ) → IsFrameNumber x → x < 2 ^ 64 = λ x is. omega (arith, is.1) in
    let same = sym h.0 ∙ k.0 in
    (decimal_injective a b h.1 k.1 (ap second same), decimal_injective n m (fits n h.2) (fits m k.2) (ap third same))

same_place : (word : List ℕ) (words : List (List ℕ)) (a b x y : ℕ) → NamePlace word words a x → NamePlace word words b y → (a ≡ b) × (x ≡ y)
unfolding second third
same_place word words a b x y h k =
    let same = sym h.words_are ∙ k.words_are in
    let vcpu : h.vcpu ≡ k.vcpu = ap second same in
    let address : h.address ≡ k.address = ap third same in
    let fits : (id : ℕ) → id < vcpu_limit → id < 2 ^ 64 = λ id is. omega (arith, is) in
    let some : Some x ≡ Some y = sym h.place.address_is.spells ∙ ap (hex_behind 0) address ∙ k.place.address_is.spells in
    (decimal_injective a b (fits a h.place.id_small) (fits b k.place.id_small) (sym h.place.id_is ∙ vcpu ∙ k.place.id_is), cc)

pub same_command : (words : List (List ℕ)) (c d : Command) → Names words c → Names words d → c ≡ d
same_command words Normalise Normalise h k = refl
same_command words Verify Verify h k = refl
same_command words Convert Convert h k = refl
same_command words Save Save h k = refl
same_command words Relay Relay h k = refl
same_command words Show Show h k = refl
same_command words (Restore a) (Restore b) h k = ap (λ (n : ℕ). Restore n) (same_base words a b h k)
same_command words (Exercise a n) (Exercise b m) h k = let (e, f) = same_numbers words a b n m h k in ap (λ (x : ℕ). Exercise x n) e ∙ ap (λ (y : ℕ). Exercise b y) f
same_command words (Walk a x) (Walk b y) h k = let (e, f) = same_place _ words a b x y h k in λ i. Walk (e i) (f i)
same_command words (WalkImage a x) (WalkImage b y) h k = let (e, f) = same_place _ words a b x y h k in λ i. WalkImage (e i) (f i)
same_command words c d h k = absurd (omega (arith, sym (begins words c h) ∙ begins words d k))
