-- Bytes are one script at most, or have one first bad line.
use Rattle.mig_machine_script.proofs.Common.{◌≡◌, ◌≢◌, ℕ, ◌+◌, List, [], ◌∷◌, ◌++◌, length, refl, sym, ap, subst, ◌∙◌, arith, inl, inr, All, LineOf, IsScriptLine, BeginsWithText, AreScriptLines, IsScript, IsBadLine, All-head, All-tail}
use Rattle.mig_machine_script.proofs.OneLine.{one_line}

-- ---- one first text

abbrev NoEnd : List ℕ → Type 0
NoEnd text = All (λ b. b ≢ 10) text

cut_same : (t u o p : List ℕ) → NoEnd t → NoEnd u → t ++ 10 ∷ o ≡ u ++ 10 ∷ p → (t ≡ u) × (o ≡ p)
cut_same [] [] o p h k e = (refl, cc)
cut_same [] (y ∷ u) o p h k e = let first : y ≡ 10 = cc in absurd (All-head (λ b. b ≢ 10) y u k first)
cut_same (x ∷ t) [] o p h k e = let first : x ≡ 10 = cc in absurd (All-head (λ b. b ≢ 10) x t h first)
cut_same (x ∷ t) (y ∷ u) o p h k e =
    let first : x ≡ y = cc in
    let behind : t ++ 10 ∷ o ≡ u ++ 10 ∷ p = cc in
    let same = cut_same t u o p (All-tail (λ b. b ≢ 10) x t h) (All-tail (λ b. b ≢ 10) y u k) behind in
    let others : t ≡ u = same.0 in
    (cc, same.1)

no_cut : (t u o : List ℕ) → NoEnd u → u ≡ t ++ 10 ∷ o → ⊥
no_cut [] [] o h e = cc
no_cut [] (y ∷ u) o h e = let first : y ≡ 10 = cc in All-head (λ b. b ≢ 10) y u h first
no_cut (x ∷ t) [] o h e = cc
no_cut (x ∷ t) (y ∷ u) o h e = let behind : u ≡ t ++ 10 ∷ o = cc in no_cut t u o (All-tail (λ b. b ≢ 10) y u h) behind

same_text : (bytes t u o p : List ℕ) → BeginsWithText bytes t o → BeginsWithText bytes u p → (t ≡ u) × (o ≡ p)
same_text bytes t u o p h k =
    elim h.ended [
      | inl e ↦
          elim k.ended [
            | inl f ↦ cut_same t u o p h.one k.one (sym e ∙ f)
            | inr f ↦ absurd (no_cut t u o k.one (sym f.1 ∙ e))
          ]
      | inr e ↦
          elim k.ended [
            | inl f ↦ absurd (no_cut u t p h.one (sym e.1 ∙ f))
            | inr f ↦ (sym e.1 ∙ f.1, e.2 ∙ sym f.2)
          ]
    ]

no_nil : (t o : List ℕ) → t ++ 10 ∷ o ≡ [] → ⊥
no_nil [] o e = cc
no_nil (x ∷ t) o e = cc

some_bytes : (bytes t o : List ℕ) → BeginsWithText bytes t o → bytes ≡ [] → ⊥
some_bytes bytes t o h none =
    elim h.ended [
      | inl e ↦ no_nil t o (sym e ∙ none)
      | inr e ↦ let len : length t ≡ 0 = ap length (sym e.1 ∙ none) in let some = e.0 in omega (arith, len, some)
    ]

-- ---- one list of lines

pub one_script : (bytes : List ℕ) (ls ms : List LineOf) → AreScriptLines bytes ls [] → AreScriptLines bytes ms [] → ls ≡ ms
one_script bytes [] [] h k = refl
one_script bytes [] (b ∷ ms) h k = absurd (some_bytes bytes k.0 k.1 k.2 h)
one_script bytes (a ∷ ls) [] h k = absurd (some_bytes bytes h.0 h.1 h.2 k)
one_script bytes (a ∷ ls) (b ∷ ms) h k =
    let same = same_text bytes h.0 k.0 h.1 k.1 h.2 k.2 in
    let line : a ≡ b = one_line k.0 a b (subst (λ (t : List ℕ). IsScriptLine t a) same.0 h.3) k.3 in
    let others : ls ≡ ms = one_script k.1 ls ms (subst (λ (l : List ℕ). AreScriptLines l ls []) same.1 h.4) k.4 in
    cc

-- ---- one first bad line

-- the first text is no line
record IsStuck (bytes : List ℕ) : Type 0 where
  text : List ℕ
  others : List ℕ
  next : BeginsWithText bytes text others
  bad : (line : LineOf) → IsScriptLine text line → ⊥

stuck_at : (bytes : List ℕ) (n : ℕ) (h : IsBadLine bytes n) → IsStuck h.behind
stuck_at bytes n h = record { text = h.text; others = h.others; next = h.next; bad = h.bad }

-- where the first text is no line, no line is
no_line : (bytes behind t o : List ℕ) (b : LineOf) → bytes ≡ behind → IsStuck behind → BeginsWithText bytes t o → IsScriptLine t b → ⊥
no_line bytes behind t o b e s begins is =
    let same = same_text bytes t s.text o s.others begins (subst (λ (l : List ℕ). BeginsWithText l s.text s.others) (sym e) s.next) in
    s.bad b (subst (λ (u : List ℕ). IsScriptLine u b) same.0 is)

no_script : (bytes : List ℕ) (ls ms : List LineOf) (behind : List ℕ) → AreScriptLines bytes ls behind → IsStuck behind → AreScriptLines bytes ms [] → ⊥
no_script bytes [] [] behind e s k = some_bytes behind s.text s.others s.next (sym e ∙ k)
no_script bytes [] (b ∷ ms) behind e s k = no_line bytes behind k.0 k.1 b e s k.2 k.3
no_script bytes (a ∷ ls) [] behind h s k = some_bytes bytes h.0 h.1 h.2 k
no_script bytes (a ∷ ls) (b ∷ ms) behind h s k =
    let same = same_text bytes h.0 k.0 h.1 k.1 h.2 k.2 in
    no_script k.1 ls ms behind (subst (λ (l : List ℕ). AreScriptLines l ls behind) same.1 h.4) s k.4

same_place : (bytes : List ℕ) (ls ms : List LineOf) (x y : List ℕ) → AreScriptLines bytes ls x → IsStuck x → AreScriptLines bytes ms y → IsStuck y → length ls ≡ length ms
same_place bytes [] [] x y h s k t = refl
same_place bytes [] (b ∷ ms) x y h s k t = absurd (no_line bytes x k.0 k.1 b h s k.2 k.3)
same_place bytes (a ∷ ls) [] x y h s k t = absurd (no_line bytes y h.0 h.1 a k t h.2 h.3)
same_place bytes (a ∷ ls) (b ∷ ms) x y h s k t =
    let same = same_text bytes h.0 k.0 h.1 k.1 h.2 k.2 in
    let others = same_place k.1 ls ms x y (subst (λ (l : List ℕ). AreScriptLines l ls x) same.1 h.4) s k.4 t in
    omega (arith, others)

pub never_both : (bytes : List ℕ) (lines : List LineOf) (n : ℕ) → IsScript bytes lines → IsBadLine bytes n → ⊥
never_both bytes lines n h bad = no_script bytes bad.lines lines bad.behind bad.good (stuck_at bytes n bad) h

pub one_bad_line : (bytes : List ℕ) (m n : ℕ) → IsBadLine bytes m → IsBadLine bytes n → m ≡ n
one_bad_line bytes m n h k =
    let same = same_place bytes h.lines k.lines h.behind k.behind h.good (stuck_at bytes m h) k.good (stuck_at bytes n k) in
    h.counted ∙ ap (λ (l : ℕ). l + 1) same ∙ sym k.counted
