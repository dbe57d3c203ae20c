-- What a well formed guest says of its parts, code by code.
use Rattle.mig_canon.proofs.Common.{◌≡◌, ℕ, zero, suc, ◌+◌, ◌*◌, ◌<◌, ◌≤◌, ◌^◌, List, [], ◌∷◌, length, map, true, Option, Some, None, refl, sym, ap, subst, ◌∙◌, arith, All, Part, parts_of, parts_after, shape_of, parts_at, part_body, bodies_by_shape, contents_by_shape, IsShaped, SayAll, IsShortPart, ◌==◌, eqb-true, All-nil, All-cons, All-head, is_lt, PartCode, PartKey, part_cmp, GuestOf, Layout, Shape, Table, Single, Named, Chain, Other, table_text, canonical_bodies_say, IsFormed, IsRow, All-filter, filter_passes, AreWidths, entry_width, front_width}
use Rattle.mig_records.proofs.Rows.{all_rows}
use Rattle.mig_records.proofs.TableSpelled.{table_len}

-- ---- a walk over a code

module _ (code : ℕ) (after : Option PartKey) (es : List Part) (e : Part) (rest : List Part) (h : parts_after code after es ≡ e ∷ rest) where
  all_after : (P : Part → Type 0) → (a : Option PartKey) → All P (parts_of code es) → All P (parts_after code a es)
  all_after P None all = all
  all_after P (Some k) all = All-filter (λ p. is_lt (part_cmp k p.0)) P (parts_of code es) all

  -- what holds of all parts of the code holds of the next
  pub holds_next : (P : Part → Type 0) → All P (parts_of code es) → P e
  holds_next P all = All-head P e rest (subst (All P) h (all_after P after all))

  pub code_next : e.0.code ≡ code
  code_next = eqb-true e.0.code code (holds_next (λ p. (p.0.code == code) ≡ true) (filter_passes (λ p. p.0.code == code) es))

pub next_part : (n code : ℕ) (after : Option PartKey) (es : List Part) (e : Part) → n ≡ code → parts_after n after es ≡ e ∷ parts_after n (Some e.0) es → parts_after code after es ≡ e ∷ parts_after code (Some e.0) es
next_part n code after es e is h = subst (λ m. parts_after m after es ≡ e ∷ parts_after m (Some e.0) es) is h

-- ---- no body is too long

short_alone : (code : PartCode) (body : Part → List ℕ) (ps : List Part) → SayAll code (map body ps) (map (λ p. p ∷ []) ps) → All (λ p. length (body p) ≤ 2 ^ 27) ps
short_alone code body [] h = All-nil (λ p. length (body p) ≤ 2 ^ 27)
short_alone code body (p ∷ ps) h = All-cons (λ p. length (body p) ≤ 2 ^ 27) p ps h.0.short (short_alone code body ps h.1)

all_true : (P : Part → Type 0) → ((p : Part) → P p) → (ps : List Part) → All P ps
all_true P holds [] = All-nil P
all_true P holds (p ∷ ps) = All-cons P p ps (holds p) (all_true P holds ps)

short_by_shape : (code : PartCode) (shape : Shape) (ps : List Part) → SayAll code (bodies_by_shape shape ps) (contents_by_shape shape ps) → All (IsShortPart shape) ps
short_by_shape code (Table l) ps h = all_true (IsShortPart (Table l)) (λ p. tt) ps
short_by_shape code (Single len ignored) ps h = short_alone code (part_body (Single len ignored)) ps h
short_by_shape code (Named second ignored skips) ps h = short_alone code (part_body (Named second ignored skips)) ps h
short_by_shape code Chain ps h = short_alone code (part_body Chain) ps h
short_by_shape code Other ps h = all_true (IsShortPart Other) (λ p. omega arith) ps

pub short_parts : (code : PartCode) (g : GuestOf) → IsFormed g → All (IsShortPart (shape_of code)) (parts_at code g)
short_parts code g formed = short_by_shape code (shape_of code) (parts_at code g) (canonical_bodies_say code g formed)

-- ---- tables

-- a table of so many parts, with its length
pub record Fits (l : Layout) (ps : List Part) : Type 0 where
  pub len : length (table_text l ps) ≡ front_width l + entry_width l * length ps
  pub short : length (table_text l ps) ≤ 2 ^ 27
  pub few : length ps ≤ 2 ^ 27

at_most : (w n m : ℕ) → 0 < w → n + w * m ≤ 2 ^ 27 → m ≤ 2 ^ 27
at_most w n m some h = omega (arith, h, times w m some)
  where
    times : (w m : ℕ) → 0 < w → m ≤ w * m
    times w zero some = omega arith
    times w (suc m) some = let e : w * suc m ≡ w + w * m = grind arith in omega (arith, e, times w m some, some)

widths_by_shape : (code : PartCode) (l : Layout) → shape_of code ≡ Table l → AreWidths l
widths_by_shape code l is = (subst (IsRow code) is (all_rows code)).widths

table_fits : (code : PartCode) (l : Layout) (ps : List Part) → shape_of code ≡ Table l → (length ps ≡ 0 → ⊥) → SayAll code (bodies_by_shape (Table l) ps) (contents_by_shape (Table l) ps) → Fits l ps
table_fits code l [] is some h = absurd (some refl)
table_fits code l (p ∷ ps) is some h =
    let w = widths_by_shape code l is in
    let body = table_text l (p ∷ ps) in
    let len = table_len code l w body (p ∷ ps) (subst (λ s. IsShaped s code body (p ∷ ps)) is h.0.says) in
    record { len = len; short = h.0.short; few = at_most (entry_width l) (front_width l) (length (p ∷ ps)) (omega (arith, w.some)) (omega (arith, len, h.0.short)) }

module _ (code : PartCode) (l : Layout) (g : GuestOf) (is : shape_of code ≡ Table l) (formed : IsFormed g) where
  pub widths : AreWidths l
  widths = widths_by_shape code l is

  pub fits : (length (parts_at code g) ≡ 0 → ⊥) → Fits l (parts_at code g)
  fits some = let ps = parts_at code g in table_fits code l ps is some (subst (λ s. SayAll code (bodies_by_shape s ps) (contents_by_shape s ps)) is (canonical_bodies_say code g formed))

  pub few_rows : length (parts_at code g) < 2 ^ 32
  few_rows = by (length (parts_at code g)) refl
    where
      by : (n : ℕ) → length (parts_at code g) ≡ n → n < 2 ^ 32
      by zero e = omega arith
      by (suc n) e = let f = fits (λ z. omega (arith, e, z)) in omega (arith, f.few, e)

  -- the length that is written
  pub table_size : (n front entry : ℕ) → n ≡ length (parts_at code g) → (n ≡ 0 → ⊥) → front ≡ front_width l → entry ≡ entry_width l → front + entry * n ≡ length (table_text l (parts_at code g))
  table_size n front entry count some a b = ap (λ w. w + entry * n) a ∙ ap (λ w. front_width l + w * n) b ∙ ap (λ m. front_width l + entry_width l * m) count ∙ sym (fits (λ e. some (count ∙ e))).len

  pub table_short : (n front entry : ℕ) → n ≡ length (parts_at code g) → (n ≡ 0 → ⊥) → front ≡ front_width l → entry ≡ entry_width l → front + entry * n ≤ 2 ^ 27
  table_short n front entry count some a b = subst (λ m. m ≤ 2 ^ 27) (sym (table_size n front entry count some a b)) (fits (λ e. some (count ∙ e))).short
