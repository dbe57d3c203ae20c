-- Walks over the entries of a finite map in the order of their keys, and over the parts of one code.
use Rattle.mig_guest.proofs.Common.{◌≡◌, ℕ, ◌≤◌, List, [], ◌∷◌, map, filter, Bool, true, false, cond, not, Option, Some, None, IfSome, IfNone, refl, sym, ap, subst, ◌∙◌, arith, T, ◌&&◌, ◌==◌, and_right, eqb-true, tied_itself, common_steps, All-head, filter_agree, filter_passes, All, IsTotalOrder, nat_cmp, is_lt, IsAbove, is_le, ordering_then, Ordering, Less, Equal, Greater, keys_of, FinMap, is_sorted, IsAntisymmetric, below_all, PartKey, part_cmp, Part, parts_of, parts_after, parts_behind, Included, Excluded, Unbounded, is_from_start, entries_between}
use Rattle.std.proofs.Math.Bool.{and_comm}
use Rattle.std.proofs.lemmas.Map.Keys.{le_from_is_le}
use Rattle.std.specs.declared.ops.Bound.{Bound}
use Rattle.std.specs.List.Sorted.{IsStrictlySortedBy}
use Rattle.std.specs.FinMap as maps
use Rattle.mig_guest.proofs.PartOrder.{part_total}
use Rattle.mig_guest.proofs.KeyedMaps.{shown, seen, entries_seen, kept_shown}

pub both_of : (a b : Bool) → T (a && b) → T a × T b
both_of true b h = (tt, h)
both_of false b h = absurd h

pub true_of : (b : Bool) → T b → b ≡ true
true_of true h = refl
true_of false h = absurd h

and_true : (b : Bool) → (b && not false) ≡ b
and_true true = refl
and_true false = refl

-- ---- lists of which some elements are kept

module _ {A : Type 0} where
  -- two tests, one after the other
  pub kept_both : (a b : A → Bool) (es : List A) → filter a (filter b es) ≡ filter (λ e. b e && a e) es
  kept_both a b [] = refl
  kept_both a b (e ∷ es) = elim (b e) as (λ t. filter a (cond t (e ∷ filter b es) (filter b es)) ≡ cond (t && a e) (e ∷ filter (λ e. b e && a e) es) (filter (λ e. b e && a e) es)) [
    | true ↦ ap (λ l. cond (a e) (e ∷ l) l) (kept_both a b es)
    | false ↦ kept_both a b es
  ]

  kept_swap : (a b : A → Bool) (es : List A) → filter a (filter b es) ≡ filter b (filter a es)
  kept_swap a b es = kept_both a b es ∙ filter_agree (λ e. b e && a e) (λ e. a e && b e) (λ e. and_comm (b e) (a e)) es ∙ sym (kept_both b a es)

  pub kept_none : (es : List A) → filter (λ _. false) es ≡ []
  kept_none [] = refl
  kept_none (e ∷ es) = kept_none es

  pub kept_all : (es : List A) → filter (λ _. true) es ≡ es
  kept_all [] = refl
  kept_all (e ∷ es) = ap (λ l. e ∷ l) (kept_all es)

-- ---- the entries from a start on

pub less : (r : Ordering) → is_lt r ≡ true → r ≡ Less
less Less t = refl
less Equal t = cc
less Greater t = cc

-- the key is still ahead
abbrev pub is_above : Option PartKey → PartKey → Bool
is_above None k = true
is_above (Some a) k = is_lt (part_cmp a k)

pub above : (after : Option PartKey) (k : PartKey) → IsAbove after k → is_above after k ≡ true
above None k h = refl
above (Some a) k h = ap is_lt h

pub is_key_above : (after : Option PartKey) (k : PartKey) → is_above after k ≡ true → IsAbove after k
is_key_above None k h = tt
is_key_above (Some a) k h = less _ h

module _ {K : Type 0} {R : K → K → Ordering} (o : IsTotalOrder R) where
  then_less : (k x y : K) (r : Ordering) → R k x ≡ r → is_le r ≡ true → R x y ≡ Less → R k y ≡ Less
  then_less k x y Less e h l = o.trans k x y e l
  then_less k x y Equal e h l = o.congr k x y e ∙ l
  then_less k x y Greater e h l = cc

  starts_up : (lo : Bound K) (x y : K) → is_from_start R lo x ≡ true → is_lt (R x y) ≡ true → is_from_start R lo y ≡ true
  starts_up (Included k) x y h l = ap is_le (then_less k x y (R k x) refl h (less _ l))
  starts_up (Excluded k) x y h l = ap is_lt (o.trans k x y (less _ h) (less _ l))
  starts_up Unbounded x y h l = refl

  pub not_itself : (x : K) → is_lt (R x x) ≡ false
  not_itself x = ap is_lt (tied_itself o x)

  module _ {X : Type 0} where
    all_kept : (p : K → Bool) (x : K) → ((y : K) → is_lt (R x y) ≡ true → p y ≡ true) → (es : List (K × X)) → T (below_all R x es) → filter (λ e. p e.0) es ≡ es
    all_kept p x go [] h = refl
    all_kept p x go (e ∷ es) h =
        let (first, others) = both_of (is_lt (R x e.0)) (below_all R x es) h in
        ap (λ b. cond b (e ∷ filter (λ e. p e.0) es) (filter (λ e. p e.0) es)) (go e.0 (true_of _ first)) ∙ ap (λ l. e ∷ l) (all_kept p x go es others)

    -- behind the first of those that pass, where all behind one that passes do
    next_kept : (p : K → Bool) → ((x y : K) → p x ≡ true → is_lt (R x y) ≡ true → p y ≡ true) → (es rest : List (K × X)) (e : K × X) → T (is_sorted R es)
        → filter (λ f. p f.0) es ≡ e ∷ rest → filter (λ f. is_lt (R e.0 f.0)) es ≡ rest
    next_kept p up [] rest e s h = let no : ◌≡◌ {A = List (K × X)} [] (e ∷ rest) = h in cc
    next_kept p up (f ∷ fs) rest e s h =
        let (first, others) = both_of (below_all R f.0 fs) (is_sorted R fs) s in
        let above = λ (x : K). filter (λ g. is_lt (R x g.0)) fs in
        elim (p f.0) as (λ b. p f.0 ≡ b → cond b (f ∷ filter (λ g. p g.0) fs) (filter (λ g. p g.0) fs) ≡ e ∷ rest → cond (is_lt (R e.0 f.0)) (f ∷ above e.0) (above e.0) ≡ rest) [
          | true ↦ λ t h.
              let one : f ≡ e = cc in let tail : filter (λ g. p g.0) fs ≡ rest = cc in
              subst (λ (x : K × X). cond (is_lt (R x.0 f.0)) (f ∷ above x.0) (above x.0) ≡ rest) one
              (ap (λ b. cond b (f ∷ above f.0) (above f.0)) (not_itself f.0)
              ∙ all_kept (λ y. is_lt (R f.0 y)) f.0 (λ y l. l) fs first ∙ sym (all_kept p f.0 (λ y l. up f.0 y t l) fs first) ∙ tail)
          | false ↦ λ t h.
              let P : K × X → Type 0 = λ g. p g.0 ≡ true in
              let passes : p e.0 ≡ true = All-head P e rest (subst (All P) h (filter_passes (λ g. p g.0) fs)) in
              elim (is_lt (R e.0 f.0)) as (λ b. is_lt (R e.0 f.0) ≡ b → cond b (f ∷ above e.0) (above e.0) ≡ rest) [
                | true ↦ λ l. let no : false ≡ true = sym t ∙ up e.0 f.0 passes l in cc
                | false ↦ λ l. next_kept p up fs rest e others h
              ] refl
        ] refl h

    -- behind the first from a start on
    pub next_from : (lo : Bound K) (m : FinMap R X) (rest : List (K × X)) (e : K × X) → filter (λ f. is_from_start R lo f.0) (maps.entries m) ≡ e ∷ rest → filter (λ f. is_lt (R e.0 f.0)) (maps.entries m) ≡ rest
    next_from lo m rest e = next_kept (is_from_start R lo) (starts_up lo) (maps.entries m) rest e (maps.entries_sorted m)

  -- what a range without an end has, as it is seen
  pub from_range : {X Y : Type 0} → IsAntisymmetric R → (f : K → X → Y) (es : List (K × X)) (m : FinMap R Y) → seen R f es ≡ m → IsStrictlySortedBy R (keys_of es) → (lo : Bound K) (left : List (K × X))
      → left ≡ entries_between R lo Unbounded es → filter (λ e. is_from_start R lo e.0) (maps.entries m) ≡ map (shown f) left
  from_range exact f es m view order lo left is =
      ap (filter (λ e. is_from_start R lo e.0)) (ap (λ (n : FinMap R _). maps.entries n) (sym view) ∙ entries_seen o exact f es order)
      ∙ kept_shown o exact f (is_from_start R lo) es
      ∙ ap (map (shown f)) (filter_agree (λ e. is_from_start R lo e.0) (λ e. is_from_start R lo e.0 && not false) (λ e. sym (and_true (is_from_start R lo e.0))) es ∙ sym is)

-- ---- the parts of a code, from a start on

abbrev pub from_start : Bound PartKey → Part → Bool
from_start lo p = is_from_start part_cmp lo p.0

le_first : (r s : Ordering) → is_le (ordering_then r s) ≡ true → is_le r ≡ true
le_first Less s h = refl
le_first Equal s h = refl
le_first Greater s h = h

le_then : (r s : Ordering) → is_le r ≡ true → is_le s ≡ true → is_le (ordering_then r s) ≡ true
le_then Less s a b = refl
le_then Equal s a b = b
le_then Greater s a b = a

codes_rise : (x y : PartKey) → is_le (part_cmp x y) ≡ true → x.code ≤ y.code
codes_rise x y h = le_from_is_le x.code y.code (le_first (nat_cmp x.code y.code) _ h)

least_of : (code : ℕ) (x : PartKey) → (x.code == code) ≡ true → is_le (part_cmp (record { code = code; key1 = 0; key2 = 0 }) x) ≡ true
least_of code x h = le_then _ _ (le code x.code (let same = eqb-true x.code code h in omega (arith, same))) (le_then _ _ (le 0 x.key1 (omega arith)) (le 0 x.key2 (omega arith)))
  where
    le : (a b : ℕ) → a ≤ b → is_le (nat_cmp a b) ≡ true
    le a b h = grind (arith, common_steps)

-- where the parts of a code start: all behind have the code or a greater one
pub record IsStart (code : ℕ) (after : Option PartKey) (lo : Bound PartKey) : Type 0 where
  pub greater : (x : PartKey) → is_from_start part_cmp lo x ≡ true → code ≤ x.code
  pub same : (es : List Part) → parts_after code after es ≡ parts_of code (filter (from_start lo) es)

lt_le : (r : Ordering) → is_lt r ≡ true → is_le r ≡ true
lt_le r h = ap is_le (less r h)

pub is_start : (code : ℕ) (after : Option PartKey) (lo : Bound PartKey) → IfSome after (λ k. k.code ≡ code)
    → IfSome after (λ k. lo ≡ Excluded k) → IfNone after (lo ≡ Included (record { code = code; key1 = 0; key2 = 0 })) → IsStart code after lo
is_start code (Some k) lo has some none = subst (IsStart code (Some k)) (sym some) (record {
  greater = λ x a. subst (λ n. n ≤ x.code) has (codes_rise k x (lt_le _ a));
  same = λ es. kept_swap (λ e. is_lt (part_cmp k e.0)) (λ e. e.0.code == code) es;
})
is_start code None lo has some none =
    let k : PartKey = record { code = code; key1 = 0; key2 = 0 } in
    subst (IsStart code None) (sym none) (record {
      greater = λ x a. codes_rise k x a;
      same = λ es. sym (kept_both (λ e. e.0.code == code) (λ e. is_le (part_cmp k e.0)) es
          ∙ filter_agree {X = Part} (λ e. is_le (part_cmp k e.0) && (e.0.code == code)) (λ e. e.0.code == code) (λ e. elim (e.0.code == code) as (λ b. (e.0.code == code) ≡ b → (is_le (part_cmp k e.0) && b) ≡ b) [
            | true ↦ λ t. ap (λ b. b && true) (least_of code e.0 t)
            | false ↦ λ t. and_right (is_le (part_cmp k e.0)) false refl
          ] refl) es);
    })

-- ---- what is found behind a start

module _ (code : ℕ) (after : Option PartKey) (lo : Bound PartKey) (start : IsStart code after lo) (m : FinMap part_cmp (List ℕ)) where
  abbrev es : List Part
  es = maps.entries m

  -- nothing
  pub found_none : filter (from_start lo) es ≡ [] → parts_after code after es ≡ []
  found_none h = start.same es ∙ ap (parts_of code) h

  module _ (e : Part) (rest : List Part) (h : filter (from_start lo) es ≡ e ∷ rest) where
    -- a part of the code
    pub found_one : e.0.code == code ≡ true → parts_after code after es ≡ e ∷ parts_after code (Some e.0) es
    found_one is =
        start.same es ∙ ap (parts_of code) h ∙ ap (λ b. cond b (e ∷ parts_of code rest) (parts_of code rest)) is
        ∙ ap (λ l. e ∷ l) (ap (parts_of code) (sym (next_from part_total lo m rest e h)) ∙ kept_swap (λ f. f.0.code == code) (λ f. is_lt (part_cmp e.0 f.0)) es)

    differ : (a b : ℕ) → b ≤ a → (a == b) ≡ false → (c : ℕ) → a ≤ c → (c == b) ≡ false
    differ a b le ne c more = grind (arith, common_steps)

    -- a part of a greater code
    pub found_other : e.0.code == code ≡ false → parts_after code after es ≡ []
    found_other is =
        let P : Part → Type 0 = λ f. from_start lo f ≡ true in
        let least = start.greater e.0 (All-head P e rest (subst (All P) h (filter_passes (from_start lo) es))) in
        start.same es ∙ ap (parts_of code) h ∙ ap (λ b. cond b (e ∷ parts_of code rest) (parts_of code rest)) is
        ∙ ap (parts_of code) (sym (next_from part_total lo m rest e h)) ∙ kept_both (λ f. f.0.code == code) (λ f. is_lt (part_cmp e.0 f.0)) es
        ∙ filter_agree (λ f. is_lt (part_cmp e.0 f.0) && (f.0.code == code)) (λ _. false) (λ f. elim (is_lt (part_cmp e.0 f.0)) as (λ b. is_lt (part_cmp e.0 f.0) ≡ b → (b && (f.0.code == code)) ≡ false) [
          | true ↦ λ l. differ e.0.code code least is f.0.code (codes_rise e.0 f.0 (lt_le _ l))
          | false ↦ λ l. refl
        ] refl) es
        ∙ kept_none es

-- ---- what is found among all parts

pub all_behind : (after : Option PartKey) (lo : Bound PartKey) → IfSome after (λ k. lo ≡ Excluded k) → IfNone after (lo ≡ Unbounded) → (es : List Part) → parts_behind after es ≡ filter (from_start lo) es
all_behind (Some k) lo some none es = ap (λ l. filter (from_start l) es) (sym some)
all_behind None lo some none es = sym (kept_all es) ∙ ap (λ l. filter (from_start l) es) (sym none)

pub behind_one : (after : Option PartKey) (lo : Bound PartKey) → IfSome after (λ k. lo ≡ Excluded k) → IfNone after (lo ≡ Unbounded) → (m : FinMap part_cmp (List ℕ))
    → (e : Part) (rest : List Part) → filter (from_start lo) (maps.entries m) ≡ e ∷ rest → parts_behind after (maps.entries m) ≡ e ∷ parts_behind (Some e.0) (maps.entries m)
behind_one after lo some none m e rest h = all_behind after lo some none (maps.entries m) ∙ h ∙ ap (λ l. e ∷ l) (sym (next_from part_total lo m rest e h))
