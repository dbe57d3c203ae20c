-- The parts of a code that a well formed guest has: each by its row, and how many there are at most.
use Rattle.mig_guest.proofs.Common.{◌≡◌, ℕ, ◌+◌, ◌≤◌, ◌<◌, List, [], ◌∷◌, length, true, refl, sym, ap, subst, ◌∙◌, arith, T, nat_lt, ◌==◌, and_parts, eqb-true, ltb-true, nat_cmp_total, ranked, tied_itself, All-nil, All-cons, All-head, All-tail, All-filter, filter_passes, All, is_lt, nat_cmp, ordering_then, Ordering, Less, Equal, Greater, is_sorted, below_all, is_sorted-where_key, IsPart, IsFormed, width_of, GuestOf, part_cmp, Part, parts_of, vcpu_limit, PartCode, code_number, row_of, small_number}
use Rattle.std.specs.FinMap as maps
use Rattle.mig_guest.proofs.Found.{all_found}
use Rattle.mig_guest.proofs.PartCursor.{both_of}
use Rattle.mig_guest.proofs.PartOrder.{part_total, part_exact}
use Rattle.mig_guest.proofs.PartRows.{IsOf, of_part}

pub all_of : {A : Type 0} (P Q R : A → Type 0) → ((e : A) → P e → Q e → R e) → (es : List A) → All P es → All Q es → All R es
all_of P Q R go [] p q = All-nil R
all_of P Q R go (e ∷ es) p q = All-cons R e es (go e (All-head P e es p) (All-head Q e es q)) (all_of P Q R go es (All-tail P e es p) (All-tail Q e es q))

abbrev pub held_in : PartCode → GuestOf → List Part
held_in code g = parts_of (code_number code) (maps.entries g.parts)

pub parts_are : (g : GuestOf) (code : PartCode) → IsFormed g → All (IsOf code (width_of g)) (held_in code g)
parts_are g code formed =
    let es = maps.entries g.parts in
    let P : Part → Type 0 = λ p. IsPart g.kind (width_of g) p.0 p.1 in
    let Q : Part → Type 0 = λ p. (p.0.code == code_number code) ≡ true in
    all_of P Q (IsOf code (width_of g)) (λ p part is. of_part code g.kind (width_of g) p part (eqb-true p.0.code (code_number code) is)) (held_in code g)
    (All-filter (λ p. p.0.code == code_number code) P es (all_found part_total part_exact P es (maps.entries_sorted g.parts) (λ q v is. formed.parts q v (maps.get-entries g.parts q ∙ is))))
    (filter_passes (λ p. p.0.code == code_number code) es)

-- parts of which some number rises, below a limit, are no more than the limit
module _ (code : PartCode) (width limit : ℕ) (number : Part → ℕ) (low : (p : Part) → IsOf code width p → number p < limit)
    (rises : (p q : Part) → IsOf code width p → IsOf code width q → T (is_lt (part_cmp p.0 q.0)) → number p < number q) where
  few_behind : (p : Part) (ps : List Part) → T (is_sorted part_cmp (p ∷ ps)) → All (IsOf code width) (p ∷ ps) → number p + length (p ∷ ps) ≤ limit
  few_behind p [] h all = omega (arith, low p (All-head (IsOf code width) p [] all))
  few_behind p (q ∷ ps) h all =
      let (below, sorted) = both_of (below_all part_cmp p.0 (q ∷ ps)) (is_sorted part_cmp (q ∷ ps)) h in
      let (first, _) = both_of (is_lt (part_cmp p.0 q.0)) (below_all part_cmp p.0 ps) below in
      let rest = All-tail (IsOf code width) p (q ∷ ps) all in
      omega (arith, rises p q (All-head (IsOf code width) p (q ∷ ps) all) (All-head (IsOf code width) q ps rest) first, few_behind q ps sorted rest)

  few_rows : (ps : List Part) → T (is_sorted part_cmp ps) → All (IsOf code width) ps → length ps ≤ limit
  few_rows [] h all = omega arith
  few_rows (p ∷ ps) h all = omega (arith, few_behind p ps h all)

in_order : (g : GuestOf) (code : PartCode) → T (is_sorted part_cmp (held_in code g))
in_order g code = is_sorted-where_key part_cmp (λ k. k.code == code_number code) (maps.entries g.parts) (maps.entries_sorted g.parts)

-- a code whose parts have one small number each
pub few_small : (g : GuestOf) (code : PartCode) → ((key1 key2 : ℕ) → (row_of code).keys key1 key2 ≡ small_number key1 key2) → IsFormed g → length (held_in code g) ≤ vcpu_limit
few_small g code small formed = few_rows code (width_of g) vcpu_limit (λ p. p.0.key1) (λ p one. (is_small p one).0) rises (held_in code g) (in_order g code) (parts_are g code formed)
  where
    is_small : (p : Part) → IsOf code (width_of g) p → (p.0.key1 < vcpu_limit) × (p.0 ≡ record { code = code_number code; key1 = p.0.key1; key2 = 0 })
    is_small p one =
        let (low, none) = and_parts (nat_lt p.0.key1 vcpu_limit) (p.0.key2 == 0) (sym (small p.0.key1 p.0.key2) ∙ one.keys) in let key2 = eqb-true p.0.key2 0 none in
        (ltb-true p.0.key1 vcpu_limit low, λ i. record { code = one.number i; key1 = p.0.key1; key2 = key2 i })

    by : (i j : ℕ) (r : Ordering) → nat_cmp i j ≡ r → T (is_lt (ordering_then r Equal)) → i < j
    by i j Less is t = ranked i j Less (sym is)
    by i j Equal is t = absurd t
    by i j Greater is t = absurd t

    rises : (p q : Part) → IsOf code (width_of g) p → IsOf code (width_of g) q → T (is_lt (part_cmp p.0 q.0)) → p.0.key1 < q.0.key1
    rises p q one two less =
        let compared = nat_cmp p.0.key1 q.0.key1 in
        let same = (λ i. is_lt (part_cmp ((is_small p one).1 i) ((is_small q two).1 i))) ∙ ap (λ r. is_lt (ordering_then r (ordering_then compared Equal))) (tied_itself nat_cmp_total (code_number code)) in
        by p.0.key1 q.0.key1 compared refl (subst T same less)
