-- The frames of the host that a guest becomes: their machine frames are counted up in the order of the frames.
use Rattle.mig_host.proofs.Common.{◌≡◌, ℕ, ◌+◌, ◌<◌, List, [], ◌∷◌, ◌++◌, T, length, map, refl, sym, ap, ◌∙◌, arith, append_assoc, AllByRecursion, is_lt, nat_cmp, is_sorted, entries_sorted, below_all, both_of, subst, FrameOf, FrameMap, GuestOf, Kind, Hvm, Pv, with_machine, with_machines, with_machines_from, hosted, hosted_width, least_width, localised, localised_frame, localised_of, mfn_in, nat_cmp_total, nat_cmp-IsAntisymmetric, nat_lt, rank_in}
use Rattle.std.proofs.Common.{drop, length-append, suc, zero}
use Rattle.std.specs.FinMap as maps
use Rattle.mig_pvtables.proofs.EachValue.{count_each}
use Rattle.mig_host.proofs.HostMaps.{entries_with_machines}
use Rattle.mig_host.proofs.InOrder.{nat_rises}
use Rattle.mig_host.proofs.Ranks.{below, below_next, counts}

-- ---- how many entries lie before one

above_all : (k : ℕ) (es : List (ℕ × FrameOf)) → T (below_all nat_cmp k es) → AllByRecursion (λ (e : ℕ × FrameOf). k < e.0) es
above_all k [] all = tt
above_all k (e ∷ es) all =
    let (first, others) = both_of (is_lt (nat_cmp k e.0)) (below_all nat_cmp k es) all in
    (nat_rises k e.0 first, above_all k es others)

above_at : (k : ℕ) (front : List (ℕ × FrameOf)) (e : ℕ × FrameOf) (es : List (ℕ × FrameOf)) → AllByRecursion (λ (x : ℕ × FrameOf). k < x.0) (front ++ e ∷ es) → k < e.0
above_at k [] e es all = all.0
above_at k (f ∷ front) e es all = above_at k front e es all.1

none_below : (p : ℕ) (es : List (ℕ × FrameOf)) → AllByRecursion (λ (x : ℕ × FrameOf). p < x.0) es → below p es ≡ 0
none_below p [] all = refl
none_below p (e ∷ es) all = omega (arith, all.0, below_next p e es, counts e.0 p, none_below p es all.1)

-- of entries in order, those before one lie below it
below_front : (front : List (ℕ × FrameOf)) (e : ℕ × FrameOf) (es : List (ℕ × FrameOf)) → T (is_sorted nat_cmp (front ++ e ∷ es)) → below e.0 (front ++ e ∷ es) ≡ length front
below_front [] e es sorted =
    let (first, others) = both_of (below_all nat_cmp e.0 es) (is_sorted nat_cmp es) sorted in
    omega (arith, below_next e.0 e es, counts e.0 e.0, none_below e.0 es (above_all e.0 es first))
below_front (f ∷ front) e es sorted =
    let (first, others) = both_of (below_all nat_cmp f.0 (front ++ e ∷ es)) (is_sorted nat_cmp (front ++ e ∷ es)) sorted in
    omega (arith, below_next e.0 f (front ++ e ∷ es), counts f.0 e.0, above_at f.0 front e es (above_all f.0 (front ++ e ∷ es) first), below_front front e es others)

-- ---- machine frames by rank

-- the entries behind so many get the machine frames behind so many
ranked : (base : ℕ) (all front es : List (ℕ × FrameOf)) → all ≡ front ++ es → T (is_sorted nat_cmp (front ++ es)) → map (λ (e : ℕ × FrameOf). (e.0, with_machine e.1 (base + below e.0 all))) es ≡ with_machines_from (base + length front) es
ranked base all front [] is sorted = refl
ranked base all front (e ∷ es) is sorted =
    let here : base + below e.0 all ≡ base + length front = ap (λ l. base + below e.0 l) is ∙ ap (λ n. base + n) (below_front front e es sorted) in
    let joined : (front ++ e ∷ []) ++ es ≡ front ++ e ∷ es = append_assoc front (e ∷ []) es in
    let size : base + length (front ++ e ∷ []) ≡ base + length front + 1 = omega (arith, length-append front (e ∷ [])) in
    let others = ranked base all (front ++ e ∷ []) es (is ∙ sym joined) (subst (λ (l : List (ℕ × FrameOf)). T (is_sorted nat_cmp l)) (sym joined) sorted) ∙ ap (λ n. with_machines_from n es) size in
    λ i. (e.0, with_machine e.1 (here i)) ∷ others i

-- ---- the host that a guest becomes

module _ (g : GuestOf) (base : ℕ) where
  -- the guest as it stands there
  abbrev there : Kind → FrameMap
  there k = (localised_of k (mfn_in g.frames base) g).frames

  -- as many of its frames lie below a number
  as_many : (k : Kind) (p : ℕ) → rank_in g.frames p ≡ rank_in (there k) p
  as_many Hvm p = refl
  as_many Pv p = sym (count_each nat_cmp_total nat_cmp-IsAntisymmetric (localised_frame g.parts (mfn_in g.frames base)) (λ q. nat_lt q p) g.frames)

  frames_there : (k : Kind) → maps.entries (with_machines (there k) (λ pfn. base + rank_in g.frames pfn)) ≡ with_machines_from base (maps.entries (there k))
  frames_there k =
      entries_with_machines (there k) (λ pfn. base + rank_in g.frames pfn)
      ∙ (λ i. map (λ (e : ℕ × FrameOf). (e.0, with_machine e.1 (base + as_many k e.0 i))) (maps.entries (there k)))
      ∙ ranked base (maps.entries (there k)) [] (maps.entries (there k)) refl (entries_sorted (there k))
      ∙ ap (λ n. with_machines_from n (maps.entries (there k))) (let e : base + length {A = ℕ × FrameOf} [] ≡ base = omega arith in e)

  pub frames_hosted : maps.entries (hosted g base).frames ≡ with_machines_from base (maps.entries (localised (mfn_in g.frames base) g).frames)
  frames_hosted = frames_there g.kind

-- ---- the host that an HVM guest becomes

module _ (g : GuestOf) (base : ℕ) (hvm : g.kind ≡ Hvm) where
  pub hosted_frames : maps.entries (hosted g base).frames ≡ with_machines_from base (maps.entries g.frames)
  hosted_frames = frames_hosted g base ∙ ap (λ k. with_machines_from base (maps.entries (localised_of k (mfn_in g.frames base) g).frames)) hvm

  pub hosted_parts : (hosted g base).parts ≡ g.parts
  hosted_parts = ap (λ k. (localised_of k (mfn_in g.frames base) g).parts) hvm

  pub hosted_wide : (hosted g base).width ≡ least_width (maps.entries g.frames)
  hosted_wide = ap (λ k. hosted_width k g) hvm

-- ---- places in the list

pub counted_length : (machine : ℕ) (es : List (ℕ × FrameOf)) → length (with_machines_from machine es) ≡ length es
counted_length machine [] = refl
counted_length machine (e ∷ es) = ap suc (counted_length (machine + 1) es)

pub counted_behind : (i machine : ℕ) (es : List (ℕ × FrameOf)) → drop i (with_machines_from machine es) ≡ with_machines_from (machine + i) (drop i es)
counted_behind zero machine es = ap (λ n. with_machines_from n es) (let e : machine ≡ machine + 0 = omega arith in e)
counted_behind (suc i) machine [] = refl
counted_behind (suc i) machine (e ∷ es) = counted_behind i (machine + 1) es ∙ ap (λ n. with_machines_from n (drop i es)) (let e : machine + 1 + i ≡ machine + suc i = omega arith in e)
