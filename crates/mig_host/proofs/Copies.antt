-- A map that is copied entry by entry, in the order of the keys, each value changed by its key.
use Rattle.mig_host.proofs.Common.{◌≡◌, false, List, [], ◌∷◌, ◌++◌, map, Some, refl, sym, ap, subst, ◌∙◌, append-nil, T, Ordering, IsTotalOrder, FinMap, IsAntisymmetric, find, get-entries, entries_sorted, is_sorted, same_map, each_value, entries_each, append_assoc, map-append, shown}
use Rattle.mig_host.proofs.InOrder.{has_from, entries_behind, front_below, get_at, no_entries}
use Rattle.std.specs.FinMap as maps

-- the map m has the entries before those that are left, changed by f
abbrev pub IsCopied : {K X Y : Type 0} {R : K → K → Ordering} → (K → X → Y) → FinMap R X → FinMap R Y → List (K × X) → Type 0
IsCopied f whole m left = (front : List _) × (front ++ left ≡ maps.entries whole) × (maps.entries m ≡ map (shown f) front)

module _ {K X Y : Type 0} {R : K → K → Ordering} (total : IsTotalOrder R) (exact : IsAntisymmetric R) (f : K → X → Y) (whole : FinMap R X) where
  pub copy_start : (m : FinMap R Y) → m ≡ maps.empty → IsCopied f whole m (maps.entries whole)
  copy_start m none = ([], refl, ap maps.entries none ∙ no_entries R Y)

  module _ (m : FinMap R Y) (left : List (K × X)) (copied : IsCopied f whole m left) where
    module _ (e : K × X) (rest : List (K × X)) (next : left ≡ e ∷ rest) where
      parted : copied.0 ++ (e ∷ rest) ≡ maps.entries whole
      parted = ap (λ l. copied.0 ++ l) (sym next) ∙ copied.1

      -- the next entry is one of the map
      pub copy_there : maps.get whole e.0 ≡ Some e.1
      copy_there = get_at total whole copied.0 e rest (sym parted)

      -- all entries, of which those that are copied come first
      in_order : maps.entries (each_value f whole) ≡ maps.entries m ++ (shown f e ∷ map (shown f) rest)
      in_order = entries_each total exact f whole ∙ ap (map (shown f)) (sym parted) ∙ map-append (shown f) copied.0 (e ∷ rest) ∙ ap (λ l. l ++ (shown f e ∷ map (shown f) rest)) (sym copied.2)

      none_behind : has_from total (maps.entries m) e.0 ≡ false
      none_behind = front_below total (maps.entries m) (shown f e) (map (shown f) rest) (subst (λ l. T (is_sorted R l)) in_order (entries_sorted (each_value f whole)))

      pub copy_next : (more : FinMap R Y) → more ≡ maps.insert m e.0 (f e.0 e.1) → IsCopied f whole more rest
      copy_next more is = (
        copied.0 ++ (e ∷ []),
        append_assoc copied.0 (e ∷ []) rest ∙ parted,
        ap maps.entries is ∙ entries_behind total m e.0 (f e.0 e.1) none_behind ∙ ap (λ l. l ++ (shown f e ∷ [])) copied.2 ∙ sym (map-append (shown f) copied.0 (e ∷ [])),
      )

    pub copy_end : left ≡ [] → m ≡ each_value f whole
    copy_end none =
        let all : maps.entries m ≡ maps.entries (each_value f whole) =
        copied.2 ∙ ap (map (shown f)) (sym (append-nil copied.0) ∙ ap (λ l. copied.0 ++ l) (sym none) ∙ copied.1) ∙ sym (entries_each total exact f whole) in
        same_map total exact m (each_value f whole) (λ q. get-entries m q ∙ ap (find R q) all ∙ sym (get-entries (each_value f whole) q))
