-- Maps with each value changed, by its key.
use Rattle.mig_pvtables.proofs.Common.{◌≡◌, Bool, is_some, length, length-map, kept_shown, Some, None, refl, sym, ap, ◌∙◌, Ordering, FinMap, IsAntisymmetric, same_map, get-from_entries, get-entries, entries_sorted, option_map, IsTotalOrder, each_value, is_some-mapped, map, find_seen, entries_shown}
use Rattle.std.specs.List.{filter}
use Rattle.std.specs.FinMap as maps
pub use Rattle.mig_guest.proofs.KeyedMaps.{shown}

module _ {K : Type 0} {R : K → K → Ordering} (o : IsTotalOrder R) (exact : IsAntisymmetric R) where
  module _ {X Y : Type 0} (f : K → X → Y) where
    -- what the changed map has at a key
    pub get_each : (m : FinMap R X) (q : K) → maps.get (each_value f m) q ≡ option_map (f q) (maps.get m q)
    get_each m q = get-from_entries o (map (shown f) (maps.entries m)) q ∙ find_seen o exact f (maps.entries m) q ∙ ap (option_map (f q)) (sym (get-entries m q))

    -- a value of the changed map is one of the map, changed
    pub from_each : (m : FinMap R X) (q : K) (y : Y) → maps.get (each_value f m) q ≡ Some y → (x : X) × (maps.get m q ≡ Some x) × (f q x ≡ y)
    from_each m q y is = elim (maps.get m q) as (λ o. maps.get m q ≡ o → option_map (f q) o ≡ Some y → (x : X) × (maps.get m q ≡ Some x) × (f q x ≡ y)) [
      | None ↦ λ e at. cc
      | Some x ↦ λ e at. let same : f q x ≡ y = cc in (x, e, same)
    ] refl (sym (get_each m q) ∙ is)

    -- and the other way round
    pub to_each : (m : FinMap R X) (q : K) (x : X) → maps.get m q ≡ Some x → maps.get (each_value f m) q ≡ Some (f q x)
    to_each m q x is = get_each m q ∙ ap (option_map (f q)) is

    -- a key has a value where it had one
    pub some_each : (m : FinMap R X) (q : K) → is_some (maps.get (each_value f m) q) ≡ is_some (maps.get m q)
    some_each m q = ap is_some (get_each m q) ∙ is_some-mapped (f q) (maps.get m q)

    -- its entries, in the same order
    pub entries_each : (m : FinMap R X) → maps.entries (each_value f m) ≡ map (shown f) (maps.entries m)
    entries_each m = entries_shown o exact f (maps.entries m) (entries_sorted m)

    -- as many of them
    pub len_each : (m : FinMap R X) → length (maps.entries (each_value f m)) ≡ length (maps.entries m)
    len_each m = ap length (entries_each m) ∙ length-map (maps.entries m) (shown f)

    -- and as many of those whose keys pass a test
    pub count_each : (p : K → Bool) (m : FinMap R X) → length (filter (λ e. p e.0) (maps.entries (each_value f m))) ≡ length (filter (λ e. p e.0) (maps.entries m))
    count_each p m =
        ap (λ es. length (filter (λ e. p e.0) es)) (entries_each m) ∙ ap length (kept_shown o exact f p (maps.entries m))
        ∙ length-map (filter (λ e. p e.0) (maps.entries m)) (shown f)

  -- changed twice
  pub each_each : {X Y Z : Type 0} (f : K → Y → Z) (g : K → X → Y) (m : FinMap R X) → each_value f (each_value g m) ≡ each_value (λ k x. f k (g k x)) m
  each_each f g m = same_map o exact _ _ (λ q.
      get_each f (each_value g m) q ∙ ap (option_map (f q)) (get_each g m q)
      ∙ elim (maps.get m q) as (λ r. option_map (f q) (option_map (g q) r) ≡ option_map (λ x. f q (g q x)) r) [ None ↦ refl | Some x ↦ refl ]
      ∙ sym (get_each (λ k x. f k (g k x)) m q))

  -- not changed at all
  pub each_same : {X : Type 0} (f : K → X → X) (m : FinMap R X) → ((k : K) (x : X) → maps.get m k ≡ Some x → f k x ≡ x) → each_value f m ≡ m
  each_same f m same = same_map o exact _ _ (λ q.
      get_each f m q ∙ elim (maps.get m q) as (λ r. maps.get m q ≡ r → option_map (f q) r ≡ r) [ None ↦ λ _. refl | Some x ↦ λ is. ap Some (same q x is) ] refl)

  -- changed alike
  pub same_each : {X Y : Type 0} (f g : K → X → Y) (m : FinMap R X) → ((k : K) (x : X) → maps.get m k ≡ Some x → f k x ≡ g k x) → each_value f m ≡ each_value g m
  same_each f g m same = same_map o exact _ _ (λ q.
      get_each f m q
      ∙ elim (maps.get m q) as (λ r. maps.get m q ≡ r → option_map (f q) r ≡ option_map (g q) r) [ None ↦ λ _. refl | Some x ↦ λ is. ap Some (same q x is) ] refl
      ∙ sym (get_each g m q))

  -- a key whose values stay
  pub stays_each : {X : Type 0} (f : K → X → X) (q : K) → ((x : X) → f q x ≡ x) → (m : FinMap R X) → maps.get (each_value f m) q ≡ maps.get m q
  stays_each f q stays m = get_each f m q ∙ elim (maps.get m q) as (λ r. option_map (f q) r ≡ r) [ None ↦ refl | Some x ↦ ap Some (stays x) ]
