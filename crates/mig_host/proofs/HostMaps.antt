-- The frames of a host, which are those of a guest with their machine frames.
use Rattle.mig_host.proofs.Common.{◌≡◌, ℕ, ◌+◌, ◌<◌, ◌≤◌, length, true, false, [], ◌∷◌, map, Option, Some, None, is_some, IfSome, IfNone, option_and_then, refl, sym, ap, ◌∙◌, ◌==◌, unwrap_or, list_any, eq-eqb, ne_eqb, option_map, nat_cmp_total, nat_cmp-IsAntisymmetric, FrameOf, FrameMap, entries_from, HostFrame, HostFrames, MachineMap, with_machine, with_machines, machine_in, AreMatched, each_same, get_each, entries_each, each_value, without_machine, is_some-mapped, length-map, each_each, next_entry}
use Rattle.mig_host.proofs.InOrder.{some_entry, no_entry}
use Rattle.std.specs.FinMap as maps

-- ---- the frames of a host

module _ (frames : FrameMap) (machine_of : ℕ → ℕ) where
  pub get_with_machines : (pfn : ℕ) → maps.get (with_machines frames machine_of) pfn ≡ option_map (λ (f : FrameOf). with_machine f (machine_of pfn)) (maps.get frames pfn)
  get_with_machines pfn = get_each nat_cmp_total nat_cmp-IsAntisymmetric (λ pfn f. with_machine f (machine_of pfn)) frames pfn

  pub entries_with_machines : maps.entries (with_machines frames machine_of) ≡ map (λ (e : ℕ × FrameOf). (e.0, with_machine e.1 (machine_of e.0))) (maps.entries frames)
  entries_with_machines = entries_each nat_cmp_total nat_cmp-IsAntisymmetric (λ pfn f. with_machine f (machine_of pfn)) frames

  pub count_with_machines : length (maps.entries (with_machines frames machine_of)) ≡ length (maps.entries frames)
  count_with_machines = ap length entries_with_machines ∙ length-map (maps.entries frames) (λ (e : ℕ × FrameOf). (e.0, with_machine e.1 (machine_of e.0)))

  pub len_with_machines : maps.len (with_machines frames machine_of) ≡ maps.len frames
  len_with_machines = maps.len-entries (with_machines frames machine_of) ∙ count_with_machines ∙ sym (maps.len-entries frames)

  -- without the machine frames they are the frames of the guest
  pub without_machines : each_value (λ pfn f. without_machine f) (with_machines frames machine_of) ≡ frames
  without_machines =
      each_each nat_cmp_total nat_cmp-IsAntisymmetric (λ pfn f. without_machine f) (λ pfn (f : FrameOf). with_machine f (machine_of pfn)) frames
      ∙ each_same nat_cmp_total nat_cmp-IsAntisymmetric (λ pfn (f : FrameOf). without_machine (with_machine f (machine_of pfn))) frames (λ pfn f is. refl)

-- ---- what a host is seen to have

module _ (frames : FrameMap) (machines : MachineMap) where
  abbrev pub joined : HostFrames
  joined = with_machines frames (machine_in machines)

  seen : (pfn : ℕ) → maps.get joined pfn ≡ option_map (λ (f : FrameOf). with_machine f (machine_in machines pfn)) (maps.get frames pfn)
  seen = get_with_machines frames (machine_in machines)

  kind_of : (m : ℕ) (r : Option FrameOf) → option_map (λ (f : FrameOf). f.type) r ≡ option_map (λ (f : HostFrame). f.type) (option_map (λ (f : FrameOf). with_machine f m) r)
  kind_of m None = refl
  kind_of m (Some f) = refl

  pub kind_joined : (pfn : ℕ) → option_map (λ (f : FrameOf). f.type) (maps.get frames pfn) ≡ option_map (λ (f : HostFrame). f.type) (maps.get joined pfn)
  kind_joined pfn = kind_of (machine_in machines pfn) (maps.get frames pfn) ∙ ap (option_map (λ (f : HostFrame). f.type)) (sym (seen pfn))

  page_of : (m : ℕ) (r : Option FrameOf) → option_and_then (λ (f : FrameOf). f.page) r ≡ option_and_then (λ (f : HostFrame). f.page) (option_map (λ (f : FrameOf). with_machine f m) r)
  page_of m None = refl
  page_of m (Some f) = refl

  pub page_joined : (pfn : ℕ) → option_and_then (λ (f : FrameOf). f.page) (maps.get frames pfn) ≡ option_and_then (λ (f : HostFrame). f.page) (maps.get joined pfn)
  page_joined pfn = page_of (machine_in machines pfn) (maps.get frames pfn) ∙ ap (option_and_then (λ (f : HostFrame). f.page)) (sym (seen pfn))

  machine_of : (s : Option ℕ) (r : Option FrameOf) → is_some s ≡ is_some r → s ≡ option_map (λ (f : HostFrame). f.machine) (option_map (λ (f : FrameOf). with_machine f (unwrap_or s 0)) r)
  machine_of None None e = refl
  machine_of None (Some f) e = let no : false ≡ true = e in cc
  machine_of (Some m) None e = let no : true ≡ false = e in cc
  machine_of (Some m) (Some f) e = refl

  pub machine_joined : AreMatched frames machines → (pfn : ℕ) → maps.get machines pfn ≡ option_map (λ (f : HostFrame). f.machine) (maps.get joined pfn)
  machine_joined matched pfn = machine_of (maps.get machines pfn) (maps.get frames pfn) (matched pfn) ∙ ap (option_map (λ (f : HostFrame). f.machine)) (sym (seen pfn))

  pub none_joined : (pfn : ℕ) → maps.get frames pfn ≡ None → maps.get joined pfn ≡ None
  none_joined pfn e = seen pfn ∙ ap (option_map (λ (f : FrameOf). with_machine f (machine_in machines pfn))) e

  pub there_joined : (pfn : ℕ) → is_some (maps.get joined pfn) ≡ is_some (maps.get frames pfn)
  there_joined pfn = ap is_some (seen pfn) ∙ is_some-mapped (λ (f : FrameOf). with_machine f (machine_in machines pfn)) (maps.get frames pfn)

  -- ---- its entries

  pub none_from : (from : ℕ) → ((k : ℕ) → from ≤ k → maps.get frames k ≡ None) → entries_from from (maps.entries joined) ≡ []
  none_from from none = next_entry joined from {Y = ℕ × HostFrame} (λ e. e.0) (λ e. e.1) None (λ k le. none_joined k (none k le)) tt tt

  pub next_joined : (from pfn : ℕ) (f : FrameOf) (machine : ℕ) → Some machine ≡ maps.get machines pfn → maps.get frames pfn ≡ Some f → from ≤ pfn → ((k : ℕ) → from ≤ k → k < pfn → maps.get frames k ≡ None)
      → entries_from from (maps.entries joined) ≡ (pfn, with_machine f machine) ∷ entries_from (pfn + 1) (maps.entries joined)
  next_joined from pfn f machine has is le none =
      next_entry joined from {Y = ℕ × HostFrame} (λ e. e.0) (λ e. e.1) (Some (pfn, with_machine f machine)) tt
      (seen pfn ∙ ap (option_map (λ (f : FrameOf). with_machine f (machine_in machines pfn))) is ∙ ap (λ (o : Option ℕ). Some (with_machine f (unwrap_or o 0))) (sym has))
      (le, λ k above below. none_joined k (none k above below))

  module _ (matched : AreMatched frames machines) where
    -- a frame that is there has a machine frame
    pub has_no_machine : (pfn : ℕ) (f : FrameOf) → None ≡ maps.get machines pfn → maps.get frames pfn ≡ Some f → ⊥
    has_no_machine pfn f none found = let wrong : false ≡ true = ap is_some none ∙ matched pfn ∙ ap is_some found in cc

    pub machine_found : (o : Option HostFrame) (m : ℕ) → Some m ≡ option_map (λ (f : HostFrame). f.machine) o → (f : HostFrame) × (o ≡ Some f) × (f.machine ≡ m)
    machine_found None m e = let no : Some m ≡ None = e in cc
    machine_found (Some f) m e = (f, refl, cc)

    -- whether some frame has a machine frame
    pub used_joined : (machine : ℕ) (r : Option ℕ) → IfSome r (λ pfn. maps.get machines pfn ≡ Some machine) → IfNone r ((pfn : ℕ) → maps.get machines pfn ≡ Some machine → ⊥)
        → is_some r ≡ list_any (λ e. e.1.machine == machine) (maps.entries (joined))
    used_joined machine (Some pfn) some none =
        let (f, found, is) = machine_found (maps.get (joined) pfn) machine (sym some ∙ machine_joined matched pfn) in
        sym (some_entry nat_cmp_total nat_cmp-IsAntisymmetric (λ e. e.1.machine == machine) (joined) pfn f found (eq-eqb f.machine machine is))
    used_joined machine None some none =
        sym (no_entry nat_cmp_total nat_cmp-IsAntisymmetric (λ e. e.1.machine == machine) (joined) (λ q f is.
        ne_eqb f.machine machine (λ e. none q (machine_joined matched q ∙ ap (option_map (λ (f : HostFrame). f.machine)) is ∙ ap Some e))))
