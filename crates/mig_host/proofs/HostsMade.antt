-- A host stays valid where a frame or a part is added, and stays what its guest and its machine frames make.
use Rattle.mig_host.proofs.Common.{◌≡◌, ℕ, ◌<◌, ◌≤◌, Bool, true, false, cond, length, List, Option, Some, None, is_some, refl, sym, ap, subst, ◌∙◌, ◌⊎◌, inl, inr, arith, unwrap_or, option_map, nat_cmp, eq_by_cmp, nat_cmp_total, nat_cmp-IsAntisymmetric, same_map, get-empty, len-entries, none-some, same_Some, Kind, Pv, PartKey, FrameOf, FrameMap, HostOf, HostFrame, HostFrames, IsHostFrame, IsHostPart, IsOneToOne, IsValid, part_cmp, PartMap, FitsPolicy, part_total, part_exact, MachineMap, with_machine, machine_in, host_seen, AreMatched, IsMade, put_frame, put_part_in, top_limit, most_width, insert_holds, most_policy_entries, most_frames, len-empty, empty_of_len, parts_of, insert_len}
use Rattle.mig_host.proofs.HostMaps.{joined, get_with_machines, count_with_machines, machine_joined}
use Rattle.mig_host.proofs.InOrder.{found_more, no_entries}
use Rattle.std.specs.FinMap as maps

-- ---- a frame more, or in place of another

module _ (h : HostOf) (pfn : ℕ) (frame : HostFrame) (valid : IsValid h) (fine : IsHostFrame h.kind h.width pfn frame)
    (alone : (q : ℕ) (f : HostFrame) → maps.get h.frames q ≡ Some f → f.machine ≡ frame.machine → pfn ≡ q) where
  abbrev more : HostFrames
  more = maps.insert h.frames pfn frame

  one_more : IsOneToOne more
  one_more p q f g has gets alike = by (found_more nat_cmp_total nat_cmp-IsAntisymmetric h.frames pfn frame p f has) (found_more nat_cmp_total nat_cmp-IsAntisymmetric h.frames pfn frame q g gets)
    where
      by : ((p ≡ pfn) × (frame ≡ f)) ⊎ (maps.get h.frames p ≡ Some f) → ((q ≡ pfn) × (frame ≡ g)) ⊎ (maps.get h.frames q ≡ Some g) → p ≡ q
      by (inl (a, b)) (inl (c, d)) = a ∙ sym c
      by (inl (a, b)) (inr d) = a ∙ alone q g d (sym alike ∙ ap (λ (x : HostFrame). x.machine) (sym b))
      by (inr b) (inl (c, d)) = sym (alone p f b (alike ∙ ap (λ (x : HostFrame). x.machine) (sym d))) ∙ sym c
      by (inr b) (inr d) = valid.one_to_one p q f g b d alike

  pub valid_frame : length (maps.entries more) ≤ most_frames → IsValid (put_frame h pfn frame)
  valid_frame few = assumption (insert_holds nat_cmp_total nat_cmp-IsAntisymmetric (IsHostFrame h.kind h.width) h.frames pfn frame valid.frames fine, one_more)

-- ---- a part more, or in place of another

module _ (h : HostOf) (key : PartKey) (bytes : List ℕ) (valid : IsValid h) (fine : IsHostPart h.kind h.width key bytes) where
  pub valid_part : FitsPolicy 17 (maps.insert h.parts key bytes) → FitsPolicy 18 (maps.insert h.parts key bytes) → IsValid (put_part_in h key bytes)
  valid_part leaves msrs = assumption (insert_holds part_total part_exact (IsHostPart h.kind h.width) h.parts key bytes valid.parts fine)

-- ---- what a guest and its machine frames make

pub joined_empty : joined maps.empty maps.empty ≡ maps.empty
joined_empty =
    empty_of_len (joined maps.empty maps.empty)
    (len-entries (joined maps.empty maps.empty) ∙ count_with_machines maps.empty (machine_in maps.empty) ∙ sym (len-entries {R = nat_cmp} (maps.empty {X = FrameOf})) ∙ len-empty nat_cmp FrameOf)

-- a host without frames and parts
pub valid_empty : (kind : Kind) (width : ℕ) → width ≤ most_width → (kind ≡ Pv → 0 < width) → (kind ≡ Pv → width ≤ top_limit) → IsValid (record { kind = kind; width = width; frames = maps.empty; parts = maps.empty })
valid_empty kind width small some most = record {
  width = small;
  some_width = some;
  pv_width = most;
  frames = λ pfn f has. absurd (none-some f (sym (get-empty nat_cmp pfn) ∙ has));
  one_to_one = λ p q f g has gets alike. absurd (none-some f (sym (get-empty nat_cmp p) ∙ has));
  few = subst (λ (es : List (ℕ × HostFrame)). length es ≤ most_frames) (sym (no_entries nat_cmp HostFrame)) (omega arith);
  parts = λ k b has. absurd (none-some b (sym (get-empty part_cmp k) ∙ has));
  leaves = none_of 17;
  msrs = none_of 18;
}
  where
    none_of : (code : ℕ) → FitsPolicy code maps.empty
    none_of code = subst (λ (es : List (PartKey × List ℕ)). length (parts_of code es) ≤ most_policy_entries) (sym (no_entries part_cmp (List ℕ))) (omega arith)

-- nothing makes such a host
pub made_empty : (kind : Kind) (width : ℕ) → width ≤ most_width → (kind ≡ Pv → 0 < width) → (kind ≡ Pv → width ≤ top_limit) → IsMade kind width maps.empty maps.empty maps.empty
made_empty kind width small some most = record {
  matched = λ pfn. ap is_some (get-empty {X = ℕ} nat_cmp pfn) ∙ sym (ap is_some (get-empty {X = FrameOf} nat_cmp pfn));
  valid = subst (λ (m : HostFrames). IsValid (record { kind = kind; width = width; frames = m; parts = maps.empty })) (sym joined_empty) (valid_empty kind width small some most);
}

-- frames and machine frames that are others at the numbers that pass a test
module _ (frames frames_now : FrameMap) (machines machines_now : MachineMap) (here : ℕ → Bool) (f : Option FrameOf) (m : Option ℕ) (is_f : (q : ℕ) → maps.get frames_now q ≡ cond (here q) f (maps.get frames q)) (is_m : (q : ℕ) → maps.get machines_now q ≡ cond (here q) m (maps.get machines q)) where
  pub joined_at : (q : ℕ) → maps.get (joined frames_now machines_now) q ≡ cond (here q) (option_map (λ (x : FrameOf). with_machine x (unwrap_or m 0)) f) (maps.get (joined frames machines) q)
  joined_at q =
      get_with_machines frames_now (machine_in machines_now) q
      ∙ (λ i. option_map (λ (x : FrameOf). with_machine x (unwrap_or (is_m q i) 0)) (is_f q i))
      ∙ by (here q) (maps.get frames q) (maps.get machines q)
      ∙ ap (cond (here q) (option_map (λ (x : FrameOf). with_machine x (unwrap_or m 0)) f)) (sym (get_with_machines frames (machine_in machines) q))
    where
      by : (b : Bool) (o : Option FrameOf) (n : Option ℕ) → option_map (λ (x : FrameOf). with_machine x (unwrap_or (cond b m n) 0)) (cond b f o) ≡ cond b (option_map (λ (x : FrameOf). with_machine x (unwrap_or m 0)) f) (option_map (λ (x : FrameOf). with_machine x (unwrap_or n 0)) o)
      by true o n = refl
      by false o n = refl

  pub matched_at : is_some m ≡ is_some f → AreMatched frames machines → AreMatched frames_now machines_now
  matched_at same matched q = ap is_some (is_m q) ∙ by (here q) ∙ sym (ap is_some (is_f q))
    where
      by : (b : Bool) → is_some (cond b m (maps.get machines q)) ≡ is_some (cond b f (maps.get frames q))
      by true = same
      by false = matched q

module _ (frames : FrameMap) (machines : MachineMap) (pfn : ℕ) (f : FrameOf) (machine : ℕ) where
  abbrev frames_more : FrameMap
  frames_more = maps.insert frames pfn f

  abbrev machines_more : MachineMap
  machines_more = maps.insert machines pfn machine

  abbrev here : ℕ → Bool
  here q = eq_by_cmp nat_cmp q pfn

  put_f : (q : ℕ) → maps.get frames_more q ≡ cond (here q) (Some f) (maps.get frames q)
  put_f q = maps.get-insert nat_cmp_total frames pfn f q

  put_m : (q : ℕ) → maps.get machines_more q ≡ cond (here q) (Some machine) (maps.get machines q)
  put_m q = maps.get-insert nat_cmp_total machines pfn machine q

  -- a frame and its machine frame put
  pub joined_put : joined frames_more machines_more ≡ maps.insert (joined frames machines) pfn (with_machine f machine)
  joined_put = same_map nat_cmp_total nat_cmp-IsAntisymmetric _ _ (λ q. joined_at frames frames_more machines machines_more here (Some f) (Some machine) put_f put_m q ∙ sym (maps.get-insert nat_cmp_total (joined frames machines) pfn (with_machine f machine) q))

  pub matched_put : AreMatched frames machines → AreMatched frames_more machines_more
  matched_put matched = matched_at frames frames_more machines machines_more here (Some f) (Some machine) put_f put_m refl matched

module _ (frames : FrameMap) (machines : MachineMap) (matched : AreMatched frames machines) where
  -- a number without a frame has no machine frame
  pub no_machine : (pfn : ℕ) → maps.get (joined frames machines) pfn ≡ None → maps.get machines pfn ≡ None
  no_machine pfn is = machine_joined frames machines matched pfn ∙ ap (option_map (λ (x : HostFrame). x.machine)) is

  unused_case : (machine : ℕ) (q : ℕ) → maps.get machines q ≡ Some machine → (o : Option HostFrame) → maps.get (joined frames machines) q ≡ o → ((x : HostFrame) → o ≡ Some x → x.machine ≡ machine → ⊥) → ⊥
  unused_case machine q has None is unused = let no : Some machine ≡ None = sym has ∙ no_machine q is in cc
  unused_case machine q has (Some x) is unused =
      unused x refl (same_Some x.machine machine (sym (sym has ∙ machine_joined frames machines matched q ∙ ap (option_map (λ (x : HostFrame). x.machine)) is)))

  -- a machine frame that no frame has belongs to no number
  pub machine_unused : (machine : ℕ) → ((other : ℕ) (x : HostFrame) → maps.get (joined frames machines) other ≡ Some x → x.machine ≡ machine → ⊥) → (q : ℕ) → maps.get machines q ≡ Some machine → ⊥
  machine_unused machine unused q has = unused_case machine q has (maps.get (joined frames machines) q) refl (unused q)

module _ (kind : Kind) (width : ℕ) (frames : FrameMap) (machines : MachineMap) (parts : PartMap) where
  abbrev seen : HostOf
  seen = host_seen kind width frames machines parts

  module _ (pfn : ℕ) (f : FrameOf) (machine : ℕ) where
    pub seen_frame : host_seen kind width (maps.insert frames pfn f) (maps.insert machines pfn machine) parts ≡ put_frame seen pfn (with_machine f machine)
    seen_frame = ap (λ (m : HostFrames). record { kind = kind; width = width; frames = m; parts = parts }) (joined_put frames machines pfn f machine)

    pub made_frame : IsMade kind width frames machines parts → IsHostFrame kind width pfn (with_machine f machine)
        → ((other : ℕ) (x : HostFrame) → maps.get (joined frames machines) other ≡ Some x → x.machine ≡ machine → ⊥) → length (maps.entries (joined frames machines)) < most_frames
        → IsMade kind width (maps.insert frames pfn f) (maps.insert machines pfn machine) parts
    made_frame made fine unused few = record {
      matched = matched_put frames machines pfn f machine made.matched;
      valid = subst IsValid (sym seen_frame) (valid_frame seen pfn (with_machine f machine) made.valid fine (λ q x at same. absurd (unused q x at same))
          (omega (arith, few, insert_len nat_cmp_total seen.frames pfn (with_machine f machine), len-entries (maps.insert seen.frames pfn (with_machine f machine)), len-entries seen.frames)));
    }

  pub made_part : (key : PartKey) (bytes : List ℕ) → IsMade kind width frames machines parts → IsHostPart kind width key bytes → FitsPolicy 17 (maps.insert parts key bytes) → FitsPolicy 18 (maps.insert parts key bytes)
      → IsMade kind width frames machines (maps.insert parts key bytes)
  made_part key bytes made fine leaves msrs = record { matched = made.matched; valid = valid_part seen key bytes made.valid fine leaves msrs }
