-- Machine frames that are counted up from a base, and the host that a whole guest becomes with them.
use Rattle.mig_host.proofs.Common.{◌≡◌, ℕ, ◌+◌, ◌<◌, ◌≤◌, length, Option, Some, None, is_some, refl, sym, ap, subst, ◌∙◌, inl, inr, arith, unwrap_or, option_map, nat_cmp, nat_cmp_total, nat_cmp-IsAntisymmetric, same_map, get-empty, cases_lt, true, false, Kind, Pv, Hvm, FrameOf, FrameMap, IsValid, MachineMap, with_machine, with_machines, machine_in, host_seen, AreMatched, IsMade, rank_in, least_width, hosted, none-some, same_Some, GuestOf, IsWhole, get_each, localised_of, localised, is_some-mapped, inserted, inserted_other, mfn_in, hosted_width, localised_frame}
use Rattle.mig_host.proofs.HostMaps.{joined, get_with_machines}
use Rattle.mig_host.proofs.HostedGuests.{IsBaseInside, machine_of, valid_inside}
use Rattle.mig_host.proofs.Ranks.{rank_small, rank_strict, rank_step, rank_gap, rank_zero, frame_inside}
use Rattle.std.specs.FinMap as maps

module _ (frames : FrameMap) (base : ℕ) where
  abbrev counted_at : ℕ → Option ℕ
  counted_at = mfn_in frames base

  -- the frames below a number have their machine frames
  pub record AreCounted (from i : ℕ) (machines : MachineMap) : Type 0 where
    pub below : (pfn : ℕ) → pfn < from → maps.get machines pfn ≡ counted_at pfn
    pub above : (pfn : ℕ) → from ≤ pfn → maps.get machines pfn ≡ None
    pub rank : rank_in frames from ≡ i
    pub width : from ≤ least_width (maps.entries frames)
    pub few : i ≤ length (maps.entries frames)

  none_at : (pfn : ℕ) → maps.get frames pfn ≡ None → counted_at pfn ≡ None
  none_at pfn is = ap (option_map (λ _. base + rank_in frames pfn)) is

  -- nothing lies below 0
  pub counted_none : AreCounted 0 0 maps.empty
  counted_none = record {
    below = λ pfn lt. absurd (omega (arith, lt));
    above = λ pfn ge. get-empty nat_cmp pfn;
    rank = rank_zero frames;
    width = omega arith;
    few = omega arith;
  }

  module _ (from i : ℕ) (machines : MachineMap) (counted : AreCounted from i machines) where
    -- below a number, where no frame lies between
    upto : (n : ℕ) → ((k : ℕ) → from ≤ k → k < n → maps.get frames k ≡ None) → (q : ℕ) → q < n → maps.get machines q ≡ counted_at q
    upto n none q small = elim (cases_lt q from) [
      | inl lt ↦ counted.below q lt
      | inr ge ↦ counted.above q ge ∙ sym (none_at q (none q ge small))
    ]

    pub counted_all : ((k : ℕ) → from ≤ k → maps.get frames k ≡ None) → (pfn : ℕ) → maps.get machines pfn ≡ counted_at pfn
    counted_all none pfn = upto (pfn + 1) (λ k ge _. none k ge) pfn (omega arith)

    unused_case : (other : ℕ) → other < from → maps.get machines other ≡ Some (base + i) → (o : Option FrameOf) → maps.get frames other ≡ o → ⊥
    unused_case other lt has None is = none-some (base + i) (sym (none_at other is) ∙ sym (counted.below other lt) ∙ has)
    unused_case other lt has (Some f) is =
        let same = same_Some (base + rank_in frames other) (base + i) (sym (ap (option_map (λ _. base + rank_in frames other)) is) ∙ sym (counted.below other lt) ∙ has) in
        omega (arith, same, counted.rank, rank_strict frames other from f lt is)

    -- no number has the next machine frame
    pub counted_unused : (other : ℕ) → maps.get machines other ≡ Some (base + i) → ⊥
    counted_unused other has = elim (cases_lt other from) [
      | inl lt ↦ unused_case other lt has (maps.get frames other) refl
      | inr ge ↦ none-some (base + i) (sym (counted.above other ge) ∙ has)
    ]

    module _ (pfn : ℕ) (f : FrameOf) (is : maps.get frames pfn ≡ Some f) (le : from ≤ pfn) (none : (k : ℕ) → from ≤ k → k < pfn → maps.get frames k ≡ None) where
      next_rank : rank_in frames pfn ≡ i
      next_rank = rank_gap frames from pfn le none ∙ counted.rank

      abbrev more : MachineMap
      more = maps.insert machines pfn (base + i)

      below_more : (q : ℕ) → q < pfn + 1 → maps.get more q ≡ counted_at q
      below_more q small = elim (cases_lt q pfn) [
        | inl lt ↦ inserted_other machines pfn q (base + i) (λ e. omega (arith, e, lt)) ∙ upto pfn none q lt
        | inr ge ↦
            subst (λ n. maps.get more n ≡ counted_at n) (let e : pfn ≡ q = omega (arith, ge, small) in e)
            (inserted machines pfn pfn (base + i) refl ∙ ap (λ n. Some (base + n)) (sym next_rank) ∙ sym (ap (option_map (λ _. base + rank_in frames pfn)) is))
      ]

      -- the next frame gets the next machine frame
      pub counted_more : AreCounted (pfn + 1) (i + 1) more
      counted_more = record {
        below = below_more;
        above = λ q ge. inserted_other machines pfn q (base + i) (λ e. omega (arith, e, ge)) ∙ counted.above q (omega (arith, le, ge));
        rank = rank_step frames pfn f is ∙ ap (λ n. n + 1) next_rank;
        width = omega (arith, frame_inside frames pfn f is);
        few = omega (arith, next_rank, rank_small frames pfn f is);
      }

-- ---- the host that a whole guest becomes, of the guest as it is localised with the machine frames that were counted up

module _ (g : GuestOf) (base : ℕ) (machines : MachineMap) (counted : (pfn : ℕ) → maps.get machines pfn ≡ mfn_in g.frames base pfn) where
  -- a localised guest has frames at the same PFNs
  same_frames_there : (k : Kind) (pfn : ℕ) → is_some (maps.get (localised_of k (mfn_in g.frames base) g).frames pfn) ≡ is_some (maps.get g.frames pfn)
  same_frames_there Hvm pfn = refl
  same_frames_there Pv pfn = ap is_some (get_each nat_cmp_total nat_cmp-IsAntisymmetric (localised_frame g.parts (mfn_in g.frames base)) g.frames pfn) ∙ is_some-mapped (localised_frame g.parts (mfn_in g.frames base) pfn) (maps.get g.frames pfn)

  counted_matched : AreMatched (localised (mfn_in g.frames base) g).frames machines
  counted_matched pfn = ap is_some (counted pfn) ∙ is_some-mapped (λ (_ : FrameOf). machine_of g base pfn) (maps.get g.frames pfn) ∙ sym (same_frames_there g.kind pfn)

  -- where a frame is there, its machine frame is the one that is counted
  same_machine : (pfn : ℕ) (s o : Option FrameOf) → is_some s ≡ is_some o → (n : Option ℕ) → n ≡ option_map (λ (_ : FrameOf). machine_of g base pfn) o
      → option_map (λ (f : FrameOf). with_machine f (unwrap_or n 0)) s ≡ option_map (λ (f : FrameOf). with_machine f (machine_of g base pfn)) s
  same_machine pfn None o there n is = refl
  same_machine pfn (Some f) None there n is = let no : true ≡ false = there in cc
  same_machine pfn (Some f) (Some x) there n is = ap (λ (m : Option ℕ). Some (with_machine f (unwrap_or m 0))) is

  same_frames : joined (localised (mfn_in g.frames base) g).frames machines ≡ with_machines (localised (mfn_in g.frames base) g).frames (machine_of g base)
  same_frames = same_map nat_cmp_total nat_cmp-IsAntisymmetric _ _ (λ pfn.
      let there = (localised (mfn_in g.frames base) g).frames in
      get_with_machines there (machine_in machines) pfn
      ∙ same_machine pfn (maps.get there pfn) (maps.get g.frames pfn) (same_frames_there g.kind pfn) (maps.get machines pfn) (counted pfn)
      ∙ sym (get_with_machines there (machine_of g base) pfn))

  module _ (there : GuestOf) (is : there ≡ localised (maps.get machines) g) (width : ℕ) (wide : width ≡ hosted_width g.kind g) where
    -- it is localised with what is counted
    as_counted : there ≡ localised (mfn_in g.frames base) g
    as_counted = is ∙ (λ i. localised (λ pfn. counted pfn i) g)

    pub seen_restored : host_seen g.kind width there.frames machines there.parts ≡ hosted g base
    seen_restored =
        ap (λ (x : GuestOf). host_seen g.kind width x.frames machines x.parts) as_counted
        ∙ (λ i. record { kind = g.kind; width = wide i; frames = same_frames i; parts = (localised (mfn_in g.frames base) g).parts })

    pub made_restored : IsWhole g → IsBaseInside g base → IsMade g.kind width there.frames machines there.parts
    made_restored whole range = record {
      matched = subst (λ (x : GuestOf). AreMatched x.frames machines) (sym as_counted) counted_matched;
      valid = subst IsValid (sym seen_restored) (valid_inside g base whole range);
    }
