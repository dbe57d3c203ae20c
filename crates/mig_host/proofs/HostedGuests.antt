-- The host that a whole guest becomes is valid and, where the guest is in blank form, sound, and means this guest.
use Rattle.mig_host.proofs.Common.{◌≡◌, ◌≢◌, ℕ, ◌+◌, ◌<◌, ◌≤◌, length, List, Option, Some, None, IsSome, refl, sym, ap, subst, ◌∙◌, inl, inr, arith, option_map, nat_cmp_total, nat_cmp-IsAntisymmetric, cases_lt, Kind, Pv, Hvm, PartKey, FrameOf, is_type_of, HostFrame, HostFrames, IsHostFrame, IsHostPart, IsOneToOne, IsValid, IsTop, FitsPolicy, part_total, part_exact, with_machine, with_machines, rank_in, hosted, top_limit, GuestOf, pfn_in, most_width, blank, IsWhole, to_each, localised_of, localised, normalised, IsSound, unsoundness, without_machine, top_of, guest_in, view, sound_is_faultless, mfn_in, hosted_width, machine_limit, cases_order, IsPart, width_of, IsInside, host_part, IsBaseOutside, IsFrame, IsFew, from_each, renamed_part, CanBeSeen, guest_back}
use Rattle.mig_pvtables.specs.Renaming.{GoesBack}
use Rattle.mig_pvtables.specs.VcpuContexts.{is_used}
use Rattle.mig_pvtables.proofs.HvmGuests.{hvm_complete}
use Rattle.mig_pvtables.proofs.PvGuests.{pv_complete}
use Rattle.mig_host_view.proofs.LocalisedGuests.{from_localised, to_localised, count_localised, renamed_is_part, renamed_policy}
use Rattle.mig_host_view.proofs.SoundGuests.{localised_seen}
use Rattle.mig_host.proofs.HostMaps.{count_with_machines, without_machines}
use Rattle.mig_host.proofs.Machines.{pfn_of_machine}
use Rattle.mig_host.proofs.Ranks.{rank_small, rank_strict, frame_inside, width_within}
use Rattle.std.specs.FinMap as maps

pub some_value : {X : Type 0} (o : Option X) → IsSome o → (x : X) × (o ≡ Some x)
some_value None is = cc
some_value (Some x) is = (x, refl)

-- the base and what is counted up from it lie in range
abbrev pub IsBaseInside : GuestOf → ℕ → Type 0
IsBaseInside g base = (0 < base) × (base + length (maps.entries g.frames) ≤ machine_limit)

pub base_inside : (g : GuestOf) (base : ℕ) → (IsBaseOutside g base → ⊥) → IsBaseInside g base
base_inside g base inside = (positive base (λ e. inside (inl e)), elim (cases_lt machine_limit (base + length (maps.entries g.frames))) [ inl lt ↦ absurd (inside (inr lt)) | inr ge ↦ ge ])
  where
    positive : (n : ℕ) → n ≢ 0 → 0 < n
    positive n ne = elim (cases_lt 0 n) [ inl lt ↦ lt | inr ge ↦ absurd (ne (omega (arith, ge))) ]

module _ (g : GuestOf) (base : ℕ) where
  abbrev pub machine_of : ℕ → ℕ
  machine_of pfn = base + rank_in g.frames pfn

  abbrev mfn_of : ℕ → Option ℕ
  mfn_of = mfn_in g.frames base

  -- the frames of the host, by the kind of the guest
  abbrev frames_of : Kind → HostFrames
  frames_of k = with_machines (localised_of k mfn_of g).frames machine_of

  -- a frame of the host is one of the guest, with its machine frame
  from_guest : (k : Kind) (pfn : ℕ) (y : HostFrame) → maps.get (frames_of k) pfn ≡ Some y
      → (x : FrameOf) × (maps.get g.frames pfn ≡ Some x) × (x.type ≡ y.type) × (y.machine ≡ machine_of pfn) × (IsFrame x → IsFrame (without_machine y))
  from_guest k pfn y is =
      let (z, z_is, z_same) = from_each nat_cmp_total nat_cmp-IsAntisymmetric (λ (p : ℕ) (f : FrameOf). with_machine f (machine_of p)) (localised_of k mfn_of g).frames pfn y is in
      let (x, x_is, x_same, frame) = from_localised mfn_of k g pfn z z_is in
      (x, x_is, x_same ∙ ap (λ (h : HostFrame). h.type) z_same, sym (ap (λ (h : HostFrame). h.machine) z_same), λ h. subst (λ (h : HostFrame). IsFrame (without_machine h)) z_same (frame h))

  -- and the other way round
  to_host : (k : Kind) (pfn : ℕ) (x : FrameOf) → maps.get g.frames pfn ≡ Some x → (y : HostFrame) × (maps.get (frames_of k) pfn ≡ Some y) × (y.machine ≡ machine_of pfn)
  to_host k pfn x is =
      let (z, z_is, z_same) = to_localised mfn_of k g pfn x is in
      (with_machine z (machine_of pfn), to_each nat_cmp_total nat_cmp-IsAntisymmetric (λ (p : ℕ) (f : FrameOf). with_machine f (machine_of p)) (localised_of k mfn_of g).frames pfn z z_is, refl)

  one_to_one : (k : Kind) → IsOneToOne (frames_of k)
  one_to_one k p q f h has gets alike =
      let (a, a_is, _, a_at, _) = from_guest k p f has in
      let (b, b_is, _, b_at, _) = from_guest k q h gets in
      let same : machine_of p ≡ machine_of q = sym a_at ∙ alike ∙ b_at in
      elim (cases_order p q) [
        | inl e ↦ e
        | inr apart ↦ elim apart [
          | inl lt ↦ absurd (omega (arith, same, rank_strict g.frames p q a lt a_is))
          | inr gt ↦ absurd (omega (arith, same, rank_strict g.frames q p b gt b_is))
        ]
      ]

  -- the machine frame of a PFN is that PFN's
  machine_back : (k : Kind) (pfn : ℕ) (x : FrameOf) → maps.get g.frames pfn ≡ Some x → pfn_in (frames_of k) (machine_of pfn) ≡ Some pfn
  machine_back k pfn x is =
      let (y, y_is, at) = to_host k pfn x is in
      ap (pfn_in (frames_of k)) (sym at) ∙ pfn_of_machine (frames_of k) (one_to_one k) pfn y y_is

  goes_back : IsBaseInside g base → (k : Kind) (n : ℕ) → IsSome (maps.get g.frames n) → GoesBack mfn_of (pfn_in (frames_of k)) n
  goes_back range k n is =
      let (x, found) = some_value (maps.get g.frames n) is in
      record {
        name = machine_of n;
        there = ap (option_map (λ _. machine_of n)) found;
        small = omega (arith, range.1, rank_small g.frames n x found);
        again = machine_back k n x found;
      }

  module _ (whole : IsWhole g) where
    -- ---- the view

    same_top : (k : Kind) → g.kind ≡ k → top_of k (hosted_width k g) ≡ (localised_of k mfn_of g).top
    same_top Pv is = omega arith
    same_top Hvm is = sym (subst (λ (k : Kind). IsTop k g.top) is whole.formed.top)

    same_kind : (k : Kind) → g.kind ≡ (localised_of k mfn_of g).kind
    same_kind Pv = refl
    same_kind Hvm = refl

    -- what stands in the host is the localised guest
    guest_there : guest_in (hosted g base) ≡ localised mfn_of g
    guest_there =
        let there = localised mfn_of g in
        let kind = same_kind g.kind in let top = same_top g.kind refl in let frames = without_machines there.frames machine_of in
        λ i. record { kind = kind i; top = top i; frames = frames i; parts = there.parts }

    module _ (range : IsBaseInside g base) (blanked : blank g ≡ g) where
      seen_again : view (hosted g base) ≡ g
      seen_again = ap (normalised (pfn_in (frames_of g.kind))) guest_there ∙ guest_back g whole blanked mfn_of (pfn_in (frames_of g.kind)) (goes_back range g.kind)

      sound : IsSound (hosted g base)
      sound =
          subst (λ (x : GuestOf). CanBeSeen x (pfn_in (frames_of g.kind))) (sym guest_there)
          (localised_seen g whole blanked mfn_of (pfn_in (frames_of g.kind)) (goes_back range g.kind))

    -- ---- validity

    small_width : (k : Kind) → g.kind ≡ k → hosted_width k g ≤ most_width
    small_width Pv is = let small : g.top < top_limit = subst (λ (k : Kind). IsTop k g.top) is whole.formed.top in omega (arith, small)
    small_width Hvm is = width_within g.frames most_width (λ k f found. (whole.formed.frames k f found).small)

    pv_width : (k : Kind) → g.kind ≡ k → k ≡ Pv → hosted_width k g ≤ top_limit
    pv_width Pv is pv = let small : g.top < top_limit = subst (λ (k : Kind). IsTop k g.top) is whole.formed.top in omega (arith, small)
    pv_width Hvm is pv = let no : Hvm ≡ Pv = pv in cc

    some_width : (k : Kind) → k ≡ Pv → 0 < hosted_width k g
    some_width Pv is = omega arith
    some_width Hvm is = let no : Hvm ≡ Pv = is in cc

    frame_within : (k : Kind) → g.kind ≡ k → (pfn : ℕ) (x : FrameOf) → maps.get g.frames pfn ≡ Some x → pfn < hosted_width k g
    frame_within Pv is pfn x found = let inside : pfn ≤ g.top = subst (λ (k : Kind). IsInside k g.top pfn) is (whole.formed.frames pfn x found).inside in omega (arith, inside)
    frame_within Hvm is pfn x found = frame_inside g.frames pfn x found

    host_frames : IsBaseInside g base → (pfn : ℕ) (y : HostFrame) → maps.get (frames_of g.kind) pfn ≡ Some y → IsHostFrame g.kind (hosted_width g.kind g) pfn y
    host_frames range pfn y is =
        let (x, found, type, at, frame) = from_guest g.kind pfn y is in
        let formed = whole.formed.frames pfn x found in
        record {
          inside = frame_within g.kind refl pfn x found;
          type = ap (is_type_of g.kind) (sym type) ∙ formed.type;
          some_machine = omega (arith, range.0, at);
          machine = omega (arith, range.1, at, rank_small g.frames pfn x found);
          in_step = (frame formed.is).in_step;
          whole = (frame formed.is).whole;
        }

    few_frames : (k : Kind) → g.kind ≡ k → IsFew g.frames
    few_frames Pv is = (pv_complete g is whole.faultless).few
    few_frames Hvm is = (hvm_complete g is whole.faultless).1

    host_parts : (k : Kind) → g.kind ≡ k → (key : PartKey) (bytes : List ℕ) → maps.get (localised_of k mfn_of g).parts key ≡ Some bytes → IsHostPart k (hosted_width k g) key bytes
    host_parts Pv kind key bytes is =
        let (x, found, same) = from_each part_total part_exact (renamed_part is_used mfn_of) g.parts key bytes is in
        subst (IsHostPart Pv (width_of g) key) same (renamed_is_part is_used mfn_of Pv (width_of g) key x (subst (λ (k : Kind). IsPart k (width_of g) key x) kind (whole.formed.parts key x found)))
    host_parts Hvm kind key bytes is = host_part (width_of g) (hosted_width Hvm g) key bytes (subst (λ (k : Kind). IsPart k (width_of g) key bytes) kind (whole.formed.parts key bytes is))

    host_policy : (k : Kind) (code : ℕ) → FitsPolicy code g.parts → FitsPolicy code (localised_of k mfn_of g).parts
    host_policy Pv code fits = renamed_policy is_used mfn_of code g.parts fits
    host_policy Hvm code fits = fits

    pub valid_inside : IsBaseInside g base → IsValid (hosted g base)
    valid_inside range = record {
      width = small_width g.kind refl;
      some_width = some_width g.kind;
      pv_width = pv_width g.kind refl;
      frames = host_frames range;
      one_to_one = one_to_one g.kind;
      few = omega (arith, few_frames g.kind refl, count_with_machines (localised_of g.kind mfn_of g).frames machine_of, count_localised mfn_of g.kind g);
      parts = host_parts g.kind refl;
      leaves = host_policy g.kind 17 (whole.formed.policies 17 refl);
      msrs = host_policy g.kind 18 (whole.formed.policies 18 refl);
    }

pub whole_valid : (guest : GuestOf) (base : ℕ) → IsWhole guest → (IsBaseOutside guest base → ⊥) → IsValid (hosted guest base)
whole_valid g base whole inside = valid_inside g base whole (base_inside g base inside)

pub whole_sound : (guest : GuestOf) (base : ℕ) → IsWhole guest → blank guest ≡ guest → (IsBaseOutside guest base → ⊥) → IsSound (hosted guest base)
whole_sound g base whole blanked inside = sound g base whole (base_inside g base inside) blanked

pub whole_faultless : (guest : GuestOf) (base : ℕ) → IsWhole guest → blank guest ≡ guest → (IsBaseOutside guest base → ⊥) → unsoundness (hosted guest base) ≡ None
whole_faultless g base whole blanked inside = (sound_is_faultless (hosted g base)).0 (whole_sound g base whole blanked inside)

pub whole_seen : (guest : GuestOf) (base : ℕ) → IsWhole guest → blank guest ≡ guest → (IsBaseOutside guest base → ⊥) → view (hosted guest base) ≡ guest
whole_seen g base whole blanked inside = seen_again g base whole (base_inside g base inside) blanked
