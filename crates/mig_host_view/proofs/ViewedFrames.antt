-- The frames of a valid host.
use Rattle.mig_host_view.proofs.Common.{◌≡◌, ℕ, ◌<◌, ◌≤◌, Bool, true, false, Option, Some, is_some, IsSome, refl, sym, ap, subst, ◌∙◌, arith, ◌==◌, eqb-true, nat_cmp_total, nat_cmp-IsAntisymmetric, Pv, Hvm, top_limit, FrameOf, is_type_of, GuestOf, Kind, PageType, IsTop, IsFrame, HostOf, HostFrame, IsValid, pfn_in, from_each, some_each, len_each, without_machine, top_of, guest_in, ◌||◌, IsFew, Xtab, IsInside, is_policy, IsHostFrame}
use Rattle.mig_host_view.proofs.ViewedSays.{pfn_found}
use Rattle.std.specs.FinMap as maps

-- ---- either kind

pub not_absent : (kind : Kind) (t : PageType) → is_type_of kind t ≡ true → t ≡ Xtab → ⊥
not_absent kind t is e = let no : false ≡ true = sym (absent kind) ∙ ap (is_type_of kind) (sym e) ∙ is in cc
  where
    absent : (k : Kind) → is_type_of k Xtab ≡ false
    absent Pv = refl
    absent Hvm = refl

pub top_is : (kind : Kind) (width : ℕ) → (kind ≡ Pv → width ≤ top_limit) → (kind ≡ Pv → 0 < width) → IsTop kind (top_of kind width)
top_is Pv width most some = let least = some refl in let fits = most refl in omega (arith, fits, least)
top_is Hvm width most some = refl

pub inside_is : (kind : Kind) (width pfn : ℕ) → pfn < width → IsInside kind (top_of kind width) pfn
inside_is Pv width pfn lt = omega (arith, lt)
inside_is Hvm width pfn lt = tt

-- a code of policies is one of two
pub each_policy : (P : ℕ → Type 0) → P 17 → P 18 → (code : ℕ) → is_policy code ≡ true → P code
each_policy P one two code is = by_case (code == 17) refl (code == 18) refl is
  where
    by_case : (a : Bool) → (code == 17) ≡ a → (b : Bool) → (code == 18) ≡ b → (a || b) ≡ true → P code
    by_case true a b two_is is = subst P (sym (eqb-true code 17 a)) one
    by_case false a true b is = subst P (sym (eqb-true code 18 b)) two
    by_case false a false b is = let no : false ≡ true = is in cc

module _ (h : HostOf) (valid : IsValid h) where
  abbrev pub inner : GuestOf
  inner = guest_in h

  abbrev pub pfn_of : ℕ → Option ℕ
  pfn_of = pfn_in h.frames

  -- a frame that stands in the host
  pub frame_of : (pfn : ℕ) (x : FrameOf) → maps.get inner.frames pfn ≡ Some x → (y : HostFrame) × IsHostFrame h.kind h.width pfn y × (without_machine y ≡ x)
  frame_of pfn x is = let (y, found, same) = from_each nat_cmp_total nat_cmp-IsAntisymmetric (λ (p : ℕ) (f : HostFrame). without_machine f) h.frames pfn x is in (y, valid.frames pfn y found, same)

  pub is_frame : (pfn : ℕ) (x : FrameOf) → maps.get inner.frames pfn ≡ Some x → IsFrame x
  is_frame pfn x is =
      let (y, fine, same) = frame_of pfn x is in
      subst IsFrame same (record { there = not_absent h.kind y.type fine.type; in_step = fine.in_step; whole = fine.whole })

  -- the PFN of a machine frame has a frame, and lies below the width
  pub pfn_there : (mfn pfn : ℕ) → pfn_of mfn ≡ Some pfn → IsSome (maps.get inner.frames pfn)
  pfn_there mfn pfn is = let (y, found) = pfn_found h.frames mfn pfn is in some_each nat_cmp_total nat_cmp-IsAntisymmetric (λ (p : ℕ) (f : HostFrame). without_machine f) h.frames pfn ∙ ap is_some found

  pub pfn_below : (mfn pfn : ℕ) → pfn_of mfn ≡ Some pfn → pfn < h.width
  pfn_below mfn pfn is = let (y, found) = pfn_found h.frames mfn pfn is in (valid.frames pfn y found).inside

  pub pfn_small : h.kind ≡ Pv → (mfn pfn : ℕ) → pfn_of mfn ≡ Some pfn → pfn < top_limit
  pfn_small pv mfn pfn is = omega (arith, pfn_below mfn pfn is, valid.pv_width pv)

  pub frame_below : (pfn : ℕ) (x : FrameOf) → maps.get inner.frames pfn ≡ Some x → pfn < h.width
  frame_below pfn x is = let (y, fine, same) = frame_of pfn x is in fine.inside

  pub frame_type : (pfn : ℕ) (x : FrameOf) → maps.get inner.frames pfn ≡ Some x → is_type_of h.kind x.type ≡ true
  frame_type pfn x is = let (y, fine, same) = frame_of pfn x is in ap (λ (f : FrameOf). is_type_of h.kind f.type) (sym same) ∙ fine.type

  pub few_inner : IsFew inner.frames
  few_inner = omega (arith, valid.few, len_each nat_cmp_total nat_cmp-IsAntisymmetric (λ (p : ℕ) (f : HostFrame). without_machine f) h.frames)
