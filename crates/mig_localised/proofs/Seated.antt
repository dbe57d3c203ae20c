-- Marked frames of an outline get pages of zeros, one after another.
use Rattle.mig_pvtables.proofs.Common.{◌≡◌, ℕ, ◌+◌, ◌<◌, ◌≤◌, ◌^◌, Bool, true, false, cond, List, length, Option, Some, None, IsSome, is_some, refl, sym, ap, subst, ◌∙◌, inl, inr, arith, option_map, cases_lt, cases_eq, nat_cmp_total, nat_cmp-IsAntisymmetric, same_map, Kind, Pv, Hvm, FrameOf, FrameMap, GuestOf, IsFormed, IsGuestFrame, IsFrame, is_type_of, level_of, each_value, zero_page}
use Rattle.std.proofs.lemmas.Option.{none-some, same_Some}
use Rattle.mig_bytes.proofs.NumberMaps.{inserted, inserted_other}
use Rattle.mig_pagestore_index.specs.Indexed.{ValueMap}
use Rattle.mig_pagetypes.specs.declared.page_type.PageType.TheVariants.{Notab, Xtab}
use Rattle.mig_pvtables.proofs.BlankFormed.{zero_size}
use Rattle.mig_pvtables.proofs.EachValue.{from_each, get_each}
use Rattle.mig_localised.specs.Over.{seated, seated_frame, zeroed_frame}
use Rattle.std.specs.FinMap as maps

-- on the way from g the marked frames below a number have their pages
pub record SeatedBelow (marks : ValueMap) (g : GuestOf) (from : ℕ) (now : GuestOf) : Type 0 where
  pub small : from ≤ 2 ^ 52
  pub rest : now ≡ record g { frames = now.frames }
  pub below : (q : ℕ) → q < from → maps.get now.frames q ≡ option_map (seated_frame marks q) (maps.get g.frames q)
  pub above : (q : ℕ) → from ≤ q → maps.get now.frames q ≡ maps.get g.frames q

module _ (marks : ValueMap) (g : GuestOf) where
  pub none_seated : SeatedBelow marks g 0 g
  none_seated = record { small = omega arith; rest = refl; below = λ q lt. absurd (omega (arith, lt)); above = λ q ge. refl }

  -- a frame that isn't marked stays
  unmarked : (q : ℕ) → maps.get marks q ≡ None → (o : Option FrameOf) → o ≡ option_map (seated_frame marks q) o
  unmarked q none None = refl
  unmarked q none (Some x) = ap Some (sym (ap (λ (m : Option ℕ). cond (is_some m) zeroed_frame x) none))

  module _ (from : ℕ) (now : GuestOf) (done : SeatedBelow marks g from now) where
    -- below a number, where no mark lies between
    upto : (n : ℕ) → ((k : ℕ) → from ≤ k → k < n → maps.get marks k ≡ None) → (q : ℕ) → q < n → maps.get now.frames q ≡ option_map (seated_frame marks q) (maps.get g.frames q)
    upto n none q small = elim (cases_lt q from) [
      | inl lt ↦ done.below q lt
      | inr ge ↦ done.above q ge ∙ unmarked q (none q ge small) (maps.get g.frames q)
    ]

    pub all_seated : ((k : ℕ) → from ≤ k → maps.get marks k ≡ None) → now ≡ seated marks g
    all_seated none =
        done.rest ∙ ap (λ (m : FrameMap). record g { frames = m })
        (same_map nat_cmp_total nat_cmp-IsAntisymmetric _ _ (λ q. upto (q + 1) (λ k ge _. none k ge) q (omega arith) ∙ sym (get_each nat_cmp_total nat_cmp-IsAntisymmetric (seated_frame marks) g.frames q)))

    module _ (pfn : ℕ) (is_small : pfn < 2 ^ 52) (le : from ≤ pfn) (none : (k : ℕ) → from ≤ k → k < pfn → maps.get marks k ≡ None) where
      -- no frame is there
      pub skipped : is_some (maps.get now.frames pfn) ≡ false → SeatedBelow marks g (pfn + 1) now
      skipped absent = record {
        small = omega (arith, is_small);
        rest = done.rest;
        below = λ q lt. elim (cases_lt q pfn) [
          | inl before ↦ upto pfn none q before
          | inr ge ↦ subst (λ n. maps.get now.frames n ≡ option_map (seated_frame marks n) (maps.get g.frames n)) (let e : pfn ≡ q = omega (arith, ge, lt) in e) (nothing (maps.get now.frames pfn) (maps.get g.frames pfn) absent (done.above pfn le))
        ];
        above = λ q ge. done.above q (omega (arith, le, ge));
      }
        where
          nothing : (a o : Option FrameOf) → is_some a ≡ false → a ≡ o → a ≡ option_map (seated_frame marks pfn) o
          nothing None None absent same = refl
          nothing None (Some x) absent same = absurd (none-some x same)
          nothing (Some y) o absent same = let bad : true ≡ false = absent in cc

      -- a frame is there, and gets its page
      pub put_here : IsSome (maps.get marks pfn) → is_some (maps.get now.frames pfn) ≡ true → (new : GuestOf) → new ≡ record now { frames = maps.insert now.frames pfn zeroed_frame } → SeatedBelow marks g (pfn + 1) new
      put_here marked there new is = subst (SeatedBelow marks g (pfn + 1)) (sym is) (record {
        small = omega (arith, is_small);
        rest = ap (λ (h : GuestOf). record h { frames = maps.insert now.frames pfn zeroed_frame }) done.rest;
        below = λ q lt. elim (cases_lt q pfn) [
          | inl before ↦ inserted_other now.frames pfn q zeroed_frame (λ e. omega (arith, e, before)) ∙ upto pfn none q before
          | inr ge ↦
              subst (λ n. maps.get (maps.insert now.frames pfn zeroed_frame) n ≡ option_map (seated_frame marks n) (maps.get g.frames n)) (let e : pfn ≡ q = omega (arith, ge, lt) in e)
              (inserted now.frames pfn pfn zeroed_frame refl ∙ here (maps.get now.frames pfn) (maps.get g.frames pfn) there (done.above pfn le))
        ];
        above = λ q ge. inserted_other now.frames pfn q zeroed_frame (λ e. omega (arith, e, ge)) ∙ done.above q (omega (arith, le, ge));
      })
        where
          here : (a o : Option FrameOf) → is_some a ≡ true → a ≡ o → Some zeroed_frame ≡ option_map (seated_frame marks pfn) o
          here a None there same = let no : false ≡ true = ap is_some (sym same) ∙ there in cc
          here a (Some x) there same = ap Some (sym (ap (λ b. cond b zeroed_frame x) marked))

      -- the mark's frame gets its page, where it is there
      pub next_seated : IsSome (maps.get marks pfn) → (new : GuestOf) → new ≡ cond (is_some (maps.get now.frames pfn)) (record now { frames = maps.insert now.frames pfn zeroed_frame }) now → SeatedBelow marks g (pfn + 1) new
      next_seated marked new is = by (is_some (maps.get now.frames pfn)) refl is
        where
          by : (b : Bool) → is_some (maps.get now.frames pfn) ≡ b → new ≡ cond b (record now { frames = maps.insert now.frames pfn zeroed_frame }) now → SeatedBelow marks g (pfn + 1) new
          by true there is = put_here marked there new is
          by false absent is = subst (SeatedBelow marks g (pfn + 1)) (sym is) (skipped absent)

-- ---- a formed guest stays formed

module _ (marks : ValueMap) (kind : Kind) (top : ℕ) where
  zeroed_is : (pfn : ℕ) (x : FrameOf) → IsGuestFrame kind top pfn x → IsGuestFrame kind top pfn zeroed_frame
  zeroed_is pfn x is = record {
    small = is.small;
    inside = is.inside;
    is = record { there = λ e. let no : Notab ≡ Xtab = e in cc; in_step = refl; whole = λ page same. ap length (sym (same_Some zero_page page same)) ∙ zero_size };
    type = elim kind as (λ k. is_type_of k Notab ≡ true) [ Pv ↦ refl | Hvm ↦ refl ];
    entries = λ level page some. absurd (none-some level some);
  }

  seated_is : (pfn : ℕ) (x : FrameOf) (b : Bool) → IsGuestFrame kind top pfn x → IsGuestFrame kind top pfn (cond b zeroed_frame x)
  seated_is pfn x true is = zeroed_is pfn x is
  seated_is pfn x false is = is

pub seated_formed : (marks : ValueMap) (g : GuestOf) → IsFormed g → IsFormed (seated marks g)
seated_formed marks g formed = record {
  top = formed.top;
  frames = λ pfn y is.
      let (x, found, same) = from_each nat_cmp_total nat_cmp-IsAntisymmetric (seated_frame marks) g.frames pfn y is in
      subst (IsGuestFrame g.kind g.top pfn) same (seated_is marks g.kind g.top pfn x (is_some (maps.get marks pfn)) (formed.frames pfn x found));
  parts = formed.parts;
  policies = formed.policies;
}
