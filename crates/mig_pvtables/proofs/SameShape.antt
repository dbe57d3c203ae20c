-- What stays where frames and parts are changed: types, places in the list of P2M frames, and what a frame or a part has to be.
use Rattle.mig_pvtables.proofs.Common.{◌≡◌, ℕ, ◌<◌, List, length, Option, Some, None, refl, sym, ap, subst, ◌∙◌, option_map, nat_cmp_total, nat_cmp-IsAntisymmetric, Entry, FrameOf, FrameMap, PartMap, level_of, entry, EachEntry, each_value, type_at, listed, IsFrame, is_some-mapped, IsEmptyRange, AreP2mFrames}
use Rattle.mig_pvtables.proofs.EachValue.{get_each}
use Rattle.std.specs.FinMap as maps

-- ---- frames

-- a map has frames of the same types once each is changed to one of its type
pub types_kept : (change : ℕ → FrameOf → FrameOf) → ((n : ℕ) (x : FrameOf) → (change n x).type ≡ x.type) → (frames : FrameMap) (n : ℕ) → type_at (each_value change frames) n ≡ type_at frames n
types_kept change same frames n =
    ap (option_map (λ (x : FrameOf). x.type)) (get_each nat_cmp_total nat_cmp-IsAntisymmetric change frames n)
    ∙ elim (maps.get frames n) as (λ o. option_map (λ (x : FrameOf). x.type) (option_map (change n) o) ≡ option_map (λ (x : FrameOf). x.type) o) [ None ↦ refl | Some x ↦ ap Some (same n x) ]

-- what holds of each changed page holds of the page that is there
pub mapped_holds : (P : List ℕ → Type 0) (f : List ℕ → List ℕ) → ((p : List ℕ) → P (f p)) → (page : Option (List ℕ)) (q : List ℕ) → option_map f page ≡ Some q → P q
mapped_holds P f holds None q is = cc
mapped_holds P f holds (Some p) q is = let same : f p ≡ q = cc in subst P same (holds p)

-- a frame of which the page, where there is one, is another of 4096 bytes
pub repaged_is_frame : (x : FrameOf) (f : List ℕ → List ℕ) → ((p : List ℕ) → length (f p) ≡ 4096) → IsFrame x → IsFrame (record { type = x.type; page = option_map f x.page })
repaged_is_frame x f size is = record { there = is.there; in_step = is_some-mapped f x.page ∙ is.in_step; whole = mapped_holds (λ q. length q ≡ 4096) f size x.page }

-- what holds of the entries of each table holds, in another form, of those of the table changed
pub entries_changed : (P Q : Entry → Type 0) (t : ℕ → List ℕ → List ℕ) (x : FrameOf) (page : Option (List ℕ)) → ((level : ℕ) → level_of x.type ≡ Some level → page ≡ option_map (t level) x.page)
    → ((level : ℕ) (p : List ℕ) → level_of x.type ≡ Some level → x.page ≡ Some p → (slot : ℕ) → slot < 512 → P (entry level p slot) → Q (entry level (t level p) slot))
    → EachEntry P x → EachEntry Q (record { type = x.type; page = page })
entries_changed P Q t x page is step each level q lev has slot lt = elim x.page as (λ o. x.page ≡ o → option_map (t level) o ≡ Some q → Q (entry level q slot)) [
  | None ↦ λ none at. cc
  | Some p ↦ λ some at. let same : t level p ≡ q = cc in subst (λ r. Q (entry level r slot)) same (step level p lev some slot lt (each level p lev some slot lt))
] refl (sym (is level lev) ∙ has)

-- ---- P2M frames

no_frame : (o : Option FrameOf) → option_map (λ (x : FrameOf). x.type) o ≡ None → o ≡ None
no_frame None is = refl
no_frame (Some x) is = let no : Some x.type ≡ None = is in cc

-- P2M frames stay such where frames keep their types and the list is the same
pub kept_p2m : (frames other : FrameMap) (parts others : PartMap) → ((n : ℕ) → type_at other n ≡ type_at frames n) → ((k : ℕ) → listed others k ≡ listed parts k) → AreP2mFrames frames parts → AreP2mFrames other others
kept_p2m frames other parts others types list p2m = record {
  types = λ k pfn is. types pfn ∙ p2m.types k pfn (sym (list k) ∙ is);
  twice = λ j k pfn lt one two. let (a, b) = p2m.twice j k pfn lt (sym (list j) ∙ one) (sym (list k) ∙ two) in (empty j a, empty k b);
}
  where
    empty : (k : ℕ) → IsEmptyRange frames k → IsEmptyRange other k
    empty k none slot lt = no_frame _ (types _ ∙ ap (option_map (λ (x : FrameOf). x.type)) (none slot lt))
