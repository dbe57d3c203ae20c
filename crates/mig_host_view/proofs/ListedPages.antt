-- The pages of P2M frames in a localised guest.
use Rattle.mig_host_view.proofs.Common.{◌-◌, ◌≡◌, ℕ, ◌+◌, ◌*◌, ◌/◌, ◌^◌, true, false, List, length, Option, Some, None, is_some, refl, sym, ap, subst, ◌∙◌, ◌==◌, find, range_with_len, option_map, nat_cmp_total, nat_cmp-IsAntisymmetric, eq-eqb, FrameOf, GuestOf, Pv, p2m_key, long_at, level_of, listed, listed_in, IsWhole, cond_some, same_longs, Kind, p2m_page, IsCompletePv, to_each, pv_complete, localised_page, localised_frame, localised_of, localised, inl, inr, ltb-true, cases_order, longs, type_has_data, unwrap_or, Notab, IsEmptyRange, place_listed, find_in_range}
use Rattle.mig_pvtables.specs.P2mFrames.{place_in}
use Rattle.std.specs.FinMap as maps

-- a PFN that is listed has a place
listed_place : (o : Option (List ℕ)) (pfn k : ℕ) → listed_in o k ≡ Some pfn → (j : ℕ) × (place_in o pfn ≡ Some j)
unfolding place_in
listed_place None pfn k is = cc
listed_place (Some bytes) pfn k is =
    let (there, same) = cond_some _ _ _ is in
    let here : long_at bytes k ≡ pfn = same in
    elim (find (λ n. long_at bytes n == pfn) (range_with_len 0 (length bytes / 8))) as (λ r. find (λ n. long_at bytes n == pfn) (range_with_len 0 (length bytes / 8)) ≡ r → (j : ℕ) × (r ≡ Some j)) [
      | Some j ↦ λ e. (j, refl)
      | None ↦ λ e. let no : false ≡ true = sym ((find_in_range (λ n. long_at bytes n == pfn) (length bytes / 8)).0 e k (ltb-true k (length bytes / 8) there)) ∙ eq-eqb (long_at bytes k) pfn here in cc
    ] refl

notab_frame : (o : Option FrameOf) → option_map (λ (x : FrameOf). x.type) o ≡ Some Notab → (x : FrameOf) × (o ≡ Some x) × (x.type ≡ Notab)
notab_frame None is = cc
notab_frame (Some x) is = (x, refl, cc)

has_page : (page : Option (List ℕ)) → is_some page ≡ true → (q : List ℕ) × (page ≡ Some q)
has_page None is = cc
has_page (Some q) is = (q, refl)

module _ (g : GuestOf) (pv : g.kind ≡ Pv) (whole : IsWhole g) (mfn_of : ℕ → Option ℕ) (none : (n : ℕ) → maps.get g.frames n ≡ None → mfn_of n ≡ None) where
  complete : IsCompletePv g
  complete = pv_complete g pv whole.faultless

  -- a P2M frame whose range has no frame is all ones
  empty_page : (k : ℕ) → IsEmptyRange g.frames k → p2m_page mfn_of k ≡ longs 512 (λ slot. 2 ^ 64 - 1)
  empty_page k empty = same_longs 512 _ _ (λ slot lt. ap (λ o. unwrap_or o (2 ^ 64 - 1)) (none (512 * k + slot) (empty slot lt)))

  same_page : (pfn j k : ℕ) → listed g.parts j ≡ Some pfn → listed g.parts k ≡ Some pfn → p2m_page mfn_of j ≡ p2m_page mfn_of k
  same_page pfn j k one two = elim (cases_order j k) [
    | inl e ↦ ap (p2m_page mfn_of) e
    | inr apart ↦ elim apart [
      | inl lt ↦ let both = complete.p2m.twice j k pfn lt one two in empty_page j both.0 ∙ sym (empty_page k both.1)
      | inr gt ↦ let both = complete.p2m.twice k j pfn gt two one in empty_page j both.1 ∙ sym (empty_page k both.0)
    ]
  ]

  abbrev IsFilled : Kind → ℕ → ℕ → Type 0
  IsFilled kind k pfn = (y : FrameOf) × (maps.get (localised_of kind mfn_of g).frames pfn ≡ Some y) × (y.page ≡ Some (p2m_page mfn_of k))

  filled : (k pfn : ℕ) → listed g.parts k ≡ Some pfn → IsFilled Pv k pfn
  filled k pfn is =
      let (x, found, type) = notab_frame (maps.get g.frames pfn) (complete.p2m.types k pfn is) in
      let (q, page) = has_page x.page ((whole.formed.frames pfn x found).is.in_step ∙ ap type_has_data type) in
      let (j, place) = listed_place (maps.get g.parts p2m_key) pfn k is in (
        localised_frame g.parts mfn_of pfn x,
        to_each nat_cmp_total nat_cmp-IsAntisymmetric (localised_frame g.parts mfn_of) g.frames pfn x found,
        ap (λ o. localised_page o mfn_of (level_of x.type) x.page) place ∙ ap (λ (o : Option (List ℕ)). option_map (λ _. p2m_page mfn_of j) o) page
            ∙ ap (λ p. Some p) (same_page pfn j k (place_listed (maps.get g.parts p2m_key) pfn j place) is),
      )

-- each PFN that is listed has the page of the P2M frame of each place at which it is listed
pub listed_page : (g : GuestOf) → IsWhole g → g.kind ≡ Pv → (mfn_of : ℕ → Option ℕ) → ((n : ℕ) → maps.get g.frames n ≡ None → mfn_of n ≡ None) → (k pfn : ℕ) → listed g.parts k ≡ Some pfn
    → (y : FrameOf) × (maps.get (localised mfn_of g).frames pfn ≡ Some y) × (y.page ≡ Some (p2m_page mfn_of k))
listed_page g whole pv mfn_of none k pfn is = subst (λ (kind : Kind). IsFilled g pv whole mfn_of none kind k pfn) (sym pv) (filled g pv whole mfn_of none k pfn is)
