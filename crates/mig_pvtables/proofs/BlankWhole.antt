-- The blank form of a whole guest is whole.
use Rattle.mig_pvtables.proofs.Common.{◌≡◌, ℕ, ◌^◌, ◌<◌, ◌≤◌, true, false, cond, List, Some, None, IsSome, refl, sym, ap, subst, ◌∙◌, arith, nat_le, option_map, nat_cmp_total, nat_cmp-IsAntisymmetric, Pv, Hvm, PartKey, Frame, IsFormed, width_of, gdt_ents, FrameOf, FrameMap, GuestOf, p2m_key, vcpu_key, shared_key, EachEntry, part_total, part_exact, blanked_frame, blanked_part, blank_of, blank, place_of, type_at, fits_field, field_value, frame_of_field, is_used, blanked_context, IsWhole, pfn_limit, Kind, VcpuBasic, of_part, AreP2mFrames, FieldsFit, IsCompletePv, most_gdt_entries, HasNoEmulators}
use Rattle.mig_pvtables.proofs.BlankFormed.{blank_formed}
use Rattle.mig_pvtables.proofs.BlankSays.{same_used, same_said, said_fits, blanked_ents, blanked_field}
use Rattle.mig_pvtables.proofs.BlankShape.{table_unlisted, entries_there, type_there, frame_there, part_there, listed_there, context_back}
use Rattle.mig_pvtables.proofs.EachValue.{from_each, len_each}
use Rattle.mig_pvtables.proofs.PvGuests.{pv_complete, pv_faultless}
use Rattle.mig_pvtables.proofs.SameShape.{kept_p2m}
use Rattle.std.specs.FinMap as maps

-- ---- its P2M frames

module _ (g : GuestOf) where
  still_p2m : AreP2mFrames g.frames g.parts → AreP2mFrames (blank_of Pv g).frames (blank_of Pv g).parts
  still_p2m = kept_p2m g.frames (blank_of Pv g).frames g.parts (blank_of Pv g).parts (type_there g) (listed_there g)

-- ---- fields

-- there is no frame that the field fits
pub unfit : (field : ℕ) → fits_field field None ≡ false
unfit field = elim (nat_le field 16) as (λ b. cond b false false ≡ false) [ true ↦ refl | false ↦ refl ]

pub fit_there : (frames : FrameMap) (field n : ℕ) → fits_field field (type_at frames n) ≡ true → (x : FrameOf) × (maps.get frames n ≡ Some x)
fit_there frames field n fits = elim (maps.get frames n) as (λ o. fits_field field (option_map (λ (x : FrameOf). x.type) o) ≡ true → (x : FrameOf) × (o ≡ Some x)) [
  | None ↦ λ is. let no : false ≡ true = sym (unfit field) ∙ is in cc
  | Some x ↦ λ is. (x, refl)
] fits

module _ (g : GuestOf) (formed : IsFormed g) where
  -- a frame that a field fits has a number below the limit
  fit_below : (field n : ℕ) → fits_field field (type_at g.frames n) ≡ true → n < pfn_limit
  fit_below field n fits = let (x, found) = fit_there g.frames field n fits in (formed.frames n x found).small

  module _ (key : PartKey) (context : List ℕ) (found : maps.get g.parts key ≡ Some context) (code : key.code ≡ 4) (field : ℕ) (most : field ≤ 18) where
    -- the GDT has as many descriptors
    same_ents : gdt_ents (blanked_context context) ≡ gdt_ents context
    same_ents = let few : gdt_ents context ≤ most_gdt_entries = (of_part VcpuBasic g.kind (width_of g) (key, context) (formed.parts key context found) code).content in blanked_ents context ∙ omega (arith, few)

    -- the vCPU uses the field where it did
    pub still_used : is_used key.key1 (gdt_ents (blanked_context context)) field (field_value (blanked_context context) field) ≡ is_used key.key1 (gdt_ents context) field (field_value context field)
    still_used =
        let value = blanked_field context field most in
        (λ i. is_used key.key1 (same_ents i) field (value i)) ∙ same_used key.key1 (gdt_ents context) field (field_value context field)

    -- and it says the same frame
    pub still_said : field_value context field < 2 ^ 64 → is_used key.key1 (gdt_ents context) field (field_value context field) ≡ true
        → frame_of_field field (field_value (blanked_context context) field) ≡ frame_of_field field (field_value context field)
    still_said small used = ap (frame_of_field field) (blanked_field context field most) ∙ same_said key.key1 (gdt_ents context) field (field_value context field) small used

    -- and that fits
    still_fits : (is_used key.key1 (gdt_ents context) field (field_value context field) ≡ true → fits_field field (type_at g.frames (frame_of_field field (field_value context field))) ≡ true)
        → is_used key.key1 (gdt_ents (blanked_context context)) field (field_value (blanked_context context) field) ≡ true
        → fits_field field (type_at (blank_of Pv g).frames (frame_of_field field (field_value (blanked_context context) field))) ≡ true
    still_fits fit used =
        let before = sym still_used ∙ used in let fits = fit before in
        let small = said_fits field (field_value context field) (fit_below field (frame_of_field field (field_value context field)) fits) in
        ap (λ n. fits_field field (type_at (blank_of Pv g).frames n)) (still_said small before) ∙ ap (fits_field field) (type_there g (frame_of_field field (field_value context field))) ∙ fits

  blank_fields : FieldsFit g.frames g.parts → FieldsFit (blank_of Pv g).frames (blank_of Pv g).parts
  blank_fields fit key there is code field most =
      let (context, found, same) = context_back g key there is code in
      subst (λ c. is_used key.key1 (gdt_ents c) field (field_value c field) ≡ true → fits_field field (type_at (blank_of Pv g).frames (frame_of_field field (field_value c field))) ≡ true) same
      (still_fits key context found code field most (fit key context found code field most))

  -- ---- the blank form of a complete PV guest is complete

  blank_complete : IsCompletePv g → IsCompletePv (blank_of Pv g)
  blank_complete complete = record {
    p2m_there = part_there g p2m_key ∙ complete.p2m_there;
    shared_there = part_there g shared_key ∙ complete.shared_there;
    vcpu_there = part_there g (vcpu_key 0) ∙ complete.vcpu_there;
    p2m = still_p2m g complete.p2m;
    targets = λ pfn y is.
        let (x, found, same) = from_each nat_cmp_total nat_cmp-IsAntisymmetric (blanked_frame g.parts) g.frames pfn y is in
        subst (EachEntry (λ e. (n : ℕ) → e ≡ Frame n → IsSome (maps.get (blank_of Pv g).frames n))) same
        (entries_there (place_of g.parts pfn) x (table_unlisted g.frames g.parts complete.p2m pfn x found) (λ e. (n : ℕ) → e ≡ Frame n → IsSome (maps.get (blank_of Pv g).frames n))
        (λ level page lev has slot lt n e. frame_there g n ∙ complete.targets pfn x found level page lev has slot lt n e));
    fields = blank_fields complete.fields;
    few = omega (arith, complete.few, len_each nat_cmp_total nat_cmp-IsAntisymmetric (blanked_frame g.parts) g.frames);
  }

-- ---- either kind

module _ (g : GuestOf) where
  -- no emulator part is made
  pub blank_plain : HasNoEmulators g.parts → HasNoEmulators (blank g).parts
  blank_plain plain = by_kind g.kind
    where
      by_kind : (k : Kind) → HasNoEmulators (blank_of k g).parts
      by_kind Hvm = plain
      by_kind Pv = λ key part is. let (x, found, same) = from_each part_total part_exact blanked_part g.parts key part is in plain key x found

  whole_case : (k : Kind) → g.kind ≡ k → IsWhole g → IsWhole (blank_of k g)
  whole_case Hvm kind whole = whole
  whole_case Pv kind whole =
      let complete = pv_complete g kind whole.faultless in
      record { formed = blank_formed g whole.formed; faultless = pv_faultless (blank_of Pv g) kind (blank_complete g whole.formed complete) }

  pub whole_blank : IsWhole g → IsWhole (blank g)
  whole_blank whole = whole_case g.kind refl whole
