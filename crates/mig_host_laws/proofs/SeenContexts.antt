-- What the contexts of a sound host say in the guest that it is seen as.
use Rattle.std.specs.FinMap as maps
use Rattle.mig_host_laws.proofs.Common.{both_ways, recursion_from_All, AreBytes, HostOf, IsValid, pfn_in, ◌≡◌, ℕ, ◌<◌, ◌≤◌, Bool, true, false, cond, List, Option, Some, None, refl, sym, ap, subst, ◌∙◌, arith, option_and_then, gdt_ents, long_at, field_at, field_value, frame_of_field, blanked_context, value_blanked, fits_field, PartKey, Pv, eq-eqb, ◌==◌, part_total, part_exact, blanked_part, each_value, is_used_somewhere, place_field, to_each, renamed_part, renamed_context, IsSound, guest_in, view, Field, field_row, IsField, field_numbered, said_by, Uses, AreNamesSmall, SaysAnew, IsSeenAs, each_stays, blanked_shared}
use Rattle.mig_pagetypes.specs.declared.page_type.PageType.{PageType}
use Rattle.mig_pvtables.specs.VcpuContexts.{blanked_value}
use Rattle.mig_pvtables.proofs.BlankWhole.{unfit}
use Rattle.mig_host_view.specs.Normalised.{normalised_of}
use Rattle.mig_host_view.proofs.ViewedSays.{pfn_found}
use Rattle.mig_host_laws.proofs.Fields.{agrees, number_small, numbered, place_inside, one_place, written_blanked, unused_blanked}
use Rattle.mig_host_laws.proofs.NamedAnew.{host_use, says_anew}

-- ---- a context all of whose used fields have names is in blank form once it says them

module _ (names : ℕ → Option ℕ) (id : ℕ) (context new : List ℕ) (says : SaysAnew (λ row. row.in_host) names id context new)
    (named : (f : Field) → IsField f → Uses (λ row. row.in_host) id context f → (name : ℕ) × (names (said_by f context) ≡ Some name)) where
  field_blanked : (f : Field) → IsField f → (b : Bool) → (field_row f).in_host id (gdt_ents context) (long_at context (field_row f).place) ≡ b
      → (field_row f).blanked (long_at new (field_row f).place) ≡ long_at new (field_row f).place
  field_blanked f is true uses =
      let (name, has) = named f is uses in
      let value = says.said f is uses name has in
      subst (λ w. (field_row f).blanked w ≡ w) (sym value) (written_blanked f name)
  field_blanked f is false un =
      let same = says.others (field_row f).place (place_inside f is) (λ g also at uses. absurd (both_ways _ (in_same_place g f also is at un) uses)) in
      subst (λ w. (field_row f).blanked w ≡ w) (sym same) (unused_blanked f id (gdt_ents context) (long_at context (field_row f).place) un)
    where
      in_same_place : (g f : Field) → IsField g → IsField f → (field_row g).place ≡ (field_row f).place → (field_row f).in_host id (gdt_ents context) (long_at context (field_row f).place) ≡ false
          → (field_row g).in_host id (gdt_ents context) (long_at context (field_row g).place) ≡ false
      in_same_place g f also is at un = subst (λ h. (field_row h).in_host id (gdt_ents context) (long_at context (field_row h).place) ≡ false) (sym (one_place g f also is at)) un

  blank_at : (o : Option ℕ) (i : ℕ) → field_at i ≡ o → value_blanked o (long_at new i) ≡ long_at new i
  blank_at None i at = refl
  blank_at (Some n) i at =
      let (most, place) = place_field i n at in
      let a = agrees n most in
      let stands : (field_row (field_numbered n)).place ≡ i = sym a.place ∙ place in
      let f : Field = field_numbered n in
      a.blanked (long_at new i)
      ∙ subst (λ p. (field_row f).blanked (long_at new p) ≡ long_at new p) stands (field_blanked f a.is ((field_row f).in_host id (gdt_ents context) (long_at context (field_row f).place)) refl)

  blank_here : (i : ℕ) → blanked_value i (long_at new i) ≡ long_at new i
  unfolding blanked_value
  blank_here i = blank_at (field_at i) i refl

  pub anew_is_blank : blanked_context new ≡ new
  anew_is_blank = each_stays 646 blanked_value new (recursion_from_All (λ b. b < 256) new says.bytes) says.size (λ i lt. blank_here i)

  pub seen_as : IsSeenAs names id context new
  seen_as = record {
    size = says.size;
    bytes = says.bytes;
    said = λ f is uses. let (name, has) = named f is uses in (name, has, says.said f is uses name has);
    others = λ i lt none. says.others i lt (λ f is at uses. absurd (none f is at uses));
  }

-- ---- a sound host

-- a frame that fits has a PFN
fit_named : (type_of : ℕ → Option PageType) (n : ℕ) (o : Option ℕ) → fits_field n (option_and_then type_of o) ≡ true → (pfn : ℕ) × (o ≡ Some pfn)
fit_named type_of n None is = let no : false ≡ true = sym (unfit n) ∙ is in cc
fit_named type_of n (Some pfn) is = (pfn, refl)

module _ (h : HostOf) (pv : h.kind ≡ Pv) (valid : IsValid h) (sound : IsSound h) where
  abbrev names : ℕ → Option ℕ
  names = pfn_in h.frames

  small : AreNamesSmall names
  small n pfn is =
      let (x, at) = pfn_found h.frames n pfn is in
      let inside = (valid.frames pfn x at).inside in
      omega (arith, inside, valid.width)

  module _ (key : PartKey) (context : List ℕ) (at : maps.get h.parts key ≡ Some context) (code : key.code ≡ 4) where
    -- the frame of a field that a host uses has a PFN
    pub has_name : (f : Field) → IsField f → Uses (λ row. row.in_host) key.key1 context f → (name : ℕ) × (names (said_by f context) ≡ Some name)
    has_name f is uses =
        let n : ℕ = (field_row f).number in
        let most : n ≤ 18 = number_small f is in
        subst (λ g. Uses (λ row. row.in_host) key.key1 context g → (name : ℕ) × (names (said_by g context) ≡ Some name)) (numbered f is) (by_number n most) uses
      where
        by_number : (n : ℕ) → n ≤ 18 → Uses (λ row. row.in_host) key.key1 context (field_numbered n) → (name : ℕ) × (names (said_by (field_numbered n) context) ≡ Some name)
        by_number n most uses =
            let a = agrees n most in
            let used : is_used_somewhere key.key1 (gdt_ents context) n (field_value context n) ≡ true =
            ap (λ p. is_used_somewhere key.key1 (gdt_ents context) n (long_at context p)) a.place ∙ a.host key.key1 (gdt_ents context) (long_at context (field_row (field_numbered n)).place) ∙ uses in
            let (name, has) = fit_named _ n (names (frame_of_field n (field_value context n))) (sound.fields key context at code n most used) in
            (name, ap names (sym (ap (λ p. frame_of_field n (long_at context p)) a.place ∙ a.frame (long_at context (field_row (field_numbered n)).place))) ∙ has)

  module _ (key : PartKey) (context : List ℕ) (at : maps.get h.parts key ≡ Some context) (code : key.code ≡ 4) (bytes : AreBytes context) where
    abbrev there : List ℕ
    there = renamed_context is_used_somewhere names key.key1 context

    says : SaysAnew (λ row. row.in_host) names key.key1 context there
    says = says_anew is_used_somewhere (λ row. row.in_host) host_use names key.key1 context small (recursion_from_All (λ b. b < 256) context bytes)

    part_is : blanked_part key (renamed_part is_used_somewhere names key context) ≡ there
    part_is =
        ap (λ b. cond b (blanked_context (cond b there context)) (cond (key.code == 7) (blanked_shared (cond b there context)) (cond b there context))) (eq-eqb key.code 4 code)
        ∙ anew_is_blank names key.key1 context there says (has_name key context at code)

    seen_parts : maps.get (normalised_of Pv names (guest_in h)).parts key ≡ Some there
    seen_parts =
        to_each part_total part_exact blanked_part (each_value (renamed_part is_used_somewhere names) h.parts) key (renamed_part is_used_somewhere names key context)
        (to_each part_total part_exact (renamed_part is_used_somewhere names) h.parts key context at)
        ∙ ap Some part_is

    pub context_seen : (new : List ℕ) × (maps.get (view h).parts key ≡ Some new) × IsSeenAs names key.key1 context new
    context_seen = (there, ap (λ k. maps.get (normalised_of k names (guest_in h)).parts key) pv ∙ seen_parts, seen_as names key.key1 context there says (has_name key context at code))
