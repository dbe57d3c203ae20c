-- A renamed context, in words: and what a host's context says in the guest that the host is seen as.
use Rattle.mig_host_laws.proofs.Common.{both_ways, Bytes, long_below, ◌≡◌, ℕ, ◌*◌, ◌%◌, ◌^◌, ◌<◌, ◌≤◌, Bool, true, false, cond, List, Option, Some, None, refl, sym, ap, subst, ◌∙◌, arith, gdt_ents, long_at, length_longs, field_at, is_used, Usage, is_used_somewhere, place_field, long_of_each, field_named, value_renamed, renamed_context, Field, field_row, IsField, field_numbered, said_by, Uses, AreNamesSmall, SaysAnew, IsSeenAs, FieldRow, UsedWhere, longs_bytes}
use Rattle.mig_host_view.specs.RenamedContexts.{renamed_value}
use Rattle.mig_host_laws.proofs.Fields.{AreLongs, are_longs, agrees, at_its_place, place_inside, one_place, numbers_tell, value_small, number_small, numbered}

-- a use that is told by numbers is that of a row
abbrev pub IsUseOf : Usage → (FieldRow → UsedWhere) → Type 0
IsUseOf usage used = (n : ℕ) → n ≤ 18 → (id ents v : ℕ) → usage id ents n v ≡ used (field_row (field_numbered n)) id ents v

pub stream_use : IsUseOf is_used (λ row. row.in_stream)
stream_use n most id ents v = (agrees n most).stream id ents v

pub host_use : IsUseOf is_used_somewhere (λ row. row.in_host)
host_use n most id ents v = (agrees n most).host id ents v

low : (v : ℕ) → v < 2 ^ 64 → v % 2 ^ 64 ≡ v
low v small = omega (arith, small)

-- the value with another name, where there is one
abbrev pub named : FieldRow → ℕ → Option ℕ → ℕ
named row v None = v
named row v (Some name) = row.value name

module _ (usage : Usage) (used : FieldRow → UsedWhere) (same : IsUseOf usage used) (names : ℕ → Option ℕ) (id : ℕ) (context : List ℕ) where
  abbrev ents : ℕ
  ents = gdt_ents context

  abbrev new : List ℕ
  new = renamed_context usage names id context

  -- what becomes of the value of a field
  abbrev pub told : Field → ℕ → ℕ
  told f v = cond (used (field_row f) id ents v) (named (field_row f) v (names ((field_row f).frame v))) v

  -- the same by the field's number
  value_is : (n : ℕ) → n ≤ 18 → (v : ℕ) → value_renamed usage names id ents (Some n) v ≡ told (field_numbered n) v
  value_is n most v =
      let a = agrees n most in
      let is_used_so = same n most id ents v in
      let frame = a.frame v in
      (λ i. cond (is_used_so i) (field_named n v (names (frame i))) v) ∙ ap (λ w. cond (used (field_row (field_numbered n)) id ents v) w v) (by_name (names ((field_row (field_numbered n)).frame v)))
    where
      by_name : (o : Option ℕ) → field_named n v o ≡ named (field_row (field_numbered n)) v o
      by_name None = refl
      by_name (Some name) = (agrees n most).value name

  here : (i v : ℕ) → renamed_value usage names id ents i v ≡ value_renamed usage names id ents (field_at i) v
  unfolding renamed_value
  here i v = refl

  number_at : (i : ℕ) → i < 646 → long_at new i ≡ value_renamed usage names id ents (field_at i) (long_at context i) % 2 ^ 64
  number_at i lt = long_of_each 646 (renamed_value usage names id ents) context i lt ∙ ap (λ v. v % 2 ^ 64) (here i (long_at context i))

  -- what stands at the place of a field
  pub of_field : (f : Field) → IsField f → long_at new (field_row f).place ≡ told f (long_at context (field_row f).place) % 2 ^ 64
  of_field f is =
      let p : ℕ = (field_row f).place in
      number_at p (place_inside f is) ∙ ap (λ o. value_renamed usage names id ents o (long_at context p) % 2 ^ 64) (at_its_place f is)
      ∙ ap (λ v. v % 2 ^ 64) (value_is (field_row f).number (number_small f is) (long_at context p)) ∙ ap (λ g. told g (long_at context p) % 2 ^ 64) (numbered f is)

  module _ (small : AreNamesSmall names) (all : Bytes context) where
    fits : (i : ℕ) → long_at context i < 2 ^ 64
    fits i = long_below (8 * i) context all

    -- a field that is used says the name
    field_says : (f : Field) → IsField f → Uses used id context f → (name : ℕ) → names (said_by f context) ≡ Some name → long_at new (field_row f).place ≡ (field_row f).value name
    field_says f is uses name has =
        let v : ℕ = long_at context (field_row f).place in
        of_field f is ∙ ap (λ b. cond b (named (field_row f) v (names ((field_row f).frame v))) v % 2 ^ 64) uses ∙ ap (λ o. named (field_row f) v o % 2 ^ 64) has
        ∙ low ((field_row f).value name) (value_small f name (small _ name has))

    -- one whose frame has no name, or that isn't used, stays
    field_stays : (f : Field) → IsField f → (Uses used id context f → names (said_by f context) ≡ None) → long_at new (field_row f).place ≡ long_at context (field_row f).place
    field_stays f is none =
        let v : ℕ = long_at context (field_row f).place in
        of_field f is ∙ ap (λ w. w % 2 ^ 64) (elim (used (field_row f) id ents v) as (λ b. used (field_row f) id ents v ≡ b → cond b (named (field_row f) v (names ((field_row f).frame v))) v ≡ v) [
          | true ↦ λ uses. ap (named (field_row f) v) (none uses)
          | false ↦ λ uses. refl
        ] refl) ∙ low v (fits (field_row f).place)

    place_stays : (o : Option ℕ) (i : ℕ) → i < 646 → field_at i ≡ o → ((f : Field) → IsField f → (field_row f).place ≡ i → Uses used id context f → names (said_by f context) ≡ None) → long_at new i ≡ long_at context i
    place_stays None i lt at none = number_at i lt ∙ ap (λ o. value_renamed usage names id ents o (long_at context i) % 2 ^ 64) at ∙ low (long_at context i) (fits i)
    place_stays (Some n) i lt at none =
        let (most, place) = place_field i n at in
        let a = agrees n most in
        let stands : (field_row (field_numbered n)).place ≡ i = sym a.place ∙ place in
        subst (λ p. long_at new p ≡ long_at context p) stands (field_stays (field_numbered n) a.is (none (field_numbered n) a.is stands))

    pub says_anew : SaysAnew used names id context new
    says_anew = record {
      size = length_longs 646 _;
      bytes = longs_bytes 646 _;
      said = field_says;
      others = λ i lt none. place_stays (field_at i) i lt refl none;
    }

-- ---- what is said pins the context down

-- two contexts that say the same of each field that is used, and the same at all other places, are one
module _ (used : FieldRow → UsedWhere) (id : ℕ) (context a b : List ℕ) (first : AreLongs 646 a) (second : AreLongs 646 b)
    (fields : (f : Field) → IsField f → Uses used id context f → long_at a (field_row f).place ≡ long_at b (field_row f).place)
    (others : (i : ℕ) → i < 646 → ((f : Field) → IsField f → (field_row f).place ≡ i → Uses used id context f → ⊥) → long_at a i ≡ long_at b i) where
  at_field : (f : Field) → IsField f → (u : Bool) → used (field_row f) id (gdt_ents context) (long_at context (field_row f).place) ≡ u → long_at a (field_row f).place ≡ long_at b (field_row f).place
  at_field f is true uses = fields f is uses
  at_field f is false un =
      others (field_row f).place (place_inside f is) (λ g also at uses. both_ways _ un (subst (λ h. Uses used id context h) (one_place g f also is at) uses))

  at_place : (i : ℕ) → i < 646 → (o : Option ℕ) → field_at i ≡ o → long_at a i ≡ long_at b i
  at_place i lt None at =
      others i lt (λ g also place uses. let no : None ≡ Some (field_row g).number = sym at ∙ ap field_at (sym place) ∙ at_its_place g also in cc)
  at_place i lt (Some n) at =
      let (most, place) = place_field i n at in
      let m = agrees n most in
      let f : Field = field_numbered n in
      let stands : (field_row f).place ≡ i = sym m.place ∙ place in
      subst (λ p. long_at a p ≡ long_at b p) stands (at_field f m.is (used (field_row f) id (gdt_ents context) (long_at context (field_row f).place)) refl)

  pub one_context : a ≡ b
  one_context = numbers_tell 646 a b first second (λ i lt. at_place i lt (field_at i) refl)

pub seen_once : (pfn_of : ℕ → Option ℕ) (id : ℕ) (context a b : List ℕ) → IsSeenAs pfn_of id context a → IsSeenAs pfn_of id context b → a ≡ b
seen_once pfn_of id context a b first second =
    one_context (λ row. row.in_host) id context a b (are_longs a first.bytes first.size) (are_longs b second.bytes second.size)
    (λ f is uses.
    let (n, has, says) = first.said f is uses in
    let (m, also, tells) = second.said f is uses in
    let some : Some n ≡ Some m = sym has ∙ also in
    let same : n ≡ m = cc in
    says ∙ ap (field_row f).value same ∙ sym tells)
    (λ i lt none. first.others i lt none ∙ sym (second.others i lt none))
