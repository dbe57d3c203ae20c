-- A context whose fields are renamed one by one, from field 0 on.
use Rattle.mig_host_view.proofs.Common.{◌≡◌, ℕ, ◌+◌, ◌*◌, ◌<◌, Bool, true, false, cond, List, length, get_or, Option, Some, None, refl, sym, ap, ◌∙◌, arith, lt-ltb, le-ltb, gdt_ents, long_at, field_at, field_place, field_value, frame_of_field, cond_some, Usage, field_of_frame, field_there, place_field, field_named, value_renamed, renamed_context, OneMore, ChangedWhere, none_changed, all_changed, still, one_changed, one_stays, one_more_below, cond_none}
use Rattle.byteorder.specs.Endian.{little_bytes}
use Rattle.mig_bytes.specs.Fields.{with_field}
use Rattle.mig_host_view.specs.LocaliseSteps.{is_field_below}
use Rattle.mig_host_view.specs.RenamedContexts.{renamed_value}

none_below : (o : Option ℕ) → is_field_below 0 o ≡ false
none_below None = refl
none_below (Some field) = le-ltb field 0 (omega arith)

-- the fields below n are renamed
pub record FieldsRenamed (u : Usage) (f : ℕ → Option ℕ) (id : ℕ) (context : List ℕ) (n : ℕ) (now : List ℕ) : Type 0 where
  pub so_far : ChangedWhere 646 (renamed_value u f id (gdt_ents context)) context (λ i. is_field_below n (field_at i)) now

to_is : (u : Usage) (f : ℕ → Option ℕ) (id ents i v : ℕ) (o : Option ℕ) → field_at i ≡ o → renamed_value u f id ents i v ≡ value_renamed u f id ents o v
unfolding renamed_value
to_is u f id ents i v o e = ap (λ o. value_renamed u f id ents o v) e

module _ {u : Usage} {f : ℕ → Option ℕ} {id : ℕ} {context : List ℕ} where
  pub fields_start : ((i : ℕ) → get_or context i 0 < 256) → length context ≡ 5168 → FieldsRenamed u f id context 0 context
  fields_start fits size = record { so_far = none_changed fits size (λ i. none_below (field_at i)) }

  module _ {n : ℕ} {now : List ℕ} (is : FieldsRenamed u f id context n now) where
    abbrev ents : ℕ
    ents = gdt_ents context

    abbrev to : ℕ → ℕ → ℕ
    to i v = renamed_value u f id ents i v

    pub fields_end : n ≡ 19 → now ≡ renamed_context u f id context
    fields_end end = all_changed is.so_far (λ i lt. by_case i (field_at i) refl)
      where
        by_case : (i : ℕ) (o : Option ℕ) → field_at i ≡ o → cond (is_field_below n o) (to i (long_at context i)) (long_at context i) ≡ to i (long_at context i)
        by_case i None e = sym (to_is u f id ents i (long_at context i) None e)
        by_case i (Some field) e = ap (λ b. cond b (to i (long_at context i)) (long_at context i)) (lt-ltb field n (let (most, _) = place_field i field e in omega (arith, most, end)))

    module _ (lt : n < 19) where
      there : (field_at (field_place n) ≡ Some n) × (field_place n < 646)
      there = field_there n (omega (arith, lt))

      abbrev place : ℕ
      place = field_place n

      abbrev v : ℕ
      v = field_value context n

      step : OneMore place (λ i. is_field_below n (field_at i)) (λ i. is_field_below (n + 1) (field_at i))
      step = record {
        before = ap (is_field_below n) there.0 ∙ le-ltb n n (omega arith);
        after = ap (is_field_below (n + 1)) there.0 ∙ lt-ltb n (n + 1) (omega arith);
        others = λ j ne. by_case j ne (field_at j) refl;
      }
        where
          by_case : (j : ℕ) → (j ≡ place → ⊥) → (o : Option ℕ) → field_at j ≡ o → is_field_below n o ≡ is_field_below (n + 1) o
          by_case j ne None e = refl
          by_case j ne (Some field) e = one_more_below n field (λ same. ne (sym (place_field j field e).1 ∙ ap field_place same))

      -- the frame that the field says, where it is used
      abbrev says_in : List ℕ → Option ℕ
      says_in c = cond (u id (gdt_ents c) n (field_value c n)) (Some (frame_of_field n (field_value c n))) None

      -- one that isn't renamed yet says what it said
      pub same_says : says_in now ≡ says_in context
      same_says =
          let same_ents : gdt_ents now ≡ ents = still is.so_far 620 (omega arith) refl in
          let same_value : field_value now n ≡ v = still is.so_far place there.1 step.before in
          λ i. cond (u id (same_ents i) n (same_value i)) (Some (frame_of_field n (same_value i))) None

      told : (b : Bool) → u id ents n v ≡ b → to place v ≡ cond b (field_named n v (f (frame_of_field n v))) v
      told b is = to_is u f id ents place v (Some n) there.0 ∙ ap (λ b. cond b (field_named n v (f (frame_of_field n v))) v) is

      named : {pfn : ℕ} → Some pfn ≡ says_in now → (o : Option ℕ) → f pfn ≡ o → to place v ≡ field_named n v o
      named {pfn = pfn} says o has =
          let said = cond_some (u id ents n v) (frame_of_field n v) pfn (sym (says ∙ same_says)) in
          told true said.0 ∙ ap (field_named n v) (ap f said.1 ∙ has)

      pub field_put : {pfn m : ℕ} {new : List ℕ} → Some pfn ≡ says_in now → f pfn ≡ Some m → new ≡ with_field now (8 * field_place n) (little_bytes 8 (field_of_frame n m)) → FieldsRenamed u f id context (n + 1) new
      field_put {m = m} says has put = record { so_far = one_changed is.so_far there.1 step put (sym (named says (Some m) has)) }

      pub field_unknown : {pfn : ℕ} {new : List ℕ} → Some pfn ≡ says_in now → f pfn ≡ None → new ≡ now → FieldsRenamed u f id context (n + 1) new
      field_unknown says none same = record { so_far = one_stays is.so_far there.1 step same (named says None none) }

      pub field_unused : {new : List ℕ} → None ≡ says_in now → new ≡ now → FieldsRenamed u f id context (n + 1) new
      field_unused says same = record { so_far = one_stays is.so_far there.1 step same (told false (cond_none (u id ents n v) (frame_of_field n v) (sym (says ∙ same_says)))) }
