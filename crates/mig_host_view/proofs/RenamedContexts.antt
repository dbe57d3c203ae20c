-- A context whose fields say other frames, and say them back.
use Rattle.mig_host_view.proofs.Common.{◌≡◌, ℕ, ◌+◌, ◌*◌, ◌/◌, ◌%◌, ◌^◌, ◌<◌, ◌≤◌, true, cond, List, Option, Some, refl, sym, ap, subst, ◌∙◌, arith, gdt_ents, long_at, field_at, field_value, frame_of_field, is_used, blanked_context, recursion_from_All, long_below, same_longs, GoesBack, is_used_somewhere, context_of_bytes, place_field, each_twice, renamed_context, each_long, Bytes, blanked_at, at_field}
use Rattle.mig_pvtables.specs.VcpuContexts.{blanked_value}
use Rattle.mig_pvtables.proofs.LongSteps.{long_of_each}
use Rattle.mig_host_view.specs.RenamedContexts.{renamed_value}
use Rattle.mig_host_view.proofs.RenamedFields.{IsBlankField, PlaceGoesBack, value_small, value_back_small, value_back}

-- ---- a whole context

-- each frame that vCPU id uses in a stream goes back
abbrev pub ContextGoesBack : (ℕ → Option ℕ) → (ℕ → Option ℕ) → ℕ → List ℕ → Type 0
ContextGoesBack f back id context = (i : ℕ) → i < 646 → PlaceGoesBack f back id (gdt_ents context) (field_at i) (long_at context i)

-- ctrlreg[1] is 0 where it isn't used
abbrev pub IsBlankContext : List ℕ → Type 0
IsBlankContext context = (i : ℕ) → i < 646 → (field : ℕ) → field_at i ≡ Some field → IsBlankField field (long_at context i)

module _ (f back : ℕ → Option ℕ) (id : ℕ) (context : List ℕ) (bytes : Bytes context) (goes : ContextGoesBack f back id context) where
  abbrev there : List ℕ
  there = renamed_context is_used f id context

  abbrev ents : ℕ
  ents = gdt_ents context

  there_small : (i : ℕ) → i < 646 → renamed_value is_used f id ents i (long_at context i) < 2 ^ 64
  there_small i lt = value_small f back id ents i (long_at context i) (goes i lt) (long_below (8 * i) context bytes)

  -- the number at a place of the renamed context
  pub there_at : (i : ℕ) → i < 646 → long_at there i ≡ renamed_value is_used f id ents i (long_at context i)
  there_at i lt = long_of_each 646 (renamed_value is_used f id ents) context there_small i lt

  no_field : (v : ℕ) → renamed_value is_used f id ents 620 v ≡ v
  unfolding renamed_value
  no_field v = refl

  -- the GDT has as many descriptors as before
  pub same_ents : gdt_ents there ≡ ents
  same_ents = there_at 620 (omega arith) ∙ no_field ents

  -- a context renamed and renamed back has the blank form of the context
  pub context_back : IsBlankContext context → blanked_context (renamed_context is_used_somewhere back id there) ≡ blanked_context context
  context_back blank =
      ap (λ n. blanked_context (each_long 646 (renamed_value is_used_somewhere back id n) there)) same_ents
      ∙ ap blanked_context (each_twice 646 (renamed_value is_used f id ents) context there_small (renamed_value is_used_somewhere back id ents))
      ∙ each_twice 646 (λ i v. renamed_value is_used_somewhere back id ents i (renamed_value is_used f id ents i v)) context back_small blanked_value
      ∙ same_longs 646 _ _ (λ i lt. value_back f back id ents i (long_at context i) (goes i lt) (long_below (8 * i) context bytes) (blank i lt))
    where
      back_small : (i : ℕ) → i < 646 → renamed_value is_used_somewhere back id ents i (renamed_value is_used f id ents i (long_at context i)) < 2 ^ 64
      back_small i lt = value_back_small f back id ents i (long_at context i) (goes i lt) (long_below (8 * i) context bytes) (blank i lt)

-- where each frame that a vCPU uses goes back, the frames at its places do
pub fields_go : (f back : ℕ → Option ℕ) (id : ℕ) (context : List ℕ)
    → ((field : ℕ) → field ≤ 18 → is_used id (gdt_ents context) field (field_value context field) ≡ true → GoesBack f back (frame_of_field field (field_value context field))) → ContextGoesBack f back id context
fields_go f back id context goes i lt field at =
    let (most, place) = place_field i field at in
    subst (λ q. is_used id (gdt_ents context) field (long_at context q) ≡ true → GoesBack f back (frame_of_field field (long_at context q))) place (goes field most)

-- in a context in its blank form, ctrlreg[1] is 0 where it isn't used
pub blank_value : (context : List ℕ) → blanked_context context ≡ context → IsBlankContext context
blank_value context is i lt field at plain root unused =
    let v = long_at context i in
    sym (ap (λ c. long_at c i) is) ∙ blanked_at context i lt
    ∙ ap (λ n. n % 2 ^ 64) (at_field context i v field at ∙ (λ j. cond (plain j) v (cond (root j) (v / 4096 * 4096) (cond (unused j) (v / 4096 * 4096 + 1) 0))))

-- a context in its blank form comes back
pub context_returns : (f back : ℕ → Option ℕ) (id : ℕ) (context : List ℕ) → blanked_context context ≡ context
    → ((field : ℕ) → field ≤ 18 → is_used id (gdt_ents context) field (field_value context field) ≡ true → GoesBack f back (frame_of_field field (field_value context field)))
    → blanked_context (renamed_context is_used_somewhere back id (renamed_context is_used f id context)) ≡ context
context_returns f back id context blank goes =
    context_back f back id context (recursion_from_All (λ b. b < 256) context (context_of_bytes context blank)) (fields_go f back id context goes) (blank_value context blank) ∙ blank
