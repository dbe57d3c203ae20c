-- Walks along the entries of a map, up to the first that gives an answer.
use Rattle.mig_pvtables.proofs.Common.{◌≡◌, ◌≢◌, ℕ, ◌+◌, ◌<◌, ◌≤◌, Bool, true, false, cond, not, List, [], ◌∷◌, length, Option, Some, None, refl, sym, ap, subst, inl, inr, cases_eq, ◌∙◌, arith, ◌&&◌, ◌==◌, find, option_map, option_or, nat_lt, Entry, FrameOf, FrameMap, PartKey, PartMap, Part, parts_after, part_total, part_exact, PageType, level_of, first_passes, first_some, find_slot, find_entry, fits_field, gdt_ents, field_value, frame_of_field, cond_some, entries_from, field_numbers, Usage, most_gdt_entries, misses, Bor, MatchOption, parts_of}
use Rattle.std.specs.Array.{IsWholeChunk}
use Rattle.mig_guest.proofs.NextEntries.{from_zero}
use Rattle.mig_pvtables.proofs.BlankCodes.{is_next, by_test, next_parts}
use Rattle.mig_pvtables.proofs.Searches.{cond_none}
use Rattle.mig_pvtables.proofs.Slots.{first_field, no_field}
use Rattle.std.specs.FinMap as maps

-- a part that is taken as an array of n bytes is that array
pub taken : (part : List ℕ) (n : ℕ) {o : Option (Bor (List ℕ))} {array : Bor (List ℕ)} → o ≡ Some array → MatchOption o (length part ≢ n) (λ y. IsWholeChunk part y.now n) → array.now ≡ part
taken part n is cases = (subst (λ (o : Option (Bor (List ℕ))). MatchOption o (length part ≢ n) (λ y. IsWholeChunk part y.now n)) is cases).same

-- ---- frames

pub frames_counted : (frames : FrameMap) → maps.len frames ≡ length (maps.entries frames)
frames_counted frames = maps.len-entries frames

module _ (bad : Entry → Bool) (frames : FrameMap) where
  -- what is found in one frame
  abbrev pub in_frame : ℕ × FrameOf → Option (ℕ × ℕ)
  in_frame e = option_map (λ slot. (e.0, slot)) (find_slot bad (level_of e.1.type) e.1.page)

  -- what the frames from a number on give is what all give
  abbrev pub IsSoFrom : ℕ → Type 0
  IsSoFrom from = first_some in_frame (entries_from from (maps.entries frames)) ≡ find_entry bad frames

  pub frames_start : IsSoFrom 0
  frames_start = ap (first_some in_frame) (from_zero (maps.entries frames))

-- ---- contexts of vCPUs

-- of the fields below n none is used and says no frame of its type
pub record NoneMisses (used : Usage) (type_of : ℕ → Option PageType) (id : ℕ) (context : List ℕ) (n : ℕ) : Type 0 where
  pub none : (k : ℕ) → k < n → misses used type_of id context k ≡ false

pub misses_start : {used : Usage} {type_of : ℕ → Option PageType} {id : ℕ} {context : List ℕ} → NoneMisses used type_of id context 0
misses_start = record { none = λ k lt. absurd (omega (arith, lt)) }

module _ {used : Usage} {type_of : ℕ → Option PageType} {id : ℕ} {context : List ℕ} {n : ℕ} (so_far : NoneMisses used type_of id context n) where
  pub misses_end : 19 ≤ n → None ≡ find (misses used type_of id context) field_numbers
  misses_end all = sym ((no_field (misses used type_of id context)).1 (λ k lt. so_far.none k (omega (arith, lt, all))))

  one_fine : misses used type_of id context n ≡ false → NoneMisses used type_of id context (n + 1)
  one_fine fine = record {
    none = λ k lt. elim (cases_eq k n) [
      | inl e ↦ ap (misses used type_of id context) e ∙ fine
      | inr ne ↦ so_far.none k (omega (arith, lt, ne))
    ];
  }

  -- what the field says, where it is used
  abbrev says : Option ℕ
  says = cond (used id (gdt_ents context) n (field_value context n)) (Some (frame_of_field n (field_value context n))) None

  pub field_unused : None ≡ says → NoneMisses used type_of id context (n + 1)
  field_unused is = one_fine (ap (λ b. b && not (fits_field n (type_of (frame_of_field n (field_value context n))))) (cond_none (used id (gdt_ents context) n (field_value context n)) (frame_of_field n (field_value context n)) (sym is)))

  module _ {frame : ℕ} {type : Option PageType} {fits : Bool} (is : Some frame ≡ says) (has : type ≡ type_of frame) (fit : fits ≡ fits_field n type) where
    said : misses used type_of id context n ≡ not fits
    said =
        let (in_use, same) = cond_some (used id (gdt_ents context) n (field_value context n)) (frame_of_field n (field_value context n)) frame (sym is) in
        (λ i. in_use i && not (fits_field n (type_of (same i)))) ∙ ap (λ t. not (fits_field n t)) (sym has) ∙ ap not (sym fit)

    pub field_fits : fits ≡ true → NoneMisses used type_of id context (n + 1)
    field_fits good = one_fine (said ∙ ap not good)

    pub field_misses : n < 19 → fits ≡ false → Some n ≡ find (misses used type_of id context) field_numbers
    field_misses lt bad = sym (first_field (misses used type_of id context) n lt (said ∙ ap not bad) so_far.none)

-- contexts, and what is found in one
module _ {C : Type 0} (in_context : Part → Option C) where
  contexts_alone : (es : List Part) → first_some in_context (parts_of 4 es) ≡ first_some (λ e. cond (e.0.code == 4) (in_context e) None) es
  contexts_alone [] = refl
  contexts_alone (e ∷ es) = elim (e.0.code == 4) as (λ b. first_some in_context (cond b (e ∷ parts_of 4 es) (parts_of 4 es)) ≡ option_or (cond b (in_context e) None) (first_some (λ e. cond (e.0.code == 4) (in_context e) None) es)) [
    | true ↦ ap (option_or (in_context e)) (contexts_alone es)
    | false ↦ contexts_alone es
  ]

  module _ (parts : PartMap) where
    -- what is found in all
    abbrev pub in_contexts : Option C
    in_contexts = first_some (λ e. cond (e.0.code == 4) (in_context e) None) (maps.entries parts)

    -- what the contexts behind a key give is what all give
    abbrev pub IsSoBehind : Option PartKey → Type 0
    IsSoBehind after = first_some in_context (parts_after 4 after (maps.entries parts)) ≡ in_contexts

    pub contexts_start : IsSoBehind None
    contexts_start = contexts_alone (maps.entries parts)

-- the first field of a context that passes a test
abbrev pub in_fields : (ℕ → List ℕ → ℕ → Bool) → Part → Option (ℕ × ℕ)
in_fields bad e = option_map (λ field. (e.0.key1, field)) (find (bad e.0.key1 e.1) field_numbers)

-- the size of a GDT that has too many descriptors
abbrev pub large_in : Part → Option (ℕ × ℕ)
large_in e = cond (nat_lt most_gdt_entries (gdt_ents e.1)) (Some (e.0.key1, gdt_ents e.1)) None

pub context_there : (parts : PartMap) (after : Option PartKey) (e : Part) → parts_after 4 after (maps.entries parts) ≡ e ∷ parts_after 4 (Some e.0) (maps.entries parts) → (e.0.code ≡ 4) × (maps.get parts e.0 ≡ Some e.1)
context_there parts after e next =
    let found = first_passes part_total part_exact parts (is_next 4 after) e (parts_after 4 (Some e.0) (maps.entries parts)) (sym (by_test 4 after (maps.entries parts)) ∙ next) in
    ((next_parts 4 after e.0 found.0).0, found.1)
