-- What is wrong with an entry of an HVM context, and the entries before it.
use Rattle.mig_refusals.proofs.Common.{◌≡◌, ◌⊎◌, inl, inr, ℕ, ◌+◌, ◌≤◌, List, length, is_some, Some, None, refl, sym, subst, ◌∙◌, arith, cases_eq, cases_lt, eqb-false, ne_eqb, common_steps, le16, le32, here, EntriesTo, EntryHas, none-some, same_Some, ChainTo, fault_at, after_entry, entry_end, is_last, chain_more, gone, none_of, not_last, ContextFault, NoHeader, HeaderSize, ShortEntry, NoEnd, next_reached}
use Rattle.mig_refusals.specs.Libxc.EntriesTo.{start, next}
use Rattle.mig_refusals.specs.Libxc.EntryHas.{nothing_at_all, nothing_more, short_front, other_first, header_size, short_data}

module _ (bytes : List ℕ) (o : ℕ) where
  -- an entry without fault
  record FineEntry : Type 0 where
    first : o ≡ 0 → (le16 bytes 0 ≡ 1) × (le32 bytes 4 ≡ 24)
    whole : o + 8 ≤ length bytes
    fits : (le16 bytes o ≡ 0 → ⊥) → entry_end bytes o ≤ length bytes

  -- each entry is without fault, or has one in words
  judged : FineEntry ⊎ ((fault : ContextFault) × EntryHas bytes o fault)
  judged = elim (cases_lt o (length bytes)) [
    | inr past ↦ inr (elim (cases_eq o 0) [ inl zero ↦ (NoHeader, nothing_at_all zero past) | inr some ↦ (NoEnd, nothing_more (grind (arith, some)) past) ])
    | inl more ↦ elim (cases_lt (length bytes) (o + 8)) [ inl short ↦ inr (ShortEntry o, short_front more short) | inr whole ↦ by_first whole ]
  ]
    where
      by_length : o + 8 ≤ length bytes → (o ≡ 0 → (le16 bytes 0 ≡ 1) × (le32 bytes 4 ≡ 24)) → FineEntry ⊎ ((fault : ContextFault) × EntryHas bytes o fault)
      by_length whole first = elim (cases_eq (le16 bytes o) 0) [
        | inl last ↦ inl (record { first = first; whole = whole; fits = λ more. absurd (more last) })
        | inr more ↦ elim (cases_lt (length bytes) (entry_end bytes o)) [
          | inl short ↦ inr (ShortEntry o, short_data first whole more short)
          | inr fits ↦ inl (record { first = first; whole = whole; fits = λ _. fits })
        ]
      ]

      by_first : o + 8 ≤ length bytes → FineEntry ⊎ ((fault : ContextFault) × EntryHas bytes o fault)
      by_first whole = elim (cases_eq o 0) [
        | inr some ↦ by_length whole (λ zero. absurd (some zero))
        | inl zero ↦ elim (cases_eq (le16 bytes 0) 1) [
          | inr other ↦ inr (NoHeader, other_first zero whole other)
          | inl one ↦ elim (cases_eq (le32 bytes 4) 24) [ inr other ↦ inr (HeaderSize (le32 bytes 4), header_size zero whole one other) | inl size ↦ by_length whole (λ _. (one, size)) ]
        ]
      ]

  fine_entry : FineEntry → fault_at bytes o ≡ None
  unfolding fault_at
  fine_entry e = let first = e.first in let whole = e.whole in let fits = e.fits in grind (arith, common_steps, first, whole, fits)

  pub has_found : (fault : ContextFault) → EntryHas bytes o fault → fault_at bytes o ≡ Some fault
  unfolding fault_at
  has_found _ (nothing_at_all zero h) = grind (arith, common_steps, zero, h)
  has_found _ (nothing_more some h) = grind (arith, common_steps, some, h)
  has_found _ (short_front some h) = grind (arith, common_steps, some, h)
  has_found _ (other_first zero whole h) = grind (arith, common_steps, zero, whole, h)
  has_found _ (header_size zero whole is h) = grind (arith, common_steps, zero, whole, is, h)
  has_found _ (short_data fine whole h less) = grind (arith, common_steps, fine, whole, h, less)

  pub found_has : (fault : ContextFault) → fault_at bytes o ≡ Some fault → EntryHas bytes o fault
  found_has fault h = elim judged [
    | inl fine ↦ absurd (none-some fault (sym (fine_entry fine) ∙ h))
    | inr has ↦ subst (EntryHas bytes o) (same_Some has.0 fault (sym (has_found has.0 has.1) ∙ h)) has.1
  ]

  entry_fine : fault_at bytes o ≡ None → FineEntry
  entry_fine h = elim judged [ inl fine ↦ fine | inr has ↦ absurd (none-some has.0 (sym h ∙ has_found has.0 has.1)) ]

module _ (bytes : List ℕ) where
  pub chain_reached : (o : ℕ) → EntriesTo bytes o → ChainTo bytes o
  chain_reached _ start = here
  chain_reached _ (next o before first some fits) =
      chain_more bytes o (entry_end bytes o) (chain_reached o before) (fine_entry bytes o (record { first = first; whole = omega (arith, fits); fits = λ _. fits })) (ne_eqb _ _ some) refl

  step_is : (o t : ℕ) → after_entry bytes o ≡ Some t → EntriesTo bytes o → EntriesTo bytes t
  unfolding after_entry
  step_is o t h before =
      let (fine, is) = gone (is_some (fault_at bytes o)) (is_last bytes o) (entry_end bytes o) t h in
      let e = entry_fine bytes o (none_of (fault_at bytes o) fine) in
      let more = eqb-false _ _ (not_last (is_some (fault_at bytes o)) (is_last bytes o) (entry_end bytes o) t h) in
      subst (EntriesTo bytes) is (next o before e.first more (e.fits more))

  pub reached_chain : (o : ℕ) → ChainTo bytes o → EntriesTo bytes o
  reached_chain _ here = start
  reached_chain _ (next_reached s t reached h) = step_is s t h (reached_chain s reached)
