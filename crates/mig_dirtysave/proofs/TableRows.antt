-- What the rounds of a save answer of the tables of a host is what is found in them row by row.
use Rattle.mig_dirtysave.proofs.Common.{arith, ◌≡◌, ℕ, ◌+◌, List, [], ◌∷◌, false, Option, Some, None, refl, sym, ap, ◌∙◌, find, option_and_then, range_with_len, option_map, option_or, nat_cmp_total, nat_cmp-IsAntisymmetric, level_of, Entry, Blank, NotPresent, Superpage, Frame, HostOf, HostFrame, HostFrames, pfn_in, long_at, entry, footprint, footprint_of, names_in, named_by, table_in, is_unknown, first_some, first_cause, get_each, guest_in, without_machine, superpage_in, superpage_slot, lost_in, lost_slot, is_lost, said_in, said_of, first_in_tables, zero, suc, slots, no_slot, table_fault, tables_unsound, find_said, says_in, or_none}
use Rattle.mig_pvtables.specs.Tables.{is_superpage}
use Rattle.mig_dirtysave_rounds.specs.Sends.{first_pfn, or_first, place}
use Rattle.std.specs.FinMap as maps
use Rattle.mig_headers.specs.declared.unsound.Unsound.TheVariants as unsounds

-- ---- frame numbers one after another

or_or : {C : Type 0} (a b c : Option C) → option_or (option_or a b) c ≡ option_or a (option_or b c)
or_or None b c = refl
or_or (Some x) b c = refl

module _ {C : Type 0} (g : ℕ → Option C) where
  some_more : (a n : ℕ) → first_some g (range_with_len a (suc n)) ≡ option_or (first_some g (range_with_len a n)) (g (a + n))
  some_more a zero = or_none (g a) ∙ ap g (omega arith)
  some_more a (suc n) =
      ap (option_or (g a)) (some_more (a + 1) n) ∙ sym (or_or (g a) (first_some g (range_with_len (a + 1) n)) (g ((a + 1) + n)))
      ∙ ap (λ k. option_or (option_or (g a) (first_some g (range_with_len (a + 1) n))) (g k)) (omega arith)

alike : (a b : Option (ℕ × ℕ)) → or_first a b ≡ option_or a b
alike None b = refl
alike (Some x) b = refl

first_by_rows : (f : ℕ → Option ℕ) (n : ℕ) → first_pfn f n ≡ first_some (λ q. option_map (λ slot. (q, slot)) (f q)) (range_with_len 0 n)
unfolding first_pfn
first_by_rows f zero = refl
first_by_rows f (suc n) =
    alike (first_pfn f n) (place n (f n)) ∙ ap (λ o. option_or o (place n (f n))) (first_by_rows f n)
    ∙ ap (λ k. option_or (first_some (λ q. option_map (λ slot. (q, slot)) (f q)) (range_with_len 0 n)) (place k (f k))) (omega arith)
    ∙ sym (some_more (λ q. option_map (λ slot. (q, slot)) (f q)) 0 n)

-- ---- one frame

never : find (λ slot. false) slots ≡ None
never = (no_slot (λ slot. false)).1 (λ k lt. refl)

super_said : (level : Option ℕ) (page : Option (List ℕ)) → superpage_in (table_in level page) ≡ find (λ slot. is_superpage (said_in level page slot)) slots
super_said None page = sym never
super_said (Some level) None = sym never
super_said (Some level) (Some raw) = refl

one_lost : (pfn_of : ℕ → Option ℕ) (e : Entry) (v : ℕ) → is_lost e (option_and_then pfn_of (named_by e v)) ≡ is_unknown pfn_of e
one_lost pfn_of Blank v = refl
one_lost pfn_of NotPresent v = refl
one_lost pfn_of Superpage v = refl
one_lost pfn_of (Frame mfn) v = refl

lost_said : (frames : HostFrames) (level : Option ℕ) (page : Option (List ℕ)) → lost_in (table_in level page) (names_in frames (table_in level page)) ≡ find (λ slot. is_unknown (pfn_in frames) (said_in level page slot)) slots
lost_said frames None page = sym never
lost_said frames (Some level) None = sym never
lost_said frames (Some level) (Some raw) = λ i. find (λ slot. one_lost (pfn_in frames) (entry level raw slot) (long_at raw slot) i) slots

module _ (h : HostOf) (q : ℕ) where
  frame_there : maps.get (guest_in h).frames q ≡ option_map without_machine (maps.get h.frames q)
  frame_there = get_each nat_cmp_total nat_cmp-IsAntisymmetric (λ _ (f : HostFrame). without_machine f) h.frames q

  pub super_there : superpage_slot (footprint h.frames q) ≡ find (λ slot. is_superpage (says_in (guest_in h).frames q slot)) slots
  super_there = by_case (maps.get h.frames q) ∙ ap (λ o. find (λ slot. is_superpage (said_of o slot)) slots) (sym frame_there)
    where
      by_case : (o : Option HostFrame) → superpage_slot (option_map (footprint_of h.frames) o) ≡ find (λ slot. is_superpage (said_of (option_map without_machine o) slot)) slots
      by_case None = sym never
      by_case (Some f) = super_said (level_of f.type) f.page

  pub lost_there : lost_slot (footprint h.frames q) ≡ find (λ slot. is_unknown (pfn_in h.frames) (says_in (guest_in h).frames q slot)) slots
  lost_there = by_case (maps.get h.frames q) ∙ ap (λ o. find (λ slot. is_unknown (pfn_in h.frames) (said_of o slot)) slots) (sym frame_there)
    where
      by_case : (o : Option HostFrame) → lost_slot (option_map (footprint_of h.frames) o) ≡ find (λ slot. is_unknown (pfn_in h.frames) (said_of (option_map without_machine o) slot)) slots
      by_case None = sym never
      by_case (Some f) = lost_said h.frames (level_of f.type) f.page

-- ---- all tables

fault_by_rows : (a b : Option (ℕ × ℕ)) → table_fault a b ≡ first_cause (option_map (λ (at : ℕ × ℕ). unsounds.Superpage at.0 at.1) a ∷ option_map (λ (at : ℕ × ℕ). unsounds.NoFrame at.0 at.1) b ∷ [])
fault_by_rows (Some at) b = refl
fault_by_rows None (Some at) = refl
fault_by_rows None None = refl

pub rounds_find_rows : (h : HostOf) → tables_unsound h.frames h.width ≡ first_in_tables h
rounds_find_rows h =
    fault_by_rows (first_pfn (λ q. superpage_slot (footprint h.frames q)) h.width) (first_pfn (λ q. lost_slot (footprint h.frames q)) h.width)
    ∙ (λ i. first_cause (option_map (λ (at : ℕ × ℕ). unsounds.Superpage at.0 at.1) (supers i) ∷ option_map (λ (at : ℕ × ℕ). unsounds.NoFrame at.0 at.1) (losts i) ∷ []))
  where
    supers : first_pfn (λ q. superpage_slot (footprint h.frames q)) h.width ≡ find_said h.width is_superpage (says_in (guest_in h).frames)
    supers = first_by_rows _ h.width ∙ (λ i. first_some (λ q. option_map (λ (slot : ℕ). (q, slot)) (super_there h q i)) (range_with_len 0 h.width))

    losts : first_pfn (λ q. lost_slot (footprint h.frames q)) h.width ≡ find_said h.width (is_unknown (pfn_in h.frames)) (says_in (guest_in h).frames)
    losts = first_by_rows _ h.width ∙ (λ i. first_some (λ q. option_map (λ (slot : ℕ). (q, slot)) (lost_there h q i)) (range_with_len 0 h.width))
