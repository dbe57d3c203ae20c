-- What the entries and the fields of a host say once their machine frames are frame numbers again.
use Rattle.mig_host_view.proofs.Common.{◌≡◌, ℕ, ◌-◌, ◌*◌, ◌%◌, ◌^◌, ◌<◌, ◌≤◌, Bool, true, false, cond, not, nat_le, nat_lt, ◌==◌, List, [], ◌∷◌, Option, Some, None, IsSome, refl, sym, ap, subst, ◌∙◌, arith, find, option_map, option_and_then, nat_cmp_total, nat_cmp-IsAntisymmetric, eqb-true, ne_eqb, PageType, Entry, Blank, NotPresent, Superpage, Frame, gdt_ents, entry, long_at, fits_field, field_at, field_place, field_value, frame_of_field, is_marked, is_used, top_limit, HostFrame, pfn_in, entry_of, NamesKnown, name_for, renamed_table, entry_named, field_of_frame, is_used_somewhere, field_there, renamed_long, by_frames, value_renamed, renamed_context, field_named, most_gdt_entries, All, get-entries, entries_sorted, All-head, All-tail, HostFrames, low_says, unfit, renamed_says}
use Rattle.mig_guest.proofs.Found.{all_found}
use Rattle.mig_pvtables.proofs.Moduli.{long_of_each}
use Rattle.mig_host_view.specs.RenamedContexts.{renamed_value}
use Rattle.mig_host_view.proofs.RenamedFields.{frame_there, field_small}
use Rattle.std.specs.FinMap as maps

-- ---- the PFN of a machine frame has a frame

found_holds : {A : Type 0} (P : A → Type 0) (test : A → Bool) (xs : List A) (x : A) → All P xs → find test xs ≡ Some x → P x
found_holds P test [] x all is = cc
found_holds P test (y ∷ ys) x all is = elim (test y) as (λ b. cond b (Some y) (find test ys) ≡ Some x → P x) [
  | true ↦ λ at. let same : y ≡ x = cc in subst P same (All-head P y ys all)
  | false ↦ λ at. found_holds P test ys x (All-tail P y ys all) at
] is

pub pfn_found : (frames : HostFrames) (mfn pfn : ℕ) → pfn_in frames mfn ≡ Some pfn → (x : HostFrame) × (maps.get frames pfn ≡ Some x)
pfn_found frames mfn pfn is = elim (find test (maps.entries frames)) as (λ o. find test (maps.entries frames) ≡ o → option_map (λ (e : ℕ × HostFrame). e.0) o ≡ Some pfn → (x : HostFrame) × (maps.get frames pfn ≡ Some x)) [
  | None ↦ λ at same. cc
  | Some e ↦ λ at same. let pfn_is : e.0 ≡ pfn = cc in subst (λ n. (x : HostFrame) × (maps.get frames n ≡ Some x)) pfn_is (e.1, found_holds IsEntry test (maps.entries frames) e all at)
] refl is
  where
    test : ℕ × HostFrame → Bool
    test e = e.1.machine == mfn

    IsEntry : ℕ × HostFrame → Type 0
    IsEntry e = maps.get frames e.0 ≡ Some e.1

    all : All IsEntry (maps.entries frames)
    all = all_found nat_cmp_total nat_cmp-IsAntisymmetric IsEntry (maps.entries frames) (entries_sorted frames) (λ q v at. get-entries frames q ∙ at)

-- ---- entries

module _ (f : ℕ → Option ℕ) (small : (mfn pfn : ℕ) → f mfn ≡ Some pfn → pfn < top_limit) where
  fits : (x : Entry) (n m : ℕ) → x ≡ Frame n → name_for f x ≡ Some m → m < 2 ^ 40
  fits x n m is has = let low = small n m (sym (ap (name_for f) is) ∙ has) in omega (arith, low)

  said_there : (level slot : ℕ) (page : List ℕ) → slot < 512 → entry level (renamed_table f level page) slot ≡ entry_named (name_for f (entry level page slot)) (entry level page slot)
  said_there level slot page lt =
      let e = long_at page slot in
      ap (λ p. entry level p slot) (by_frames f level page) ∙ ap (entry_of level slot) (long_of_each 512 (renamed_long f level) page slot lt) ∙ low_says level slot (renamed_long f level slot e)
      ∙ renamed_says (λ _. name_for f (entry_of level slot e)) level slot e (fits (entry_of level slot e))

  named_case : (P : Entry → Type 0) → P Blank → P NotPresent → ((mfn pfn : ℕ) → f mfn ≡ Some pfn → P (Frame pfn)) → (x : Entry) → NamesKnown f x → P (entry_named (name_for f x) x)
  named_case P blank none named Blank known = blank
  named_case P blank none named NotPresent known = none
  named_case P blank none named Superpage known = absurd known
  named_case P blank none named (Frame m) known = elim (f m) as (λ o. f m ≡ o → IsSome o → P (entry_named o (Frame m))) [
    | None ↦ λ is some. let no : false ≡ true = some in cc
    | Some n ↦ λ is some. named m n is
  ] refl known

  -- what holds of entries that name nothing, and of those that name a PFN of a machine frame, holds of each entry
  pub entry_there : (P : Entry → Type 0) → P Blank → P NotPresent → ((mfn pfn : ℕ) → f mfn ≡ Some pfn → P (Frame pfn)) → (level slot : ℕ) (page : List ℕ) → slot < 512 → NamesKnown f (entry level page slot) → P (entry level (renamed_table f level page) slot)
  entry_there P blank none named level slot page lt known = subst P (sym (said_there level slot page lt)) (named_case P blank none named (entry level page slot) known)

-- ---- one field

-- where a stream uses a number of 8 bytes, a host uses the field
used_there : (id ents field v : ℕ) → is_used id ents field (v % 2 ^ 64) ≡ true → is_used_somewhere id ents field v ≡ true
used_there id ents field v used = by_case (field == 18) (λ e. eqb-true field 18 e)
  where
    low : is_marked (v % 2 ^ 64) ≡ is_marked v
    low = let e : v % 2 ^ 64 % 2 ≡ v % 2 = omega arith in ap (λ n. n == 1) e

    not_zero : is_marked (v % 2 ^ 64) ≡ true → not (v == 0) ≡ true
    not_zero marked = ap not (ne_eqb v 0 (λ zero. let no : false ≡ true = sym (ap (λ n. is_marked (n % 2 ^ 64)) zero) ∙ marked in cc))

    same : (z a b i g : Bool) → cond z i (cond a g (cond b true (is_marked (v % 2 ^ 64)))) ≡ true → cond z i (cond a g (cond b true (is_marked v))) ≡ true
    same true a b i g is = is
    same false true b i g is = is
    same false false true i g is = is
    same false false false i g is = sym low ∙ is

    by_case : (l : Bool) → (l ≡ true → field ≡ 18) → cond l (not (v == 0)) (is_used id ents field v) ≡ true
    by_case true last = not_zero (subst (λ k. is_used id ents k (v % 2 ^ 64) ≡ true) (last refl) used)
    by_case false last = same (field == 0) (nat_le field 16) (field == 17) (id == 0) (nat_lt ((field - 1) * 512) ents) used

module _ (f : ℕ → Option ℕ) (type_of : ℕ → Option PageType) (small : (mfn pfn : ℕ) → f mfn ≡ Some pfn → pfn < top_limit) (id ents field v : ℕ) where
  -- a frame that fits has a PFN
  fit_named : (o : Option ℕ) → fits_field field (option_and_then type_of o) ≡ true → (n : ℕ) × (o ≡ Some n) × (fits_field field (type_of n) ≡ true)
  fit_named None is = let no : false ≡ true = sym (unfit field) ∙ is in cc
  fit_named (Some n) is = (n, refl, is)

  abbrev now : ℕ
  now = value_renamed is_used_somewhere f id ents (Some field) v % 2 ^ 64

  -- a field that a stream uses says a PFN that fits, where a host's field says the machine frame of one
  field_case : (b : Bool) → is_used_somewhere id ents field v ≡ b → (is_used_somewhere id ents field v ≡ true → fits_field field (option_and_then type_of (f (frame_of_field field v))) ≡ true)
      → is_used id ents field now ≡ true → fits_field field (type_of (frame_of_field field now)) ≡ true
  field_case true is fit used =
      let (n, has, good) = fit_named (f (frame_of_field field v)) (fit is) in
      let low = small (frame_of_field field v) n has in
      let size = field_small field n (let less : n < 2 ^ 40 = omega (arith, low) in less) in
      let value : now ≡ field_of_frame field n =
      ap (λ b. cond b (field_named field v (f (frame_of_field field v))) v % 2 ^ 64) is ∙ ap (λ o. field_named field v o % 2 ^ 64) has ∙ (let e : field_of_frame field n % 2 ^ 64 ≡ field_of_frame field n = omega (arith, size) in e) in
      ap (λ w. fits_field field (type_of (frame_of_field field w))) value ∙ ap (λ w. fits_field field (type_of w)) (frame_there field n) ∙ good
  field_case false is fit used =
      let same : now ≡ v % 2 ^ 64 = ap (λ b. cond b (field_named field v (f (frame_of_field field v))) v % 2 ^ 64) is in
      let no : false ≡ true = sym is ∙ used_there id ents field v (sym (ap (is_used id ents field) same) ∙ used) in cc

-- ---- a context

module _ (f : ℕ → Option ℕ) (id : ℕ) (context : List ℕ) (few : gdt_ents context ≤ most_gdt_entries) where
  abbrev there : List ℕ
  there = renamed_context is_used_somewhere f id context

  no_field : (v : ℕ) → renamed_value is_used_somewhere f id (gdt_ents context) 620 v ≡ v
  unfolding renamed_value
  no_field v = refl

  pub ents_there : gdt_ents there ≡ gdt_ents context
  ents_there =
      long_of_each 646 (renamed_value is_used_somewhere f id (gdt_ents context)) context 620 (omega arith) ∙ ap (λ v. v % 2 ^ 64) (no_field (gdt_ents context))
      ∙ (let e : gdt_ents context % 2 ^ 64 ≡ gdt_ents context = omega (arith, few) in e)

  at_place : (i v field : ℕ) → field_at i ≡ Some field → renamed_value is_used_somewhere f id (gdt_ents context) i v ≡ value_renamed is_used_somewhere f id (gdt_ents context) (Some field) v
  unfolding renamed_value
  at_place i v field at = ap (λ o. value_renamed is_used_somewhere f id (gdt_ents context) o v) at

  value_there : (field : ℕ) → field ≤ 18 → field_value there field ≡ value_renamed is_used_somewhere f id (gdt_ents context) (Some field) (field_value context field) % 2 ^ 64
  value_there field most =
      let (at, lt) = field_there field most in
      long_of_each 646 (renamed_value is_used_somewhere f id (gdt_ents context)) context (field_place field) lt ∙ ap (λ v. v % 2 ^ 64) (at_place (field_place field) (field_value context field) field at)

  pub context_fits : (type_of : ℕ → Option PageType) → ((mfn pfn : ℕ) → f mfn ≡ Some pfn → pfn < top_limit) → (field : ℕ) → field ≤ 18
      → (is_used_somewhere id (gdt_ents context) field (field_value context field) ≡ true → fits_field field (option_and_then type_of (f (frame_of_field field (field_value context field)))) ≡ true)
      → is_used id (gdt_ents there) field (field_value there field) ≡ true → fits_field field (type_of (frame_of_field field (field_value there field))) ≡ true
  context_fits type_of small field most fit used =
      let value = value_there field most in
      ap (λ w. fits_field field (type_of (frame_of_field field w))) value
      ∙ field_case f type_of small id (gdt_ents context) field (field_value context field) (is_used_somewhere id (gdt_ents context) field (field_value context field)) refl fit
      (sym (λ i. is_used id (ents_there i) field (value i)) ∙ used)
