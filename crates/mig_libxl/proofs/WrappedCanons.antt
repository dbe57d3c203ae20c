-- The canonical stream of a guest that has emulators: its records, each in its place.
use Rattle.mig_libxl.proofs.Common.{◌≡◌, ℕ, ◌+◌, ◌<◌, ◌≤◌, ◌-◌, Bool, true, false, List, [], ◌∷◌, ◌++◌, length, map, nat_eq, Some, None, refl, sym, ap, subst, ◌∙◌, inl, inr, arith, append_assoc, append-nil, length-append, unwrap_or, if◌then◌else◌, All, find, eqb-true, or_cases, All-head, All-tail, eq_by_cmp, all_of, part_total, IsFormed, is_emulator_code, GuestOf, part_cmp, Part, PartKey, put_pairs, text_of_map, ImageOf, text_of_emulators, LibxlRecord, is_libxl_ended, image_among, Pairs, Context, EmulatorsOf, add_pairs, put_libxl_content, store_at, one_more, FollowsLibxl, insert_leaves, pairs_in, texts_are_canonical, emulator_record, emulators_of, emulators_more, among_more, ended_more, most_pairs, most_records, Pair, EmulatorsFit, ◌⊎◌}
use Rattle.mig_bytes.specs.Sequences.{Spells}
use Rattle.mig_libxl.proofs.EmulatorParts.{IsEmulatorPart, KeysDiffer}
use Rattle.mig_libxl.proofs.EmulatorRecords.{content_of, record_of_part, some_pairs, emulator_is_spelled}
use Rattle.mig_libxl.proofs.EmulatorMaps.{apart}
use Rattle.std.specs.FinMap as maps

-- ---- what one record more says

-- a store that isn't there is still not there where pairs are added to another
added_elsewhere : (e : EmulatorsOf) (key q : PartKey) (ps : List Pair) → eq_by_cmp part_cmp q key ≡ false → maps.get e.stores q ≡ None → maps.get (add_pairs e key ps).stores q ≡ None
added_elsewhere e key q [] other none = none
added_elsewhere e key q (p ∷ ps) other none = insert_leaves part_total e.stores key (put_pairs (store_at e.stores key) (p ∷ ps)) q other ∙ none

content_elsewhere : (e : EmulatorsOf) (p : Part) (q : PartKey) → eq_by_cmp part_cmp q p.0 ≡ false → maps.get e.stores q ≡ None → maps.get (put_libxl_content e (content_of p)).stores q ≡ None
content_elsewhere e p q other none = by (nat_eq p.0.code 258) refl
  where
    by : (b : Bool) → nat_eq p.0.code 258 ≡ b → maps.get (put_libxl_content e (if b then Pairs p.0 (pairs_in p.1) else Context p.0 p.1)).stores q ≡ None
    by true is = added_elsewhere e p.0 q (pairs_in p.1) other none
    by false is = none

still_absent : (e : EmulatorsOf) (p : Part) (qs : List Part) → find part_cmp p.0 qs ≡ None → All (λ (x : Part). maps.get e.stores x.0 ≡ None) qs → All (λ (x : Part). maps.get (put_libxl_content e (content_of p)).stores x.0 ≡ None) qs
still_absent e p qs fresh absent =
    all_of (λ (x : Part). maps.get e.stores x.0 ≡ None) (λ (x : Part). eq_by_cmp part_cmp x.0 p.0 ≡ false) (λ (x : Part). maps.get (put_libxl_content e (content_of p)).stores x.0 ≡ None)
    (λ x none other. content_elsewhere e p x.0 other none) qs absent (apart p.0 qs fresh)

-- ---- records of emulators behind an image

module _ (g : GuestOf) (formed : IsFormed g) (im : ImageOf) where
  -- these records stand, and those of these parts may follow
  pub record Here (rs : List LibxlRecord) (bytes : List ℕ) (ps : List Part) : Type 0 where
    pub spelled : Spells FollowsLibxl bytes rs
    pub going : is_libxl_ended rs ≡ false
    pub image : image_among rs ≡ Some im
    pub absent : All (λ p. maps.get (emulators_of rs).stores p.0 ≡ None) ps
    pub few : length rs + length ps < most_records

  fits_at : (rs : List LibxlRecord) (p : Part) → IsEmulatorPart g.parts p → maps.get (emulators_of rs).stores p.0 ≡ None → EmulatorsFit rs (content_of p)
  fits_at rs p is none = by (nat_eq p.0.code 258) refl
    where
      by : (b : Bool) → nat_eq p.0.code 258 ≡ b → EmulatorsFit rs (if b then Pairs p.0 (pairs_in p.1) else Context p.0 p.1)
      by false other = tt
      by true pairs =
          let some = some_pairs g formed p.0 p.1 (eqb-true p.0.code 258 pairs) is.there in
          let empty : store_at (emulators_of rs).stores p.0 ≡ maps.empty = ap (λ o. unwrap_or o maps.empty) none in
          let text : text_of_map (put_pairs (store_at (emulators_of rs).stores p.0) (pairs_in p.1)) ≡ p.1 = ap (λ m. text_of_map (put_pairs m (pairs_in p.1))) empty ∙ texts_are_canonical.again p.1 some.canonical in
          subst (λ l. length l ≤ most_pairs) (sym text) some.few

  type_is : (p : Part) → is_emulator_code p.0.code ≡ true → (p.0.code - 256 ≡ 2) ⊎ (p.0.code - 256 ≡ 3)
  type_is p code = elim (or_cases (nat_eq p.0.code 258) (nat_eq p.0.code 259) code) [
    | inl a ↦ inl (ap (λ n. n - 256) (eqb-true p.0.code 258 a))
    | inr b ↦ inr (ap (λ n. n - 256) (eqb-true p.0.code 259 b))
  ]

  not_low : (p : Part) → IsEmulatorPart g.parts p → (n : ℕ) → n < 2 → p.0.code - 256 ≡ n → ⊥
  not_low p is n low type = elim (type_is p is.code) [ inl a ↦ omega (arith, a, low, type) | inr b ↦ omega (arith, b, low, type) ]

  follows : (rs : List LibxlRecord) (bytes : List ℕ) (p : Part) (ps : List Part) → Here rs bytes (p ∷ ps) → IsEmulatorPart g.parts p → FollowsLibxl rs (record_of_part p) (emulator_record p)
  follows rs bytes p ps h is = record {
    is = emulator_is_spelled g formed p is;
    fits = fits_at rs p is (All-head (λ (x : Part). maps.get (emulators_of rs).stores x.0 ≡ None) p ps h.absent);
    few = let few = h.few in omega (arith, few);
    not_ended = h.going;
    one_image = λ one. absurd (not_low p is 1 (omega arith) one);
    complete = λ zero. absurd (not_low p is 0 (omega arith) zero);
  }

  others_absent : (rs : List LibxlRecord) (p : Part) (ps : List Part) → find part_cmp p.0 ps ≡ None → All (λ (x : Part). maps.get (emulators_of rs).stores x.0 ≡ None) ps → All (λ (x : Part). maps.get (emulators_of (rs ++ record_of_part p ∷ [])).stores x.0 ≡ None) ps
  others_absent rs p ps fresh absent =
      subst (λ (e : EmulatorsOf). All (λ (x : Part). maps.get e.stores x.0 ≡ None) ps) (sym (emulators_more rs (record_of_part p))) (still_absent (emulators_of rs) p ps fresh absent)

  here_more : (rs : List LibxlRecord) (bytes : List ℕ) (p : Part) (ps : List Part) → Here rs bytes (p ∷ ps) → IsEmulatorPart g.parts p → find part_cmp p.0 ps ≡ None → Here (rs ++ record_of_part p ∷ []) (bytes ++ emulator_record p) ps
  here_more rs bytes p ps h is fresh = record {
    spelled = one_more bytes rs (record_of_part p) (emulator_record p) h.spelled (follows rs bytes p ps h is);
    going = ended_more rs (record_of_part p) h.going ∙ elim (type_is p is.code) [ inl a ↦ ap (λ n. nat_eq n 0) a | inr b ↦ ap (λ n. nat_eq n 0) b ];
    image = among_more rs (record_of_part p ∷ []) im h.image;
    absent = others_absent rs p ps fresh (All-tail (λ (x : Part). maps.get (emulators_of rs).stores x.0 ≡ None) p ps h.absent);
    few = let few = h.few in omega (arith, few, length-append rs (record_of_part p ∷ []));
  }

  -- the records of all these parts
  pub here_all : (rs : List LibxlRecord) (bytes : List ℕ) (ps : List Part) → Here rs bytes ps → All (IsEmulatorPart g.parts) ps → KeysDiffer ps → Here (rs ++ map record_of_part ps) (bytes ++ text_of_emulators ps) []
  here_all rs bytes [] h all differ = subst (λ l. Here l (bytes ++ []) []) (sym (append-nil rs)) (subst (λ l. Here rs l []) (sym (append-nil bytes)) h)
  here_all rs bytes (p ∷ ps) h all differ =
      let is = All-head (IsEmulatorPart g.parts) p ps all in
      let more = here_all (rs ++ record_of_part p ∷ []) (bytes ++ emulator_record p) ps (here_more rs bytes p ps h is differ.0) (All-tail (IsEmulatorPart g.parts) p ps all) differ.1 in
      subst (λ l. Here l (bytes ++ text_of_emulators (p ∷ ps)) []) (append_assoc rs (record_of_part p ∷ []) (map record_of_part ps))
      (subst (λ l. Here ((rs ++ record_of_part p ∷ []) ++ map record_of_part ps) l []) (append_assoc bytes (emulator_record p) (text_of_emulators ps)) more)
