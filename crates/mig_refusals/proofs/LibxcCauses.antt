-- The causes that stand in each part of an image.
use Rattle.mig_refusals.proofs.Common.{VcpuHas, numbers_are_inverse, ◌≡◌, ◌⊎◌, inl, inr, ℕ, zero, suc, drop, ltb-false, ◌+◌, ◌*◌, ◌<◌, ◌≤◌, List, [], ◌∷◌, length, Bool, true, false, nat_lt, nat_eq, not, is_none, Option, Some, None, Result, Ok, Err, slice_index, refl, sym, ap, subst, ◌∙◌, arith, leb-true, ltb-true, eqb-true, eq-eqb, le-leb, lt-ltb, le-ltb, cases_order, both_ways, not-true, and_parts, and_from, common_steps, option_or, le32, here, first_fault, Cause, BadLength, PfnOutside, ParamIndex, Missing, Kind, Pv, Hvm, count_rows, fault_of_count, fault_of_words, fault_of_data, EntriesTo, EntryHas, MarkerHas, HeaderHas, DomainHas, GuestHas, FrontHas, WordsHas, LengthHas, PageHas, ContextHas, ParamsHas, IsTriedBefore, fault_of_page, list_any, drop-drop, none-some, same_Some, little_number, le64, walk_end, walk_end_reached, Scanned, scan, scan_at, fault_at, after_entry, scan_is, marker_rows, image_rows, domain_rows, fault_of_marker, fault_of_image, fault_of_domain, number_of_cause, ContextFault, word_type, word_pfn, most_frames, level_of, GuestOf, context_key, data_len_of, has_reserved_type, names_outside, is_outside, first_place, first_word, place_is_first, none_pass, HvmContext, HvmParam, Layout, layout, fault_of_entries, fault_of_body, fault_of_scan, fault_of_guest, fault_of_page_table, hvm_fault, type_in_word, fault_of_level, type_in_guest, TableHas, PvGuestHas, join, BadPageType, BadContext, TooManyFrames, ◌/◌, false≢true, type_allows, type_number, type_of_number, PartCode, VcpuBasic, VcpuExtended, VcpuXsave, VcpuMsrs, code_number, is_vcpu, vcpu_rows, Shape, Table, Single, Other, entry_width, front_width, fault_of_key, entry_count, shape_of, has_shape, fault_by_shape, length_passes, neither_some, shaped_code, BodyHas, LibxcCausesStand, number_found, is_missing}
use Rattle.std.specs.FinMap as maps
use Rattle.mig_refusals.specs.Libxc.PageHas.{in_table}
use Rattle.mig_refusals.specs.Libxc.{FrontHas as fronts, LengthHas as lengths, ParamsHas as of_params}
use Rattle.mig_refusals.specs.Libxc.MarkerHas.{not_stream}
use Rattle.mig_refusals.specs.Libxc.HeaderHas.{big_endian, bad_version, bad_id}
use Rattle.mig_refusals.specs.Libxc.DomainHas.{bad_page_shift, bad_kind}
use Rattle.mig_refusals.specs.Libxc.GuestHas.{too_many_frames, missing, of_pv}
use Rattle.mig_refusals.specs.Libxc.WordsHas.{outside, reserved}
use Rattle.mig_refusals.specs.Libxc.ContextHas.{bad_context}
use Rattle.mig_refusals.proofs.Least.{Least, answers_first, RowHas, Alone, alone_least, turned, both_least, named}
use Rattle.mig_refusals.proofs.ContextEntries.{chain_reached, reached_chain, found_has, has_found}
use Rattle.mig_refusals.proofs.LibxcHeads.{head_least}
use Rattle.mig_refusals.proofs.PvTables.{table_least, info_least, p2m_least, vcpu_least}
use Rattle.mig_refusals.proofs.Tests.{differs, test_differs}
use Rattle.mig_refusals.proofs.PvWhole.{pv_guest_least}

-- ---- headers

pub marker_least : (bytes : List ℕ) → Least (MarkerHas bytes) (fault_of_marker bytes)
marker_least bytes = named (MarkerHas bytes) (marker_rows bytes) refl ((λ h. not_stream (differs _ _ h)), tt) from
  where
    from : (k : ℕ) (c : Cause) → MarkerHas bytes k c → RowHas (marker_rows bytes) k c
    from _ _ (not_stream h) = (refl, inl (test_differs _ _ h, refl))

pub header_least : (bytes : List ℕ) → Least (HeaderHas bytes) (fault_of_image bytes)
header_least bytes = named (HeaderHas bytes) (image_rows bytes) refl ((λ h. bad_id (differs _ _ h)), ((λ h. let b = and_parts _ _ h in bad_version (differs _ _ b.0) (differs _ _ b.1)), ((λ h. big_endian (eqb-true _ _ h)), tt))) from
  where
    from : (k : ℕ) (c : Cause) → HeaderHas bytes k c → RowHas (image_rows bytes) k c
    from _ _ (big_endian h) = (refl, inr (inr (inl (eq-eqb _ _ h, refl))))
    from _ _ (bad_version h e) = (refl, inr (inl (and_from _ _ (test_differs _ _ h) (test_differs _ _ e), refl)))
    from _ _ (bad_id h) = (refl, inl (test_differs _ _ h, refl))

pub domain_least : (bytes : List ℕ) → Least (DomainHas bytes) (fault_of_domain bytes)
domain_least bytes = named (DomainHas bytes) (domain_rows bytes) refl ((λ h. let b = and_parts _ _ h in bad_kind (differs _ _ b.0) (differs _ _ b.1)), ((λ h. bad_page_shift (differs _ _ h)), tt)) from
  where
    from : (k : ℕ) (c : Cause) → DomainHas bytes k c → RowHas (domain_rows bytes) k c
    from _ _ (bad_page_shift h) = (refl, inr (inl (test_differs _ _ h, refl)))
    from _ _ (bad_kind h e) = (refl, inl (and_from _ _ (test_differs _ _ h) (test_differs _ _ e), refl))

-- ---- the whole guest

-- what is tried in the whole guest, where it is an HVM guest
abbrev guest_rows : GuestOf → List (Bool × Cause)
guest_rows g = (is_none (maps.get g.parts context_key), Missing 9) ∷ (nat_lt most_frames (length (maps.entries g.frames)), TooManyFrames) ∷ []

pub guest_least : (g : GuestOf) → Least (GuestHas g) (fault_of_guest g)
guest_least g = by g.kind refl
  where
    from_hvm : g.kind ≡ Hvm → (k : ℕ) (c : Cause) → GuestHas g k c → RowHas (guest_rows g) k c
    from_hvm hvm _ _ (too_many_frames is h) = (refl, inr (inl (lt-ltb _ _ h, refl)))
    from_hvm hvm _ _ (missing is h) = (refl, inl (ap is_none h, refl))
    from_hvm hvm k c (of_pv _ _ is h) = let no : Hvm ≡ Pv = sym hvm ∙ is in cc

    from_pv : g.kind ≡ Pv → (k : ℕ) (c : Cause) → GuestHas g k c → PvGuestHas g k c
    from_pv pv _ _ (too_many_frames is h) = let no : Hvm ≡ Pv = sym is ∙ pv in cc
    from_pv pv _ _ (missing is h) = let no : Hvm ≡ Pv = sym is ∙ pv in cc
    from_pv pv k c (of_pv _ _ is h) = h

    by : (kind : Kind) → g.kind ≡ kind → Least (GuestHas g) (fault_of_guest g)
    by Hvm is = subst (Least (GuestHas g)) (sym (hvm_fault g is)) (named (GuestHas g) (guest_rows g) refl ((λ h. missing is (is_missing _ h)), ((λ h. too_many_frames is (ltb-true _ _ h)), tt)) (from_hvm is))
    by Pv is = turned (PvGuestHas g) (GuestHas g) (fault_of_guest g) (pv_guest_least g is) (λ k c h. of_pv k c is h) (from_pv is)

-- ---- PAGE_DATA

pub front_least : (len count : ℕ) → Least (FrontHas len count) (fault_of_count len count)
front_least len count = named (FrontHas len count) (count_rows len count) refl ((λ h. fronts.bad_length (ltb-true _ _ h)), ((λ h. fronts.no_pages (eqb-true _ _ h)), tt)) from
  where
    from : (k : ℕ) (c : Cause) → FrontHas len count k c → RowHas (count_rows len count) k c
    from _ _ (fronts.no_pages h) = (refl, inr (inl (eq-eqb _ _ h, refl)))
    from _ _ (fronts.bad_length h) = (refl, inl (lt-ltb _ _ h, refl))

pub length_least : (len : ℕ) (ws : List ℕ) → Least (LengthHas len ws) (fault_of_data len ws)
length_least len ws = named (LengthHas len ws) ((not (nat_eq len (data_len_of ws)), BadLength len) ∷ []) refl ((λ h. lengths.bad_length (differs _ _ h)), tt) from
  where
    from : (k : ℕ) (c : Cause) → LengthHas len ws k c → RowHas ((not (nat_eq len (data_len_of ws)), BadLength len) ∷ []) k c
    from _ _ (lengths.bad_length h) = (refl, inl (test_differs _ _ h, refl))

-- ---- the elements of a list that pass a test

module _ (test : ℕ → Bool) (ws : List ℕ) (cause : ℕ → ℕ → Cause) where
  -- each has its cause, at its place
  abbrev Placed : ℕ → Cause → Type 0
  Placed k c = (k < length ws) × (test (slice_index ws k) ≡ true) × (c ≡ cause k (slice_index ws k))

  abbrev first_of : Option Cause
  first_of = first_fault ((list_any test ws, cause (first_place test ws) (first_word test ws)) ∷ [])

  placed_least : ((j k v w : ℕ) → number_of_cause (cause j v) ≡ number_of_cause (cause k w)) → Least Placed first_of
  placed_least same = by (list_any test ws) refl
    where
      by : (b : Bool) → list_any test ws ≡ b → Least Placed (first_fault ((b, cause (first_place test ws) (first_word test ws)) ∷ []))
      by true some =
          let p = first_place test ws in
          let f = place_is_first test ws some in
          record {
            holds = (
              p,
              (f.within, f.passes, refl),
              λ j d h. elim (cases_order p j) [
                | inl e ↦ inr (h.2 ∙ ap (λ i. cause i (slice_index ws i)) (sym e))
                | inr other ↦ elim other [
                  | inl less ↦ inl (inr (same p j (slice_index ws p) (slice_index ws j) ∙ ap number_of_cause (sym h.2), less))
                  | inr less ↦ absurd (both_ways _ (f.none_before j less) h.1)
                ]
              ],
            );
          }
      by false none = record { holds = λ k c h. both_ways _ (none_pass test ws none k 0 h.0) h.1 }

module _ (kind : Kind) (top : ℕ) (ws : List ℕ) where
  outside_of : (k : Kind) (n : ℕ) → is_outside k top n ≡ true → (k ≡ Pv) × (top < n)
  outside_of Pv n h = (refl, ltb-true _ _ h)
  outside_of Hvm n h = let no : false ≡ true = h in cc

  test_outside : (k : Kind) (n : ℕ) → k ≡ Pv → top < n → is_outside k top n ≡ true
  test_outside k n pv h = ap (λ i. is_outside i top n) pv ∙ lt-ltb _ _ h

  abbrev page_type : ℕ → ℕ → Cause
  page_type k w = BadPageType k (word_type w)

  abbrev frame_outside : ℕ → ℕ → Cause
  frame_outside k w = PfnOutside k (word_pfn w)

  abbrev Reserved : ℕ → Cause → Type 0
  Reserved = Placed has_reserved_type ws page_type

  abbrev Outside : ℕ → Cause → Type 0
  Outside = Placed (names_outside kind top) ws frame_outside

  pub words_least : Least (WordsHas kind top ws) (fault_of_words kind top ws)
  words_least = subst (Least (WordsHas kind top ws)) (join (row_of has_reserved_type page_type ∷ []) (row_of (names_outside kind top) frame_outside ∷ []))
      (both_least Reserved Outside (WordsHas kind top ws) _ _ (λ j k c d h g. inl (omega (arith, ap number_of_cause h.2, ap number_of_cause g.2))) to from
      (placed_least has_reserved_type ws page_type (λ j k v w. refl)) (placed_least (names_outside kind top) ws frame_outside (λ j k v w. refl)))
    where
      row_of : (ℕ → Bool) → (ℕ → ℕ → Cause) → Bool × Cause
      row_of test cause = (list_any test ws, cause (first_place test ws) (first_word test ws))

      to : (k : ℕ) (c : Cause) → Reserved k c ⊎ Outside k c → WordsHas kind top ws k c
      to k c (inl h) = let b = and_parts _ _ h.1 in subst (WordsHas kind top ws k) (sym h.2) (reserved k h.0 (leb-true _ _ b.0) (leb-true _ _ b.1))
      to k c (inr h) = subst (WordsHas kind top ws k) (sym h.2) (let o = outside_of kind _ h.1 in outside k h.0 o.0 o.1)

      from : (k : ℕ) (c : Cause) → WordsHas kind top ws k c → Reserved k c ⊎ Outside k c
      from _ _ (outside k within pv h) = inr (within, test_outside kind _ pv h, refl)
      from _ _ (reserved k within a b) = inl (within, and_from _ _ (le-leb _ _ a) (le-leb _ _ b), refl)

-- ---- pages

pub page_least : (kind : Kind) (top place word : ℕ) (page : List ℕ) → Least (PageHas kind top place word page) (fault_of_page kind top (place, word) page)
page_least kind top place word page = by (level_of (type_in_guest kind (type_in_word word))) refl
  where
    by : (o : Option ℕ) → level_of (type_in_guest kind (type_in_word word)) ≡ o → Least (PageHas kind top place word page) (fault_of_level top place o page)
    by None is = record { holds = never }
      where
        never : (k : ℕ) (c : Cause) → PageHas kind top place word page k c → ⊥
        never _ _ (in_table level slot cause has h) = none-some level (sym is ∙ has)
    by (Some l) is = turned (TableHas top place l page) (PageHas kind top place word page) (fault_of_page_table place top l page) (table_least top place l page) (λ k c h. in_table l k c is h) from
      where
        from : (k : ℕ) (c : Cause) → PageHas kind top place word page k c → TableHas top place l page k c
        from k c (in_table level _ _ has h) = subst (λ n. TableHas top place n page k c) (same_Some level l (sym has ∙ is)) h

-- ---- contexts

module _ (body : List ℕ) where
  -- a fault in words is the one that the scan answers
  pub scan_finds : (o : ℕ) (fault : ContextFault) → EntriesTo body o → EntryHas body o fault → Err fault ≡ scan body
  scan_finds o fault chain h = scan_is body (Err fault) (o, chain_reached body o chain, has_found body o fault h)

  pub scanned : (fault : ContextFault) → scan body ≡ Err fault → Scanned body (Err fault)
  unfolding scan
  scanned fault h =
      let o = walk_end (after_entry body) (length body) 0 in
      (o, walk_end_reached (after_entry body) (length body) 0 0 here, found o (fault_at body o) h)
    where
      found : (o : ℕ) (x : Option ContextFault) → scan_at o x ≡ Err fault → x ≡ Some fault
      found o x h = grind (arith, common_steps, h)

  pub context_by : (r : Result ℕ ContextFault) → scan body ≡ r → Least (ContextHas body) (fault_of_scan r)
  context_by (Ok o) is = record { holds = none }
    where
      none : (k : ℕ) (c : Cause) → ContextHas body k c → ⊥
      none _ _ (bad_context p other chain h) = let no : ◌≡◌ {A = Result ℕ ContextFault} (Err other) (Ok o) = scan_finds p other chain h ∙ is in cc
  context_by (Err fault) is = let s = scanned fault is in record { holds = (0, bad_context s.0 fault (reached_chain body s.0 s.1) (found_has body s.0 fault s.2), others) }
    where
      others : (k : ℕ) (c : Cause) → ContextHas body k c → IsTriedBefore 0 (BadContext fault) k c ⊎ (c ≡ BadContext fault)
      others _ _ (bad_context p other chain h) = let same : ◌≡◌ {A = Result ℕ ContextFault} (Err other) (Err fault) = scan_finds p other chain h ∙ is in inr (cc)

-- ---- parameters

abbrev pairs : Layout
pairs = layout true 8 0 8

abbrev index_in : List ℕ → ℕ
index_in bytes = little_number 8 bytes

-- the indices of n pairs
abbrev indices : ℕ → List ℕ → List ℕ
indices zero bytes = []
indices (suc n) bytes = index_in bytes ∷ indices n (drop 16 bytes)

abbrev is_large : ℕ → Bool
is_large index = not (nat_lt index 4096)

abbrev no_parameter : ℕ → ℕ → Cause
no_parameter k index = ParamIndex index

how_many : (n : ℕ) (bytes : List ℕ) → length (indices n bytes) ≡ n
how_many zero bytes = refl
how_many (suc n) bytes = ap suc (how_many n (drop 16 bytes))

index_at : (n : ℕ) (bytes : List ℕ) (k : ℕ) → k < n → index_in (drop (16 * k) bytes) ≡ slice_index (indices n bytes) k
index_at zero bytes k less = absurd (omega (arith, less))
index_at (suc n) bytes zero less = refl
index_at (suc n) bytes (suc k) less =
    let e : 16 * suc k ≡ 16 + 16 * k = omega arith in
    ap (λ m. index_in (drop m bytes)) e ∙ ap index_in (sym (drop-drop (16 * k) 16 bytes)) ∙ index_at n (drop 16 bytes) k (omega (arith, less))

first_index : (n : ℕ) (bytes : List ℕ) → first_of is_large (indices n bytes) no_parameter ≡ fault_of_entries HvmParam pairs n bytes
first_index zero bytes = refl
first_index (suc n) bytes = grind (arith, common_steps, first_index n (drop 16 bytes))

module _ (body : List ℕ) where
  abbrev count : ℕ
  count = le32 body 0

  abbrev Misfits : ℕ → Cause → Type 0
  Misfits = Alone (length body ≡ 8 + 16 * count → ⊥) 0 (BadLength (length body))

  abbrev Large : ℕ → Cause → Type 0
  Large = Placed is_large (indices count (drop 8 body)) no_parameter

  pair_at : (k : ℕ) → k < count → le64 body (8 + 16 * k) ≡ slice_index (indices count (drop 8 body)) k
  unfolding le64
  pair_at k less = ap (little_number 8) (sym (drop-drop (16 * k) 8 body)) ∙ index_at count (drop 8 body) k less

  pub params_least : Least (ParamsHas body) (fault_of_body HvmParam body)
  params_least = subst (λ f. Least (ParamsHas body) (option_or (first_fault ((not (nat_eq (length body) (8 + 16 * count)), BadLength (length body)) ∷ [])) f)) (first_index count (drop 8 body))
      (both_least Misfits Large (ParamsHas body) _ _ (λ j k c d h g. inl (omega (arith, ap number_of_cause h.2, ap number_of_cause g.2))) to from
      (alone_least _ 0 (BadLength (length body)) (not (nat_eq (length body) (8 + 16 * count))) (differs _ _) (test_differs _ _)) (placed_least is_large (indices count (drop 8 body)) no_parameter (λ j k v w. refl)))
    where
      to : (k : ℕ) (c : Cause) → Misfits k c ⊎ Large k c → ParamsHas body k c
      to k c (inl (other, at, is)) = subst (λ i. ParamsHas body i c) (sym at) (subst (ParamsHas body 0) (sym is) (of_params.bad_length other))
      to k c (inr h) =
          let less : k < count = omega (arith, h.0, how_many count (drop 8 body)) in
          let is = pair_at k less in
          subst (ParamsHas body k) (ap ParamIndex is ∙ sym h.2) (of_params.param_index k less (subst (λ n. 4096 ≤ n) (sym is) (ltb-false _ _ (not-true _ h.1))))

      from : (k : ℕ) (c : Cause) → ParamsHas body k c → Misfits k c ⊎ Large k c
      from _ _ (of_params.bad_length h) = inl (h, refl, refl)
      from _ _ (of_params.param_index k less h) = let is = pair_at k less in inr (omega (arith, less, how_many count (drop 8 body)), ap not (le-ltb _ _ (subst (λ n. 4096 ≤ n) is h)), ap ParamIndex is)

-- ---- a body with parts

-- of a shape whose length is fixed, or that of its entries, and that length
abbrev is_plain : Shape → Bool
is_plain (Table l) = not l.counted
is_plain (Single len ignored) = true
is_plain Other = true
is_plain _ = false

abbrev shape_len : Shape → ℕ → ℕ
shape_len (Table l) len = entry_width l * (len / entry_width l)
shape_len (Single len ignored) _ = len + ignored
shape_len _ len = len

-- what leaves no fault to a body of this length: it is as long as its shape says, and no key of it is refused
record Fits (shape : Shape) (code : PartCode) (len : ℕ) : Type 0 where
  plain : is_plain shape ≡ true
  size : len ≡ shape_len shape len
  keys : (key1 key2 : ℕ) → fault_of_key code key1 key2 ≡ None

no_key_fault : (code : PartCode) (l : Layout) → ((key1 key2 : ℕ) → fault_of_key code key1 key2 ≡ None) → (n : ℕ) (bytes : List ℕ) → fault_of_entries code l n bytes ≡ None
no_key_fault code l keys zero bytes = refl
no_key_fault code l keys (suc n) bytes = neither_some _ _ (keys _ _) (no_key_fault code l keys n (drop (entry_width l) bytes))

quiet : (shape : Shape) (code : PartCode) (body : List ℕ) → Fits shape code (length body) → fault_by_shape shape code body ≡ None
quiet (Table l) code body f = neither_some _ _ (length_passes _ _ (rw (not-true _ f.plain) (f.size ∙ omega arith))) (no_key_fault code l f.keys (entry_count l body) (drop (front_width l) body))
quiet (Single len ignored) code body f = length_passes _ _ f.size
quiet Other code body f = refl
quiet _ code body f = absurd (false≢true f.plain)

module _ (body : List ℕ) where
  abbrev Allows : PartCode → Type 0
  Allows code = type_allows (type_of_number (code_number code)) (length body) ≡ true

  vcpu_of : (code : PartCode) → is_vcpu code ≡ true → Allows code → Least (VcpuHas code body) (fault_of_body code body)
  vcpu_of code is allowed = subst (Least (VcpuHas code body)) (sym (vcpu_rows code body is (λ type named. subst (λ o. type_allows o (length body) ≡ true) named allowed))) (vcpu_least code body)

  body_least : (code : PartCode) → has_shape (shape_of code) ≡ true → Allows code → Least (BodyHas code body) (fault_of_body code body)
  body_least HvmContext shaped allowed = context_by body (scan body) refl
  body_least HvmParam shaped allowed = params_least body
  body_least VcpuBasic shaped allowed = vcpu_of VcpuBasic refl allowed
  body_least VcpuExtended shaped allowed = vcpu_of VcpuExtended refl allowed
  body_least VcpuXsave shaped allowed = vcpu_of VcpuXsave refl allowed
  body_least VcpuMsrs shaped allowed = vcpu_of VcpuMsrs refl allowed
  body_least code shaped allowed = subst (Least (BodyHas code body)) (sym (quiet (shape_of code) code body (record { plain = cc; size = grind (arith, common_steps, allowed); keys = λ key1 key2. cc }))) (record { holds = λ k c h. h })

-- ---- all parts

pub causes_stand : LibxcCausesStand
causes_stand = record {
  marker = λ bytes. answers_first _ _ (marker_least bytes);
  header = λ bytes. answers_first _ _ (header_least bytes);
  domain = λ bytes. answers_first _ _ (domain_least bytes);
  head = λ b head. answers_first _ _ (head_least b (le32 head 4) (le32 head 0));
  front = λ len count. answers_first _ _ (front_least len count);
  page_words = λ kind top ws. answers_first _ _ (words_least kind top ws);
  data_length = λ len ws. answers_first _ _ (length_least len ws);
  info = λ body. answers_first _ _ (info_least body);
  p2m = λ body. answers_first _ _ (p2m_least body);
  body = λ this code body is other allowed. answers_first _ _ (body_least body code (shaped_code this code is other) (subst (λ n. type_allows (type_of_number n) (length body) ≡ true) (number_found (type_number this) code is) (subst (λ o. type_allows o (length body) ≡ true) (sym (numbers_are_inverse.type_of this)) allowed)));
}
