-- The canonical bodies of a well formed guest's parts of a code say these parts, in a length that their record's type has: a
-- lemma for each shape.
use Rattle.mig_records.proofs.Common.{◌≡◌, ℕ, ◌+◌, ◌*◌, ◌-◌, ◌%◌, ◌<◌, ◌≤◌, ◌^◌, Bool, true, false, not, List, [], ◌∷◌, ◌++◌, length, map, replicate, nat_le, nat_lt, None, refl, sym, ap, subst, ◌∙◌, arith, rules, length-append, append_assoc, append-nil, ◌==◌, ◌&&◌, ⊤, All, and_parts, and_from, and_right, or_right, le-ltb, eqb-true, eq-eqb, le-leb, leb-true, ltb-true, length-replicate, little_number, little_bytes, little_number-reads_back, length-bytes_low_first, first_fault, Cause, no_fault, PartCode, P2mFrames, VcpuBasic, VcpuMsrs, PartKey, GuestOf, row_of, code_number, small_number, IsFormed, IsContent, IsCut, gdt_ents, is_policy, width_of, Part, Layout, Shape, Table, Single, Named, Chain, Other, fault_of_key, spelled_key, entry_width, front_width, AreTableEntries, IsTableFront, IsTable, entries_text, front_text, table_text, shape_of, IsShaped, IsRow, fault_of_content, sole_key, named_parts, IsSingle, IsNamed, IsChain, IsRecordBody, SayAll, part_body, bodies_by_shape, contents_by_shape, parts_at, CanonicalBodiesSay, most_gdt_entries, most_policy_entries, vcpu_limit, most_body, All-head, All-tail, IsOf, sole}
use Rattle.mig_bytes.specs.Fields.{le32}
use Rattle.mig_guest.proofs.CodeParts.{parts_are, few_small}
use Rattle.mig_records.proofs.Spelled.{scanned_chain}
use Rattle.mig_records.proofs.TableSpelled.{table_len}
use Rattle.mig_records.proofs.Rows.{all_rows, record_allows, has_allowed}

reads_back : (n x : ℕ) → x < 256 ^ n → little_number n (little_bytes n x) ≡ x
reads_back n x small = ap (little_number n) (sym (append-nil (little_bytes n x))) ∙ little_number-reads_back n x [] small

counted_is : (n : ℕ) → n < 2 ^ 32 → le32 (little_bytes 4 n ++ replicate 4 0) 0 ≡ n
unfolding le32
counted_is n small = little_number-reads_back 4 n (replicate 4 0) small

-- ---- what is to be shown of each row

-- the numbers of a key that the row of the code has: they have so many bytes, and nothing is refused of them
abbrev KeysFit : PartCode → ℕ → ℕ → Type 0
KeysFit code first second = (key1 key2 : ℕ) → (row_of code).keys key1 key2 ≡ true → key1 < 2 ^ 32 → key2 < 2 ^ 32 → (key1 < 256 ^ first) × (key2 < 256 ^ second) × (fault_of_key code key1 key2 ≡ None)

abbrev HasNoKeys : PartCode → Type 0
HasNoKeys code = (key1 key2 : ℕ) → (row_of code).keys key1 key2 ≡ true → ((key1 == 0) && (key2 == 0)) ≡ true

abbrev HasSize : PartCode → ℕ → Type 0
HasSize code size = (width n : ℕ) → (row_of code).allows width n ≡ true → n ≡ size

-- a record of the code's type may have so many bytes
abbrev HasRoom : PartCode → ℕ → Type 0
HasRoom code len = (record_allows code len ≡ true) × (len ≤ most_body)

-- a guest has no more parts of the code than its record can have
record HasFew (code : PartCode) : Type 0 where
  few : (g : GuestOf) → IsFormed g → length (parts_at code g) ≤ most_policy_entries

abbrev HasFineContent : PartCode → Type 0
HasFineContent code = (bytes : List ℕ) → IsContent code bytes → fault_of_content code bytes ≡ None

abbrev IsCanonical : PartCode → Shape → Type 0
IsCanonical code (Table l) = KeysFit code l.key1_width l.key2_width × HasSize code l.value_width × HasFew code × ((n : ℕ) → n ≤ most_policy_entries → HasRoom code (front_width l + entry_width l * n))
IsCanonical code (Single size ignored) = HasNoKeys code × HasSize code size × HasRoom code (size + ignored)
IsCanonical code (Named second ignored skips) =
    KeysFit code 4 second × HasFineContent code × ((width n : ℕ) → (row_of code).allows width n ≡ true → (skips ≡ true → 1 ≤ n) × HasRoom code (4 + second + ignored + n))
IsCanonical code Chain = HasNoKeys code × ((bytes : List ℕ) → IsContent code bytes → IsCut bytes) × ((width n : ℕ) → (row_of code).allows width n ≡ true → HasRoom code n)
IsCanonical code Other = ⊤

-- a vCPU's id, or a parameter's index
small_fits : (key1 key2 n : ℕ) → small_number key1 key2 ≡ true → vcpu_limit ≤ n → key1 < n
small_fits key1 key2 n h wide = let low = ltb-true key1 vcpu_limit (and_parts (nat_lt key1 vcpu_limit) (key2 == 0) h).0 in omega (arith, low, wide)

second_fits : (key1 key2 : ℕ) → small_number key1 key2 ≡ true → key2 < 1
second_fits key1 key2 h = let none = eqb-true key2 0 (and_parts (nat_lt key1 vcpu_limit) (key2 == 0) h).1 in omega (arith, none)

not_refused : (key1 key2 : ℕ) (c : Cause) → small_number key1 key2 ≡ true → first_fault ((not (small_number key1 key2), c) ∷ []) ≡ None
not_refused key1 key2 c h = no_fault ((not (small_number key1 key2), c) ∷ []) (ap not h, tt)

none_fits : (key2 : ℕ) → (key2 == 0) ≡ true → key2 < 1
none_fits key2 h = let none = eqb-true key2 0 h in omega (arith, none)

few_of_policy : (code : PartCode) → is_policy (code_number code) ≡ true → HasFew code
few_of_policy code policy = record { few = λ g formed. formed.policies (code_number code) policy }

few_of_small : (code : PartCode) → ((key1 key2 : ℕ) → (row_of code).keys key1 key2 ≡ small_number key1 key2) → HasFew code
few_of_small code small = record { few = λ g formed. omega (arith, few_small g code small formed) }

basic_fine : HasFineContent VcpuBasic
basic_fine bytes few = no_fault (((length bytes == 5168) && nat_lt most_gdt_entries (gdt_ents bytes), _) ∷ []) (and_right (length bytes == 5168) _ (le-ltb most_gdt_entries (gdt_ents bytes) few), tt)

basic_room : (n : ℕ) → (n == 5168) ≡ true → (true ≡ true → 1 ≤ n) × HasRoom VcpuBasic (8 + n)
basic_room n h = let size = eqb-true n 5168 h in (λ _. omega (arith, size), (or_right (8 + n == 8) _ (eq-eqb (8 + n) (8 + 5168) (omega (arith, size))), omega (arith, size)))

-- 1 byte or more, in all no more than a body has
some_room : (n : ℕ) → (nat_le 1 n && nat_le n (most_body - 8)) ≡ true → (true ≡ true → 1 ≤ n) × (nat_le 8 (8 + n) ≡ true) × (8 + n ≤ most_body)
some_room n h =
    let (some, most) = and_parts (nat_le 1 n) (nat_le n (most_body - 8)) h in let low = leb-true 1 n some in let high = leb-true n (most_body - 8) most in
    (λ _. low, le-leb 8 (8 + n) (omega arith), omega (arith, high))

msrs_room : (width n : ℕ) → (row_of VcpuMsrs).allows width n ≡ true → (true ≡ true → 1 ≤ n) × HasRoom VcpuMsrs (8 + n)
msrs_room width n h =
    let (whole, sizes) = and_parts (n % 16 == 0) (nat_le 16 n && nat_le n (most_body - 16)) h in let rest = eqb-true (n % 16) 0 whole in
    let (some, most) = and_parts (nat_le 16 n) (nat_le n (most_body - 16)) sizes in let least = leb-true 16 n some in let short = leb-true n (most_body - 16) most in
    (λ _. omega (arith, least), (and_from _ _ (le-leb 8 (8 + n) (omega arith)) (eq-eqb ((8 + n - 8) % 16) 0 (omega (arith, rest))), omega (arith, short)))

all_canonical : (code : PartCode) → IsCanonical code (shape_of code)
all_canonical P2mFrames = tt
all_canonical _ = search (rules, arith, and_from, eqb-true, eq-eqb, le-leb, leb-true, small_fits, second_fits, not_refused, none_fits, few_of_policy, few_of_small, basic_fine, basic_room, some_room, msrs_room)

-- ---- tables

module _ (code : PartCode) (width : ℕ) (l : Layout) (fit : KeysFit code l.key1_width l.key2_width) (size : HasSize code l.value_width) where
  are_entries : (ps : List Part) → All (IsOf code width) ps → AreTableEntries code l (entries_text l ps) ps
  are_entries [] h = refl
  are_entries (p ∷ ps) h =
      let one = All-head (IsOf code width) p ps h in
      let fits = fit p.0.key1 p.0.key2 one.keys one.small1 one.small2 in
      let first = little_bytes l.key1_width p.0.key1 in let second = little_bytes l.key2_width p.0.key2 in
      let key1 = reads_back l.key1_width p.0.key1 fits.0 in let key2 = reads_back l.key2_width p.0.key2 fits.1 in (
        first,
        second,
        entries_text l ps,
        append_assoc first (second ++ p.1) (entries_text l ps) ∙ ap (λ x. first ++ x) (append_assoc second p.1 (entries_text l ps)),
        length-bytes_low_first 0 l.key1_width p.0.key1,
        length-bytes_low_first 0 l.key2_width p.0.key2,
        size width (length p.1) one.len,
        (λ i. record { code = one.number i; key1 = sym key1 i; key2 = sym key2 i }),
        fits.2,
        are_entries ps (All-tail (IsOf code width) p ps h),
      )

  front_is : (b : Bool) (n : ℕ) → n < 2 ^ 32 → IsTableFront b (front_text b n) n
  front_is true n small = (refl, counted_is n small)
  front_is false n small = refl

  is_table : (ps : List Part) → length ps < 2 ^ 32 → All (IsOf code width) ps → IsTable code l (table_text l ps) ps
  is_table ps few all = record {
    front = front_text l.counted (length ps);
    bytes = entries_text l ps;
    whole = refl;
    counted = front_is l.counted (length ps) few;
    each = are_entries ps all;
  }

-- ---- one part

module _ (code : PartCode) (width : ℕ) (p : Part) (one : IsOf code width p) where
  single_is : (size ignored : ℕ) → HasNoKeys code → HasSize code size → IsSingle code size ignored (p.1 ++ replicate ignored 0) (p ∷ [])
  single_is size ignored keys sized = record {
    bytes = p.1;
    behind = replicate ignored 0;
    whole = refl;
    bytes_len = sized width (length p.1) one.len;
    behind_len = length-replicate ignored 0;
    says = ap (λ (k : PartKey). (k, p.1) ∷ []) (sole code width p one (keys p.0.key1 p.0.key2 one.keys));
  }

  -- a part that isn't skipped
  said : (skips : Bool) (k : PartKey) (bytes : List ℕ) → (skips ≡ true → 1 ≤ length bytes) → (k, bytes) ∷ [] ≡ named_parts skips k bytes
  said true k [] some = absurd (omega (arith, some refl))
  said true k (x ∷ xs) some = refl
  said false k bytes some = refl

  named_is : (second ignored : ℕ) (skips : Bool) → KeysFit code 4 second → (skips ≡ true → 1 ≤ length p.1) → fault_of_content code p.1 ≡ None → IsNamed code second ignored skips (part_body (Named second ignored skips) p) (p ∷ [])
  named_is second ignored skips fit some fine =
      let fits = fit p.0.key1 p.0.key2 one.keys one.small1 one.small2 in
      let key1 = reads_back 4 p.0.key1 fits.0 in let key2 = reads_back second p.0.key2 fits.1 in
      record {
        name1 = little_bytes 4 p.0.key1;
        name2 = little_bytes second p.0.key2;
        gap = replicate ignored 0;
        bytes = p.1;
        whole = refl;
        name1_len = refl;
        name2_len = length-bytes_low_first 0 second p.0.key2;
        gap_len = length-replicate ignored 0;
        named = (λ i. fault_of_key code (key1 i) (key2 i)) ∙ fits.2;
        fine = fine;
        says = (λ i. (record { code = one.number i; key1 = sym key1 i; key2 = sym key2 i }, p.1) ∷ []) ∙ said skips (spelled_key code 4 second (little_bytes 4 p.0.key1) (little_bytes second p.0.key2)) p.1 some;
      }

  chain_is : HasNoKeys code → IsCut p.1 → IsChain code p.1 (p ∷ [])
  chain_is keys cut = scanned_chain code p.1 (p ∷ []) cut.0 cut.1
      (ap (λ (k : PartKey). (k, p.1) ∷ []) (sole code width p one (keys p.0.key1 p.0.key2 one.keys)) ∙ ap (λ (v : List ℕ). (sole_key code, v) ∷ []) (sym cut.2))

-- ---- bodies, by the shape of their code

module _ (code : PartCode) (shape : Shape) (is : shape_of code ≡ shape) where
  record_body : (body : List ℕ) (ps : List Part) (len : ℕ) → IsShaped shape code body ps → length body ≡ len → HasRoom code len → IsRecordBody code body ps
  record_body body ps len says size room = record {
    says = subst (λ s. IsShaped s code body ps) (sym is) says;
    has = has_allowed code (length body) (subst (λ n. record_allows code n ≡ true) (sym size) room.0);
    short = omega (arith, size, room.1);
  }

  -- a body for each part, which says it
  each_part : (g : GuestOf) → IsFormed g → (len : Part → ℕ) → ((p : Part) → IsOf code (width_of g) p → IsShaped shape code (part_body shape p) (p ∷ []) × (length (part_body shape p) ≡ len p) × HasRoom code (len p))
      → SayAll code (map (part_body shape) (parts_at code g)) (map (λ p. p ∷ []) (parts_at code g))
  each_part g formed len one = go (parts_at code g) (parts_are g code formed)
    where
      go : (ps : List Part) → All (IsOf code (width_of g)) ps → SayAll code (map (part_body shape) ps) (map (λ p. p ∷ []) ps)
      go [] h = tt
      go (p ∷ ps) h =
          let (says, size, room) = one p (All-head (IsOf code (width_of g)) p ps h) in
          (record_body (part_body shape p) (p ∷ []) (len p) says size room, go ps (All-tail (IsOf code (width_of g)) p ps h))

-- one table of all parts, where there are some
one_table : (code : PartCode) (l : Layout) (ps : List Part) → IsRecordBody code (table_text l ps) ps → SayAll code (bodies_by_shape (Table l) ps) (contents_by_shape (Table l) ps)
one_table code l [] h = tt
one_table code l (p ∷ ps) h = (h, tt)

by_shape : (code : PartCode) (g : GuestOf) → IsFormed g → (shape : Shape) → shape_of code ≡ shape → IsRow code shape → IsCanonical code shape
    → SayAll code (bodies_by_shape shape (parts_at code g)) (contents_by_shape shape (parts_at code g))
by_shape code g formed (Table l) is row (fit, size, few, room) =
    let ps = parts_at code g in let most = few.few g formed in
    let says = is_table code (width_of g) l fit size ps (omega (arith, most)) (parts_are g code formed) in
    one_table code l ps (record_body code (Table l) is (table_text l ps) ps _ says (table_len code l row.widths (table_text l ps) ps says) (room (length ps) most))
by_shape code g formed (Single size ignored) is row (keys, sized, room) = each_part code (Single size ignored) is g formed (λ _. size + ignored) (λ p one.
    let len = sized (width_of g) (length p.1) one.len in
    (single_is code (width_of g) p one size ignored keys sized, length-append p.1 (replicate ignored 0) ∙ omega (arith, len, length-replicate {A = ℕ} ignored 0), room))
by_shape code g formed (Named second ignored skips) is row (fit, fine, room) = each_part code (Named second ignored skips) is g formed (λ p. 4 + second + ignored + length p.1) (λ p one.
    let (some, fits) = room (width_of g) (length p.1) one.len in
    let says = named_is code (width_of g) p one second ignored skips fit some (fine p.1 one.content) in
    let text = length-append (little_bytes second p.0.key2) (replicate ignored 0 ++ p.1) in
    (says, omega (arith, text, length-append (replicate ignored 0) p.1, length-bytes_low_first 0 second p.0.key2, length-replicate {A = ℕ} ignored 0), fits))
by_shape code g formed Chain is row (keys, cut, room) = each_part code Chain is g formed (λ p. length p.1) (λ p one.
    (chain_is code (width_of g) p one keys (cut p.1 one.content), refl, room (width_of g) (length p.1) one.len))
by_shape code g formed Other is row shown = tt

pub canonical_bodies_say : CanonicalBodiesSay
canonical_bodies_say code g formed = by_shape code g formed (shape_of code) refl (all_rows code) (all_canonical code)
