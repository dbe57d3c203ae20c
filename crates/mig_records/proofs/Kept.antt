-- What a body says are parts that a guest of its kind may have, a lemma for each shape; and so reading it keeps a guest well
-- formed.
use Rattle.mig_records.proofs.Common.{◌≡◌, ℕ, ◌+◌, ◌*◌, ◌-◌, ◌%◌, ◌≤◌, Bool, true, false, List, [], ◌∷◌, ◌++◌, length, take, replicate, nat_le, nat_lt, None, Ok, refl, sym, ap, subst, ◌∙◌, inl, inr, arith, rules, length-append, length-take-le, ◌==◌, ◌&&◌, ⊤, AllByRecursion, and_parts, and_from, or_cases, eqb-true, eq-eqb, leb-true, le-leb, ltb-false, take_at, little_number, rows_fine, PartCode, P2mFrames, VcpuBasic, VcpuMsrs, PartKey, row_of, code_number, Part, PartMap, IsPart, IsFormed, IsContent, IsCut, AreParts, gdt_ents, width_of, is_policy, is_emulator_code, HasNoEmulators, Shape, Table, Single, Named, Chain, Other, front_width, entry_width, fault_of_key, spelled_key, IsSmallKey, shape_of, has_shape, parts_of_body, parts_by_shape, IsRow, fault_of_content, named_parts, IsShaped, IsNamed, sole_key, IsBody, HasBodyLength, BodiesSayParts, set_parts, BodiesKeepFormed, most_gdt_entries, most_policy_entries, most_body, scan, cut_at, Kind, scan_cut}
use mathlib.Core.Logic.{◌⊎◌}
use Rattle.mig_headers.specs.declared.record_type.RecordType.TheVariants as types
use Rattle.mig_headers.proofs.Chains.{end_fits}
use Rattle.mig_guest.proofs.Kept.{parts_keep, policies_keep, parts_plain, policies_plain}
use Rattle.mig_records.proofs.Spelled.{chain_scanned, named_cut}
use Rattle.mig_records.proofs.TableSpelled.{table_len, size_is}
use Rattle.mig_records.proofs.Reading.{table_all, set_empty}
use Rattle.mig_records.proofs.Rows.{small_keys, all_rows, record_allows, is_allowed}

-- ---- what is to be shown of each row

-- where nothing is refused of a key, the row of the code has it
abbrev HasKeys : PartCode → ℕ → Type 0
HasKeys code second = (key1 key2 : ℕ) → (second ≡ 0 → key2 ≡ 0) → fault_of_key code key1 key2 ≡ None → (row_of code).keys key1 key2 ≡ true

-- a part has so many bytes, any bytes
abbrev HasSize : PartCode → ℕ → Type 0
HasSize code size = ((width n : ℕ) → n ≡ size → (row_of code).allows width n ≡ true) × ((bytes : List ℕ) → IsContent code bytes)

-- behind so many bytes of a body that has a length of its record's type, the others have a length that the row allows, but for none that are skipped
abbrev HasLengths : PartCode → ℕ → Bool → Type 0
HasLengths code front skips = (len : ℕ) → HasBodyLength code (front + len) → front + len ≤ most_body → (skips ≡ true → 1 ≤ len) → (width : ℕ) → (row_of code).allows width len ≡ true

abbrev HasContent : PartCode → Type 0
HasContent code = (bytes : List ℕ) → fault_of_content code bytes ≡ None → ((width : ℕ) → (row_of code).allows width (length bytes) ≡ true) → IsContent code bytes

abbrev SaysParts : PartCode → Shape → Type 0
SaysParts code (Table l) = HasKeys code l.key2_width × HasSize code l.value_width
SaysParts code (Single size ignored) = ((row_of code).keys 0 0 ≡ true) × HasSize code size
SaysParts code (Named second ignored skips) = HasKeys code second × HasLengths code (4 + second + ignored) skips × HasContent code
SaysParts code Chain = ((row_of code).keys 0 0 ≡ true) × ((width n : ℕ) → n ≤ most_body → (row_of code).allows width n ≡ true) × ((bytes : List ℕ) → IsCut bytes → IsContent code bytes)
SaysParts code Other = ⊤

basic_lengths : HasLengths VcpuBasic 8 true
basic_lengths len has short some width = by (or_cases (8 + len == 8) (8 + len == 8 + 5168) (has types.X86PvVcpuBasic refl))
  where
    by : ((8 + len == 8) ≡ true) ⊎ ((8 + len == 8 + 5168) ≡ true) → (len == 5168) ≡ true
    by (inl none) = absurd (omega (arith, eqb-true (8 + len) 8 none, some refl))
    by (inr all) = eq-eqb len 5168 (omega (arith, eqb-true (8 + len) (8 + 5168) all))

some_lengths : (len : ℕ) → 8 + len ≤ most_body → (true ≡ true → 1 ≤ len) → (nat_le 1 len && nat_le len (most_body - 8)) ≡ true
some_lengths len short some = and_from _ _ (le-leb 1 len (some refl)) (le-leb len (most_body - 8) (omega (arith, short)))

msrs_lengths : HasLengths VcpuMsrs 8 true
msrs_lengths len has short some width =
    let (least, whole) = and_parts (nat_le 8 (8 + len)) ((8 + len - 8) % 16 == 0) (has types.X86PvVcpuMsrs refl) in
    let e = eqb-true ((8 + len - 8) % 16) 0 whole in
    and_from _ _ (eq-eqb (len % 16) 0 (omega (arith, e))) (and_from _ _ (le-leb 16 len (omega (arith, e, some refl))) (le-leb len (most_body - 16) (omega (arith, e, short))))

-- the bytes of a vCPU's basic context
basic_content : HasContent VcpuBasic
basic_content bytes fine size =
    let (few, _) = rows_fine (((length bytes == 5168) && nat_lt most_gdt_entries (gdt_ents bytes), _) ∷ []) fine in
    ltb-false most_gdt_entries (gdt_ents bytes) (sym (ap (λ b. b && nat_lt most_gdt_entries (gdt_ents bytes)) (size 0)) ∙ few)

all_say : (code : PartCode) → SaysParts code (shape_of code)
all_say P2mFrames = tt
all_say _ = search (rules, arith, small_keys, eq-eqb, le-leb, basic_lengths, some_lengths, msrs_lengths, basic_content)

-- the context, cut behind its end
pub cut_is : (body : List ℕ) (o : ℕ) → scan body ≡ Ok o → length body ≤ most_body → (length (cut_at body o) ≤ most_body) × IsCut (cut_at body o)
cut_is body o is short =
    let fits : o + 8 ≤ length body = end_fits body o is in
    let front : length (take o body) ≡ o = length-take-le o body (omega (arith, fits)) in
    let size : length (take o body ++ replicate 8 0) ≡ o + 8 = length-append (take o body) (replicate 8 0) ∙ ap (λ n. n + 8) front in
    (omega (arith, size, fits, short), (o, scan_cut body o is, ap (λ x. x ++ replicate 8 0) (take_at (take o body) (replicate 8 0) o front)))

-- ---- a lemma for each shape

module _ (code : PartCode) (kind : Kind) (width : ℕ) (of_kind : (row_of code).of_kind kind ≡ true) where
  pub is_part : (key : PartKey) (bytes : List ℕ) → key.code ≡ code_number code → (row_of code).keys key.key1 key.key2 ≡ true → IsSmallKey key
      → (row_of code).allows width (length bytes) ≡ true → IsContent code bytes → IsPart kind width key bytes
  is_part key bytes number keys small len content = record { code = code; number = number; of_kind = of_kind; keys = keys; small1 = small.0; small2 = small.1; len = len; content = content }

  all_parts : (ps : List Part) → AllByRecursion (λ p. IsPart kind width p.0 p.1 × (p.0.code ≡ code_number code)) ps → AreParts kind width (code_number code) ps
  all_parts [] h = tt
  all_parts (p ∷ ps) h = (h.0.0, h.0.1, all_parts ps h.1)

  named_are : (skips : Bool) (k : PartKey) → k.code ≡ code_number code → (row_of code).keys k.key1 k.key2 ≡ true → (bytes : List ℕ) → AllByRecursion (λ p. IsSmallKey p.0) (named_parts skips k bytes)
      → ((skips ≡ true → 1 ≤ length bytes) → ((row_of code).allows width (length bytes) ≡ true) × IsContent code bytes) → AreParts kind width (code_number code) (named_parts skips k bytes)
  named_are true k number keys [] small fits = tt
  named_are true k number keys (x ∷ xs) small fits = let fit = fits (λ _. omega arith) in (is_part k (x ∷ xs) number keys small.0 fit.0 fit.1, number, tt)
  named_are false k number keys bytes small fits = let fit = fits (λ e. cc) in (is_part k bytes number keys small.0 fit.0 fit.1, number, tt)

  named_says : (second ignored : ℕ) (skips : Bool) → HasKeys code second → HasLengths code (4 + second + ignored) skips → HasContent code → (body : List ℕ) (ps : List Part) → IsNamed code second ignored skips body ps
      → HasBodyLength code (length body) → length body ≤ most_body → AllByRecursion (λ p. IsSmallKey p.0) ps → AreParts kind width (code_number code) ps
  named_says second ignored skips keys lengths content body ps h has short small =
      let key = spelled_key code 4 second h.name1 h.name2 in
      let size : length body ≡ 4 + second + ignored + length h.bytes = size_is (named_cut code body ps second ignored skips h) in
      let len = lengths (length h.bytes) (subst (HasBodyLength code) size has) (omega (arith, size, short)) in
      subst (AreParts kind width (code_number code)) (sym h.says)
      (named_are skips key refl (keys key.key1 key.key2 (λ none. ap (λ n. little_number n h.name2) none) h.named) h.bytes
      (subst (AllByRecursion (λ (p : Part). IsSmallKey p.0)) h.says small) (λ some. (len some width, content h.bytes h.fine (len some))))

  says_parts : (shape : Shape) → SaysParts code shape → (body : List ℕ) (ps : List Part) → HasBodyLength code (length body) → length body ≤ most_body
      → IsShaped shape code body ps → AllByRecursion (λ p. IsSmallKey p.0) ps → AreParts kind width (code_number code) ps
  says_parts (Table l) row body ps has short h small = all_parts ps (table_all code l (λ p. IsPart kind width p.0 p.1 × (p.0.code ≡ code_number code)) (λ p low number fine none size.
      (is_part p.0 p.1 number (row.0 p.0.key1 p.0.key2 none fine) low (row.1.0 width (length p.1) size) (row.1.1 p.1), number)) h.bytes ps small h.each)
  says_parts (Single size ignored) row body ps has short h small = subst (AreParts kind width (code_number code)) (sym h.says)
      (is_part (sole_key code) h.bytes refl row.0 (omega arith, omega arith) (row.1.0 width (length h.bytes) h.bytes_len) (row.1.1 h.bytes), refl, tt)
  says_parts (Named second ignored skips) row body ps has short h small = named_says second ignored skips row.0 row.1 row.2 body ps h has short small
  says_parts Chain row body ps has short h small =
      let (size, cut) = cut_is body (length h.context.before) (chain_scanned code body ps h) short in
      subst (AreParts kind width (code_number code)) (sym h.says) (is_part (sole_key code) (cut_at body (length h.context.before)) refl row.0 (omega arith, omega arith) (row.1 width _ size) (row.2 _ cut), refl, tt)
  says_parts Other row body ps has short h small = absurd h

pub bodies_say_parts : BodiesSayParts
bodies_say_parts code kind width body ps of_kind has short h small = says_parts code kind width of_kind (shape_of code) (all_say code) body ps has short h small

-- ---- policies

-- a record of a policy can't have more entries
abbrev HasNoMore : PartCode → Shape → Type 0
HasNoMore code (Table l) = (n : ℕ) → record_allows code (front_width l + entry_width l * n) ≡ true → n ≤ most_policy_entries
HasNoMore code _ = ⊤

most_24 : (n : ℕ) → (((0 + 24 * n) % 24 == 0) && nat_le (0 + 24 * n) (most_policy_entries * 24)) ≡ true → n ≤ most_policy_entries
most_24 n h = let most = leb-true (0 + 24 * n) (most_policy_entries * 24) (and_parts ((0 + 24 * n) % 24 == 0) _ h).1 in omega (arith, most)

most_16 : (n : ℕ) → (((0 + 16 * n) % 16 == 0) && nat_le (0 + 16 * n) (most_policy_entries * 16)) ≡ true → n ≤ most_policy_entries
most_16 n h = let most = leb-true (0 + 16 * n) (most_policy_entries * 16) (and_parts ((0 + 16 * n) % 16 == 0) _ h).1 in omega (arith, most)

no_policy : (n : ℕ) → false ≡ true → n ≤ most_policy_entries
no_policy n h = cc

no_more : (code : PartCode) → is_policy (code_number code) ≡ true → HasNoMore code (shape_of code)
no_more P2mFrames policy = tt
no_more _ policy = search (rules, arith, most_24, most_16, no_policy)

few_of_policy : (code : PartCode) (body : List ℕ) (ps : List Part) → is_policy (code_number code) ≡ true → HasBodyLength code (length body) → IsBody code body ps → length ps ≤ most_policy_entries
few_of_policy code body ps policy has h = by (shape_of code) (all_rows code) (no_more code policy) h
  where
    by : (shape : Shape) → IsRow code shape → HasNoMore code shape → IsShaped shape code body ps → length ps ≤ most_policy_entries
    by (Table l) row more h = more (length ps) (subst (λ n. record_allows code n ≡ true) (table_len code l row.widths body ps h) (is_allowed code (length body) has))
    by (Single size ignored) row more h = omega (arith, ap length h.says)
    by (Named second ignored skips) row more h = let no : false ≡ true = sym row.2 ∙ policy in cc
    by Chain row more h = omega (arith, ap length h.says)
    by Other row more h = absurd h

pub bodies_keep_formed : BodiesKeepFormed
bodies_keep_formed code g body ps of_kind has short h small formed = which (is_policy (code_number code)) refl
  where
    are : AreParts g.kind (width_of g) (code_number code) ps
    are = bodies_say_parts code g.kind (width_of g) body ps of_kind has short h small

    which : (b : Bool) → is_policy (code_number code) ≡ b → IsFormed (record g { parts = set_parts code g.parts ps })
    which true is = rw is (policies_keep g (code_number code) ps (few_of_policy code body ps is has h) are formed)
    which false is = rw is (parts_keep g (code_number code) ps is are formed)

-- no emulator parts come with a body of another code
pub set_plain : (code : PartCode) (kind : Kind) (width : ℕ) → is_emulator_code (code_number code) ≡ false → (m : PartMap) (ps : List Part) → AreParts kind width (code_number code) ps → HasNoEmulators m → HasNoEmulators (set_parts code m ps)
set_plain code kind width plain m ps are before = which (is_policy (code_number code)) refl
  where
    which : (b : Bool) → is_policy (code_number code) ≡ b → HasNoEmulators (set_parts code m ps)
    which true is = rw is (policies_plain kind width (code_number code) plain m ps are before)
    which false is = rw is (parts_plain kind width (code_number code) plain m ps are before)

-- a body of its own sets nothing here
pub sets_nothing : (code : PartCode) (body : List ℕ) → has_shape (shape_of code) ≡ false → (m : PartMap) → set_parts code m (parts_of_body code body) ≡ m
sets_nothing code body other m = by (shape_of code) other
  where
    by : (shape : Shape) → has_shape shape ≡ false → set_parts code m (parts_by_shape shape code body) ≡ m
    by Other h = set_empty code m
    by _ h = cc
