-- A table without fault is one that is spelled as entries, whatever its layout.
use Rattle.mig_records.proofs.Common.{◌≡◌, ◌≤◌, ℕ, zero, suc, ◌+◌, ◌*◌, ◌/◌, Bool, true, false, cond, List, [], ◌∷◌, ◌++◌, length, take, drop, not, nat_eq, Option, None, refl, sym, ap, subst, ◌∙◌, arith, length-append, length-drop, length-take-le, take-append-drop, drop-drop, drop_at, not-false, not_from_true, eqb-true, eq-eqb, take_at, little_number, little_from-append, Cause, BadLength, first_fault, both_none, neither_some, rows_fine, no_fault, PartCode, PartKey, code_number, Part, Layout, fault_of_key, spelled_key, key_in, entry_width, front_width, AreTableEntries, IsTableFront, IsTable, entry_part, entry_parts, fault_of_entries, entry_count, parts_of_table, fault_of_table, AreWidths, mul-suc, mul-div_cancel_left, in32}
use Rattle.mig_bytes.specs.Fields.{le32}

-- a number reads its own bytes alone
pub number_first : (n : ℕ) (bytes rest : List ℕ) → length bytes ≡ n → little_number n (bytes ++ rest) ≡ little_number n bytes
number_first n bytes rest size = little_from-append n bytes rest (omega (arith, size))

-- ---- a row that asks for one length

abbrev pub length_fault : ℕ → ℕ → Option Cause
length_fault len wanted = first_fault ((not (nat_eq len wanted), BadLength len) ∷ [])

pub length_is : (len wanted : ℕ) → length_fault len wanted ≡ None → len ≡ wanted
length_is len wanted fine = eqb-true len wanted (not-false (nat_eq len wanted) (rows_fine ((not (nat_eq len wanted), BadLength len) ∷ []) fine).0)

pub length_passes : (len wanted : ℕ) → len ≡ wanted → length_fault len wanted ≡ None
length_passes len wanted is = no_fault ((not (nat_eq len wanted), BadLength len) ∷ []) (not_from_true (nat_eq len wanted) (eq-eqb len wanted is), tt)

-- ---- what the first bytes say, where they are two numbers and a value

pub record Cut (a b v : ℕ) (bytes first second value rest : List ℕ) : Type 0 where
  pub whole : bytes ≡ first ++ (second ++ (value ++ rest))
  pub first_len : length first ≡ a
  pub second_len : length second ≡ b
  pub value_len : length value ≡ v

-- bytes that are long enough are cut so
pub cut_of : (a b v : ℕ) (bytes : List ℕ) → a + b + v ≤ length bytes → Cut a b v bytes (take a bytes) (take b (drop a bytes)) (take v (drop (a + b) bytes)) (drop (a + b + v) bytes)
cut_of a b v bytes long = record {
  whole = sym (take-append-drop a bytes)
      ∙ ap (λ x. take a bytes ++ x) (sym (take-append-drop b (drop a bytes))
      ∙ ap (λ x. take b (drop a bytes) ++ x) (drop-drop b a bytes ∙ sym (take-append-drop v (drop (a + b) bytes)) ∙ ap (λ x. take v (drop (a + b) bytes) ++ x) (drop-drop v (a + b) bytes)));
  first_len = length-take-le a bytes (omega (arith, long));
  second_len = length-take-le b (drop a bytes) (omega (arith, long, length-drop a bytes));
  value_len = length-take-le v (drop (a + b) bytes) (omega (arith, long, length-drop (a + b) bytes));
}

module _ {a b v : ℕ} {bytes first second value rest : List ℕ} (c : Cut a b v bytes first second value rest) where
  behind_first : drop a bytes ≡ second ++ (value ++ rest)
  behind_first = ap (drop a) c.whole ∙ drop_at first (second ++ (value ++ rest)) a c.first_len

  behind_key : drop (a + b) bytes ≡ value ++ rest
  behind_key = sym (drop-drop b a bytes) ∙ ap (drop b) behind_first ∙ drop_at second (value ++ rest) b c.second_len

  pub behind_value : drop (a + b + v) bytes ≡ rest
  behind_value = sym (drop-drop v (a + b) bytes) ∙ ap (drop v) behind_key ∙ drop_at value rest v c.value_len

  pub first_number : little_number a bytes ≡ little_number a first
  first_number = ap (little_number a) c.whole ∙ number_first a first (second ++ (value ++ rest)) c.first_len

  pub second_number : little_number b (drop a bytes) ≡ little_number b second
  second_number = ap (little_number b) behind_first ∙ number_first b second (value ++ rest) c.second_len

  value_is : take v (drop (a + b) bytes) ≡ value
  value_is = ap (take v) behind_key ∙ take_at value rest v c.value_len

  pub size_is : length bytes ≡ a + b + v + length rest
  size_is = ap length c.whole ∙ omega (arith, length-append first (second ++ (value ++ rest)), length-append second (value ++ rest), length-append value rest, c.first_len, c.second_len, c.value_len)

module _ (code : PartCode) (l : Layout) where
  entry_is : (bytes first second value rest : List ℕ) → Cut l.key1_width l.key2_width l.value_width bytes first second value rest → entry_part code l bytes ≡ (spelled_key code l.key1_width l.key2_width first second, value)
  entry_is bytes first second value rest c =
      let one = first_number c in let two = second_number c in let same = value_is c in
      λ i. (record { code = code_number code; key1 = one i; key2 = two i }, same i)

  -- ---- entries one after another

  empty_of : (bytes : List ℕ) → length bytes ≡ entry_width l * 0 → bytes ≡ []
  empty_of [] e = refl
  empty_of (x ∷ xs) e = absurd (omega (arith, e))

  abbrev refused : PartKey → Option Cause
  refused k = fault_of_key code k.key1 k.key2

  spells : (n : ℕ) (bytes : List ℕ) → length bytes ≡ entry_width l * n → fault_of_entries code l n bytes ≡ None → AreTableEntries code l bytes (entry_parts code l n bytes)
  spells zero bytes size fine = empty_of bytes size
  spells (suc n) bytes size fine =
      let long = mul-suc (entry_width l) n in
      let c = cut_of l.key1_width l.key2_width l.value_width bytes (omega (arith, size, long)) in
      let both = both_none (refused (key_in code l.key1_width l.key2_width bytes)) (fault_of_entries code l n (drop (entry_width l) bytes)) fine in
      let key = ap (λ (p : Part). p.0) (entry_is bytes _ _ _ _ c) in
      let rest_size : length (drop (entry_width l) bytes) ≡ entry_width l * n = length-drop (entry_width l) bytes ∙ omega (arith, size, long) in
      (_, _, _, c.whole, c.first_len, c.second_len, c.value_len, key, both.0, spells n (drop (entry_width l) bytes) rest_size both.1)

  record Read (bytes : List ℕ) (ps : List Part) : Type 0 where
    size : length bytes ≡ entry_width l * length ps
    same : entry_parts code l (length ps) bytes ≡ ps
    fine : fault_of_entries code l (length ps) bytes ≡ None

  reads : (bytes : List ℕ) (ps : List Part) → AreTableEntries code l bytes ps → Read bytes ps
  reads bytes [] none = record { size = ap length none ∙ omega arith; same = refl; fine = refl }
  reads bytes (p ∷ ps) (first, second, rest, whole, first_len, second_len, value_len, key, fine, more) =
      let c : Cut l.key1_width l.key2_width l.value_width bytes first second p.1 rest = record { whole = whole; first_len = first_len; second_len = second_len; value_len = value_len } in
      let tail = reads rest ps more in
      let behind = behind_value c in
      let here : entry_part code l bytes ≡ p = entry_is bytes first second p.1 rest c ∙ ap (λ (k : PartKey). (k, p.1)) (sym key) in
      record {
        size = size_is c ∙ omega (arith, tail.size, mul-suc (entry_width l) (length ps));
        same = ap (λ q. q ∷ entry_parts code l (length ps) (drop (entry_width l) bytes)) here ∙ ap (λ qs. p ∷ qs) (ap (entry_parts code l (length ps)) behind ∙ tail.same);
        fine = neither_some _ _ (ap (λ (q : Part). refused q.0) here ∙ fine) (ap (fault_of_entries code l (length ps)) behind ∙ tail.fine);
      }

  pub entries_len : (n : ℕ) (bytes : List ℕ) → length (entry_parts code l n bytes) ≡ n
  entries_len zero bytes = refl
  entries_len (suc n) bytes = ap suc (entries_len n (drop (entry_width l) bytes))

  -- a table without fault has the length that its entries ask for
  pub fine_table : (body : List ℕ) → fault_of_table code l body ≡ None → (length body ≡ front_width l + entry_width l * entry_count l body) × (fault_of_entries code l (entry_count l body) (drop (front_width l) body) ≡ None)
  fine_table body fine =
      let wanted = front_width l + entry_width l * entry_count l body in
      let both = both_none (length_fault (length body) wanted) (fault_of_entries code l (entry_count l body) (drop (front_width l) body)) fine in
      (length_is (length body) wanted both.0, both.1)

-- ---- tables

module _ (code : PartCode) (l : Layout) (widths : AreWidths l) (body : List ℕ) where
  -- the front of a body, with the number that is counted
  front_of : (b : Bool) → l.counted ≡ b → front_width l ≤ length body → IsTableFront b (take (front_width l) body) (entry_count l body)
  front_of true is long =
      let n : front_width l ≡ 8 = ap (λ b. cond b 8 0) is in
      let size : length (take (front_width l) body) ≡ 8 = length-take-le (front_width l) body long ∙ n in
      (size, sym (in32 (take (front_width l) body) (drop (front_width l) body) 0 (omega (arith, size))) ∙ ap (λ x. le32 x 0) (take-append-drop (front_width l) body) ∙ sym (ap (λ b. cond b (le32 body 0) (length body / entry_width l)) is))
  front_of false is long = ap (λ b. take (cond b 8 0) body) is

  pub table_forth : (ps : List Part) → fault_of_table code l body ≡ None → parts_of_table code l body ≡ ps → IsTable code l body ps
  table_forth ps fine is =
      let n = entry_count l body in
      let bytes = drop (front_width l) body in
      let (whole_len, keys) = fine_table code l body fine in
      let size : length bytes ≡ entry_width l * n = length-drop (front_width l) body ∙ omega (arith, whole_len) in
      let count : n ≡ length ps = sym (entries_len code l n bytes) ∙ ap length is in
      record {
        front = take (front_width l) body;
        bytes = bytes;
        whole = sym (take-append-drop (front_width l) body);
        counted = subst (IsTableFront l.counted (take (front_width l) body)) count (front_of l.counted refl (omega (arith, whole_len)));
        each = subst (AreTableEntries code l bytes) is (spells code l n bytes size keys);
      }

  front_size : (b : Bool) (front : List ℕ) (n : ℕ) → IsTableFront b front n → length front ≡ cond b 8 0
  front_size true front n h = h.0
  front_size false front n h = ap length h

  count_of : (b : Bool) → l.counted ≡ b → (front bytes : List ℕ) (n : ℕ) → body ≡ front ++ bytes → IsTableFront b front n → length bytes ≡ entry_width l * n → entry_count l body ≡ n
  count_of true is front bytes n whole h size =
      ap (λ b. cond b (le32 body 0) (length body / entry_width l)) is ∙ ap (λ x. le32 x 0) whole ∙ in32 front bytes 0 (omega (arith, h.0)) ∙ h.1
  count_of false is front bytes n whole h size =
      ap (λ b. cond b (le32 body 0) (length body / entry_width l)) is ∙ ap (λ m. m / entry_width l) (ap length whole ∙ ap (λ x. length (x ++ bytes)) h ∙ size)
      ∙ mul-div_cancel_left n (omega (arith, widths.some))

  pub table_back : (ps : List Part) → IsTable code l body ps → (fault_of_table code l body ≡ None) × (parts_of_table code l body ≡ ps)
  table_back ps h =
      let read = reads code l h.bytes ps h.each in
      let front = front_size l.counted h.front (length ps) h.counted in
      let count = count_of l.counted refl h.front h.bytes (length ps) h.whole h.counted read.size in
      let rest : drop (front_width l) body ≡ h.bytes = ap (drop (front_width l)) h.whole ∙ drop_at h.front h.bytes (front_width l) front in
      let size : length body ≡ front_width l + entry_width l * length ps = ap length h.whole ∙ length-append h.front h.bytes ∙ omega (arith, front, read.size) in
      let keys : fault_of_entries code l (entry_count l body) (drop (front_width l) body) ≡ None = ap (λ n. fault_of_entries code l n (drop (front_width l) body)) count ∙ ap (fault_of_entries code l (length ps)) rest ∙ read.fine in (
        neither_some _ _ (length_passes _ _ (size ∙ ap (λ n. front_width l + entry_width l * n) (sym count))) keys,
        ap (λ n. entry_parts code l n (drop (front_width l) body)) count ∙ ap (entry_parts code l (length ps)) rest ∙ read.same,
      )

  -- the length of a table
  pub table_len : (ps : List Part) → IsTable code l body ps → length body ≡ front_width l + entry_width l * length ps
  table_len ps h =
      let back = table_back ps h in
      (fine_table code l body back.0).0 ∙ ap (λ n. front_width l + entry_width l * n) (sym (entries_len code l (entry_count l body) (drop (front_width l) body)) ∙ ap length back.1)
