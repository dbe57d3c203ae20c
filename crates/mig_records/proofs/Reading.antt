-- Entries one after another, as a loop goes over them: the first, and the others behind it.
use Rattle.mig_records.proofs.Common.{◌≡◌, ◌≢◌, ◌<◌, ◌≤◌, ℕ, zero, suc, ◌+◌, ◌*◌, ◌-◌, ◌^◌, Bool, true, false, cond, not, List, [], ◌∷◌, length, drop, Some, None, Result, Ok, Err, refl, sym, ap, subst, ◌∙◌, arith, length-drop, get_or-drop, AllByRecursion, slice_index, OnOk, OnErr, little_number, little_from-lt, Cause, both_none, PartCode, PartKey, GuestOf, code_number, Part, PartMap, put_part, put_parts, Layout, IsLayout, IsSmallKey, entry_width, front_width, AreTableEntries, key_in, entry_part, entry_parts, fault_of_key, fault_of_entry, fault_of_entries, fault_of_table, entry_count, parts_of_table, is_policy, cleared, set_parts, named_parts, mul-suc, pow-le-pow_right, option_or, put_other, puts_other, cleared_other}
use Rattle.std.proofs.Common.{◌==◌}
use Rattle.std.specs.FinMap as maps
use Rattle.mig_records.proofs.TableSpelled.{fine_table}

-- the bytes of memory
abbrev pub AreOctets : List ℕ → Type 0
AreOctets bytes = (k : ℕ) → slice_index bytes k < 256

behind : (n : ℕ) (bytes : List ℕ) → AreOctets bytes → AreOctets (drop n bytes)
behind n bytes h k = subst (λ b. b < 256) (sym (get_or-drop n bytes k 0)) (h (n + k))

next : (m : ℕ) → m + 1 ≡ suc m
next m = omega arith

pub set_empty : (code : PartCode) (m : PartMap) → set_parts code m [] ≡ m
set_empty code m = elim (is_policy (code_number code)) as (λ b. cond b m m ≡ m) [ true ↦ refl | false ↦ refl ]

module _ (code : PartCode) (l : Layout) where
  -- where n is one more than m: n entries are the first, and m behind it
  pub longer : (len n m : ℕ) → n ≡ m + 1 → len ≡ entry_width l * n → (entry_width l ≤ len) × (len - entry_width l ≡ entry_width l * m)
  longer len n m is size =
      let e : entry_width l * n ≡ entry_width l * m + entry_width l = ap (λ k. entry_width l * k) (is ∙ next m) ∙ mul-suc (entry_width l) m in
      (omega (arith, size, e), omega (arith, size, e))

  pub shorter : (bytes : List ℕ) (n m : ℕ) → n ≡ m + 1 → length bytes ≡ entry_width l * n → length (drop (entry_width l) bytes) ≡ entry_width l * m
  shorter bytes n m is size = length-drop (entry_width l) bytes ∙ (longer (length bytes) n m is size).1

  pub fault_next : (bytes : List ℕ) (n m : ℕ) → n ≡ m + 1 → fault_of_entry code l bytes ≡ None → fault_of_entries code l m (drop (entry_width l) bytes) ≡ fault_of_entries code l n bytes
  fault_next bytes n m is none = ap (λ o. option_or o (fault_of_entries code l m (drop (entry_width l) bytes))) (sym none) ∙ ap (λ k. fault_of_entries code l k bytes) (sym (is ∙ next m))

  pub fault_here : (bytes : List ℕ) (n m : ℕ) → n ≡ m + 1 → (c : Cause) → Some c ≡ fault_of_entry code l bytes → Some c ≡ fault_of_entries code l n bytes
  fault_here bytes n m is c some = ap (λ o. option_or o (fault_of_entries code l m (drop (entry_width l) bytes))) some ∙ ap (λ k. fault_of_entries code l k bytes) (sym (is ∙ next m))

  pub fine_first : (bytes : List ℕ) (n m : ℕ) → n ≡ m + 1 → fault_of_entries code l n bytes ≡ None → (fault_of_entry code l bytes ≡ None) × (fault_of_entries code l m (drop (entry_width l) bytes) ≡ None)
  fine_first bytes n m is fine =
      both_none (fault_of_entry code l bytes) (fault_of_entries code l m (drop (entry_width l) bytes)) (subst (λ k. fault_of_entries code l k bytes ≡ None) (is ∙ next m) fine)

  -- a guest on the way
  pub guest_next : (g h n : GuestOf) (bytes : List ℕ) (left less : ℕ) (all : List Part) → left ≡ less + 1
      → record h { parts = put_parts h.parts (entry_parts code l left bytes) } ≡ record g { parts = put_parts g.parts all }
      → n ≡ record h { parts = put_part h.parts (entry_part code l bytes) }
      → record n { parts = put_parts n.parts (entry_parts code l less (drop (entry_width l) bytes)) } ≡ record g { parts = put_parts g.parts all }
  guest_next g h n bytes left less all is before set =
      ap (λ (x : GuestOf). record x { parts = put_parts x.parts (entry_parts code l less (drop (entry_width l) bytes)) }) set
      ∙ ap (λ k. record h { parts = put_parts h.parts (entry_parts code l k bytes) }) (sym (is ∙ next less)) ∙ before

  pub others_next : (g h n : GuestOf) (bytes : List ℕ) → ((q : PartKey) → q.code ≢ code_number code → maps.get h.parts q ≡ maps.get g.parts q)
      → n ≡ record h { parts = put_part h.parts (entry_part code l bytes) } → (q : PartKey) → q.code ≢ code_number code → maps.get n.parts q ≡ maps.get g.parts q
  others_next g h n bytes before set q differ =
      ap (λ (x : GuestOf). maps.get x.parts q) set ∙ put_other h.parts (entry_part code l bytes) q differ ∙ before q differ

  -- ---- all entries

  pub none_counted : (n : ℕ) (bytes : List ℕ) → entry_parts code l n bytes ≡ [] → n ≡ 0
  none_counted zero bytes is = refl
  none_counted (suc n) bytes is = cc

  -- ---- keys of 32 bits

  small_entries : IsLayout code l → (n : ℕ) (bytes : List ℕ) → AreOctets bytes → fault_of_entries code l n bytes ≡ None → AllByRecursion (λ p. IsSmallKey p.0) (entry_parts code l n bytes)
  small_entries ok zero bytes h fine = tt
  small_entries ok (suc n) bytes h fine =
      let both = both_none (fault_of_entry code l bytes) (fault_of_entries code l n (drop (entry_width l) bytes)) fine in
      let key = key_in code l.key1_width l.key2_width bytes in (
        ok.small key.key1 key.key2 (little_from-lt 0 l.key1_width bytes h) (little_from-lt 0 l.key2_width (drop l.key1_width bytes) (behind l.key1_width bytes h)) both.0,
        small_entries ok n (drop (entry_width l) bytes) (behind (entry_width l) bytes h) both.1,
      )

  -- an entry without fault has a key of 32 bits
  pub small_entry : IsLayout code l → (bytes : List ℕ) (key1 key2 : ℕ) → key1 ≡ little_number l.key1_width bytes → key2 ≡ little_number l.key2_width (drop l.key1_width bytes)
      → key1 < 256 ^ l.key1_width → key2 < 256 ^ l.key2_width → fault_of_entry code l bytes ≡ None → (key1 < 2 ^ 32) × (key2 < 2 ^ 32)
  small_entry ok bytes key1 key2 one two low1 low2 fine = ok.small key1 key2 low1 low2 ((λ i. fault_of_key code (one i) (two i)) ∙ fine)

  -- the parts of a body in memory have keys of 32 bits
  pub small_table : (body : List ℕ) → fault_of_table code l body ≡ None → IsLayout code l → AreOctets body → AllByRecursion (λ p. IsSmallKey p.0) (parts_of_table code l body)
  small_table body fine ok h = small_entries ok (entry_count l body) (drop (front_width l) body) (behind (front_width l) body h) (fine_table code l body fine).1

pub cleared_keeps : (code : PartCode) (m : PartMap) (q : PartKey) → q.code ≢ code_number code → maps.get (cleared code m) q ≡ maps.get m q
cleared_keeps code m q differ = elim (is_policy (code_number code)) as (λ b. maps.get (cond b (maps.retain_keys m (λ k. not (k.code == code_number code))) m) q ≡ maps.get m q) [
  | true ↦ cleared_other (code_number code) m q differ
  | false ↦ refl
]

-- ---- one part

-- a number of 4 bytes or fewer
pub narrow : (n x : ℕ) → n ≤ 4 → x < 256 ^ n → x < 2 ^ 32
narrow n x few low = let wide : 256 ^ n ≤ 256 ^ 4 = pow-le-pow_right {n = 256} (omega arith) few in omega (arith, wide, low)

pub small_name : (code : PartCode) (second : ℕ) → second ≤ 4 → (body : List ℕ) → AreOctets body → IsSmallKey (key_in code 4 second body)
small_name code second few body h = (narrow 4 _ (omega arith) (little_from-lt 0 4 body h), narrow second _ few (little_from-lt 0 second (drop 4 body) (behind 4 body h)))

-- what holds of a part that is named holds of what is set
pub named_all : (P : Part → Type 0) (skips : Bool) (k : PartKey) (bytes : List ℕ) → P (k, bytes) → AllByRecursion P (named_parts skips k bytes)
named_all P true k [] h = tt
named_all P true k (x ∷ xs) h = (h, tt)
named_all P false k bytes h = (h, tt)

-- the parts of other codes stay, whether these are set or not
pub others_kept : {E : Type 0} (code : PartCode) (ps : List Part) → AllByRecursion (λ p. p.0.code ≡ code_number code) ps → (g n : GuestOf) (r : Result (Unit {0}) E)
    → OnOk r (n ≡ record g { parts = put_parts g.parts ps }) → OnErr r (n ≡ g) → (q : PartKey) → q.code ≢ code_number code → maps.get n.parts q ≡ maps.get g.parts q
others_kept code ps of g n (Ok u) ok err q differ = ap (λ (x : GuestOf). maps.get x.parts q) ok ∙ puts_other (code_number code) ps of g.parts q differ
others_kept code ps of g n (Err e) ok err q differ = ap (λ (x : GuestOf). maps.get x.parts q) err

-- what holds of each part of a table that has a key of 32 bits
module _ (code : PartCode) (l : Layout) (P : Part → Type 0) where
  pub table_all : ((p : Part) → IsSmallKey p.0 → p.0.code ≡ code_number code → fault_of_key code p.0.key1 p.0.key2 ≡ None → (l.key2_width ≡ 0 → p.0.key2 ≡ 0) → length p.1 ≡ l.value_width → P p)
      → (bytes : List ℕ) (ps : List Part) → AllByRecursion (λ p. IsSmallKey p.0) ps → AreTableEntries code l bytes ps → AllByRecursion P ps
  table_all go bytes [] small h = tt
  table_all go bytes (p ∷ ps) small (first, second, rest, whole, len1, len2, size, is, fine, more) =
      (go p small.0 (ap (λ (k : PartKey). k.code) is) fine (λ none. ap (λ (k : PartKey). k.key2) is ∙ ap (λ n. little_number n second) none) size, table_all go rest ps small.1 more)
