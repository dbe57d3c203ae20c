-- Data without a wrong field are those that are spelled as entries.
use Rattle.mig_legacy.proofs.Common.{le-ltb, not-false, in32, ltb-false}
use Rattle.mig_legacy.proofs.ChunkCommon.{◌≡◌, ℕ, zero, suc, ◌+◌, ◌≤◌, Bool, true, false, not, List, [], ◌∷◌, ◌++◌, length, take, drop, nat_eq, nat_lt, Some, None, refl, sym, ap, subst, ◌∙◌, arith, length-append, length-take-le, length-drop, take-append-drop, drop-drop, eqb-true, eq-eqb, ◌||◌, if◌then◌else◌, take-append_seam, drop-append_seam, le32, rows_fine, no_fault, Physmap, IsPhysmapHead, ArePhysmaps, IsToolstack, IsName, name_bytes, is_name, name_in, name_len, name_at, entry_len, entry_fault, entry_rows, entry_in, entries_fault, physmaps_in, toolstack_fault, toolstack, ToolstackIsSpelled}
use Rattle.mig_legacy.proofs.Entries.{faultless_first, faultless_all, faultless_rest, nothing_behind}
use Rattle.mig_legacy.proofs.Fields.{in64, first32, first64}
use Rattle.mig_legacy.proofs.NameForms.{name_passes, name_found, name_spelled}

-- ---- an entry without fault

pub record Fine (bytes : List ℕ) : Type 0 where
  pub head : 28 ≤ length bytes
  pub named : is_name (name_at bytes) ≡ true
  pub whole : entry_len bytes ≤ length bytes

fine_of : (bytes : List ℕ) → entry_fault bytes ≡ None → Fine bytes
unfolding entry_fault
fine_of bytes h = let r = rows_fine (entry_rows bytes) h in record {
  head = ltb-false (length bytes) 28 r.1.1.1.0;
  named = not-false (is_name (name_at bytes)) r.1.1.1.1.1.0;
  whole = ltb-false (length bytes) (entry_len bytes) r.1.1.1.1.1.1.0;
}

pub fault_of : (bytes : List ℕ) → Fine bytes → entry_fault bytes ≡ None
unfolding entry_fault
fault_of bytes h =
    no_fault (entry_rows bytes) (le-ltb (length bytes) 8 (omega (arith, h.head)), (le-ltb (length bytes) 16 (omega (arith, h.head)), (le-ltb (length bytes) 24 (omega (arith, h.head)), (le-ltb (length bytes) 28 h.head, (le-ltb (length bytes) (28 + name_len bytes) (omega (arith, h.whole)), (ap not h.named, (le-ltb (length bytes) (entry_len bytes) h.whole, tt)))))))

-- ---- from no fault to the spelling

module _ (bytes : List ℕ) (h : Fine bytes) where
  abbrev pad : List ℕ
  pad = take 4 (drop (28 + name_len bytes) bytes)

  behind_name : drop (name_len bytes) (drop 28 bytes) ≡ pad ++ drop (entry_len bytes) bytes
  behind_name =
      drop-drop (name_len bytes) 28 bytes ∙ sym (take-append-drop 4 (drop (28 + name_len bytes) bytes))
      ∙ ap (λ l. pad ++ l) (drop-drop 4 (28 + name_len bytes) bytes ∙ ap (λ n. drop n bytes) (let e : (28 + name_len bytes) + 4 ≡ entry_len bytes = omega arith in e))

  spelled_whole : bytes ≡ take 28 bytes ++ (name_bytes (name_in (name_at bytes)) ++ (pad ++ drop (entry_len bytes) bytes))
  spelled_whole =
      sym (take-append-drop 28 bytes)
      ∙ ap (λ l. take 28 bytes ++ l) (sym (take-append-drop (name_len bytes) (drop 28 bytes)) ∙ ap (λ l. name_at bytes ++ l) behind_name
      ∙ ap (λ l. l ++ (pad ++ drop (entry_len bytes) bytes)) (sym (name_spelled (name_at bytes) h.named).0))

  len_name : length (name_at bytes) ≡ name_len bytes
  len_name = length-take-le (name_len bytes) (drop 28 bytes) (omega (arith, h.whole, length-drop 28 bytes))

  head_is : IsPhysmapHead (take 28 bytes) (entry_in bytes)
  head_is = record {
    len = length-take-le 28 bytes h.head;
    phys = first64 bytes 28 0 (omega arith) h.head;
    start = first64 bytes 28 8 (omega arith) h.head;
    size = first64 bytes 28 16 (omega arith) h.head;
    name = first32 bytes 28 24 (omega arith) h.head ∙ sym (ap length (name_spelled (name_at bytes) h.named).0 ∙ len_name);
  }

  len_pad : length pad ≡ 4
  len_pad = length-take-le 4 (drop (28 + name_len bytes) bytes) (omega (arith, h.whole, length-drop (28 + name_len bytes) bytes))

each_back : (n at : ℕ) (bytes : List ℕ) → entries_fault n at bytes ≡ None → ArePhysmaps bytes (physmaps_in n bytes)
unfolding physmaps_in
each_back zero at bytes h = nothing_behind at bytes h
each_back (suc n) at bytes h =
    let fine = fine_of bytes (faultless_all n at bytes h) in
    (take 28 bytes, pad bytes fine, drop (entry_len bytes) bytes, spelled_whole bytes fine, head_is bytes fine, (name_spelled (name_at bytes) fine.named).1, len_pad bytes fine, each_back n (at + entry_len bytes) (drop (entry_len bytes) bytes) (faultless_rest n at bytes h))

-- ---- from the spelling to no fault

module _ (head pad rest : List ℕ) (e : Physmap) (h : IsPhysmapHead head e) (named : IsName e.name) (four : length pad ≡ 4) where
  abbrev text : List ℕ
  text = name_bytes e.name

  abbrev bytes : List ℕ
  bytes = head ++ (text ++ (pad ++ rest))

  pub len_is : name_len bytes ≡ length text
  len_is = in32 head (text ++ (pad ++ rest)) 24 (omega (arith, h.len)) ∙ h.name

  behind_head : drop 28 bytes ≡ text ++ (pad ++ rest)
  behind_head = ap (λ n. drop n bytes) (sym h.len) ∙ drop-append_seam head (text ++ (pad ++ rest))

  pub name_is : name_at bytes ≡ text
  name_is = ap (λ n. take n (drop 28 bytes)) len_is ∙ ap (take (length text)) behind_head ∙ take-append_seam text (pad ++ rest)

  pub behind_all : drop (entry_len bytes) bytes ≡ rest
  behind_all =
      ap (λ n. drop n bytes) (let e : entry_len bytes ≡ (28 + length text) + 4 = omega (arith, len_is) in e)
      ∙ sym (drop-drop 4 (28 + length text) bytes) ∙ ap (drop 4) (sym (drop-drop (length text) 28 bytes) ∙ ap (drop (length text)) behind_head ∙ drop-append_seam text (pad ++ rest))
      ∙ ap (λ n. drop n (pad ++ rest)) (sym four) ∙ drop-append_seam pad rest

  pub long : length bytes ≡ 32 + length text + length rest
  long = length-append head (text ++ (pad ++ rest)) ∙ omega (arith, h.len, length-append text (pad ++ rest), length-append pad rest, four)

  pub fine : Fine bytes
  fine = record {
    head = omega (arith, long);
    named = ap is_name name_is ∙ name_passes e.name named;
    whole = omega (arith, long, len_is);
  }

  entry_is : entry_in bytes ≡ e
  entry_is =
      let phys = in64 head (text ++ (pad ++ rest)) 0 (omega (arith, h.len)) ∙ h.phys in
      let start = in64 head (text ++ (pad ++ rest)) 8 (omega (arith, h.len)) ∙ h.start in
      let size = in64 head (text ++ (pad ++ rest)) 16 (omega (arith, h.len)) ∙ h.size in
      let name = ap name_in name_is ∙ name_found e.name in
      rw (phys, start, size, name) refl

module _ (es : List Physmap) (at : ℕ) (head pad rest : List ℕ) (e : Physmap) (h : IsPhysmapHead head e) (named : IsName e.name) (four : length pad ≡ 4) where
  abbrev front : List ℕ
  front = bytes head pad rest e h named four

  faultless_more : entries_fault (length es) (at + entry_len front) rest ≡ None → entries_fault (suc (length es)) at front ≡ None
  faultless_more more = faultless_first (length es) at front (fault_of front (fine head pad rest e h named four)) ∙ ap (entries_fault (length es) (at + entry_len front)) (behind_all head pad rest e h named four) ∙ more

  found_more : physmaps_in (length es) rest ≡ es → physmaps_in (suc (length es)) front ≡ e ∷ es
  unfolding physmaps_in
  found_more more = ap (λ x. x ∷ physmaps_in (length es) (drop (entry_len front) front)) (entry_is head pad rest e h named four) ∙ ap (λ l. e ∷ l) (ap (physmaps_in (length es)) (behind_all head pad rest e h named four) ∙ more)

abbrev AreFound : List Physmap → List ℕ → Type 0
AreFound es all = ((at : ℕ) → entries_fault (length es) at all ≡ None) × (physmaps_in (length es) all ≡ es)

none_found : AreFound [] []
unfolding entries_fault physmaps_in
none_found = (λ at. refl, refl)

each_forth : (es : List Physmap) (all : List ℕ) → ArePhysmaps all es → AreFound es all
each_forth [] all h = subst (AreFound []) (sym h) none_found
each_forth (e ∷ es) all (first, mid, last, whole, is, named, four, more) =
    let (faultless, found) = each_forth es last more in
    subst (AreFound (e ∷ es)) (sym whole) (λ at. faultless_more es at first mid last e is named four (faultless (at + entry_len (front es at first mid last e is named four))), found_more es 0 first mid last e is named four found)

-- ---- the data

len_in : (n : ℕ) (all : List ℕ) → length (physmaps_in n all) ≡ n
unfolding physmaps_in
len_in zero all = refl
len_in (suc n) all = ap suc (len_in n (drop (entry_len all) all))

record FineHead (body : List ℕ) : Type 0 where
  pub long : 8 ≤ length body
  pub version : le32 body 0 ≡ 1
  pub entries : entries_fault (le32 body 4) 8 (drop 8 body) ≡ None

fine_head : (body : List ℕ) → toolstack_fault body ≡ None → FineHead body
unfolding toolstack_fault
fine_head body h = first (nat_lt (length body) 4) (nat_eq (le32 body 0) 1) (nat_lt (length body) 8) refl refl h
  where
    no : {X : Type 0} (n : ℕ) → Some n ≡ None → X
    no n e = cc

    first : (a b c : Bool) → nat_eq (le32 body 0) 1 ≡ b → nat_lt (length body) 8 ≡ c → (if a || not b then Some 0 else if c then Some 4 else entries_fault (le32 body 4) 8 (drop 8 body)) ≡ None → FineHead body
    first true b c v l e = no 0 e
    first false false c v l e = no 0 e
    first false true true v l e = no 4 e
    first false true false v l e = record { long = ltb-false (length body) 8 l; version = eqb-true (le32 body 0) 1 v; entries = e }

faultless_head : (body : List ℕ) → FineHead body → toolstack_fault body ≡ None
unfolding toolstack_fault
faultless_head body h = rw (le-ltb (length body) 4 (omega (arith, h.long)), eq-eqb (le32 body 0) 1 h.version, le-ltb (length body) 8 h.long) h.entries

spelled_data : (body : List ℕ) → toolstack_fault body ≡ None → IsToolstack body (toolstack body)
unfolding toolstack
spelled_data body e = let h = fine_head body e in record {
  head = take 8 body;
  rest = drop 8 body;
  whole = sym (take-append-drop 8 body);
  len = length-take-le 8 body h.long;
  version = first32 body 8 0 (omega arith) h.long ∙ h.version;
  count = first32 body 8 4 (omega arith) h.long ∙ sym (len_in (le32 body 4) (drop 8 body));
  each = each_back (le32 body 4) 8 (drop 8 body) h.entries;
}

module _ (es : List Physmap) (head rest : List ℕ) (len : length head ≡ 8) (version : le32 head 0 ≡ 1) (count : le32 head 4 ≡ length es) (each : ArePhysmaps rest es) where
  count_is : le32 (head ++ rest) 4 ≡ length es
  count_is = in32 head rest 4 (omega (arith, len)) ∙ count

  behind_fields : drop 8 (head ++ rest) ≡ rest
  behind_fields = ap (λ n. drop n (head ++ rest)) (sym len) ∙ drop-append_seam head rest

  data_fine : FineHead (head ++ rest)
  data_fine = record {
    long = omega (arith, length-append head rest, len);
    version = in32 head rest 0 (omega (arith, len)) ∙ version;
    entries = ap (λ n. entries_fault n 8 (drop 8 (head ++ rest))) count_is ∙ ap (entries_fault (length es) 8) behind_fields ∙ (each_forth es rest each).0 8;
  }

  data_is : toolstack (head ++ rest) ≡ es
  unfolding toolstack
  data_is = ap (λ n. physmaps_in n (drop 8 (head ++ rest))) count_is ∙ ap (physmaps_in (length es)) behind_fields ∙ (each_forth es rest each).1

found_data : (body : List ℕ) (es : List Physmap) → IsToolstack body es → (toolstack_fault body ≡ None) × (toolstack body ≡ es)
found_data body es h =
    subst (λ b. (toolstack_fault b ≡ None) × (toolstack b ≡ es)) (sym h.whole) (faultless_head (h.head ++ h.rest) (data_fine es h.head h.rest h.len h.version h.count h.each), data_is es h.head h.rest h.len h.version h.count h.each)

pub toolstack_spelled : (body : List ℕ) → ToolstackIsSpelled body
toolstack_spelled body = record { faultless = spelled_data body; spelled = found_data body }
