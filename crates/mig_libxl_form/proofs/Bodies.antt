-- The bodies of records: those without fault are those that are spelled.
use Rattle.mig_libxl_form.proofs.Common.{◌≡◌, ℕ, ◌+◌, ◌≤◌, ◌<◌, Bool, true, false, cond, List, [], ◌∷◌, ◌++◌, length, take, drop, nat_eq, nat_le, Option, None, refl, sym, ap, subst, ◌∙◌, arith, take-append-drop, length-append, ◌&&◌, ◌||◌, eqb-true, le-leb, leb-true, lt-leb, common_steps, drop_at, said_goes, said_passes, Passes, Cause, Truncated, PartKey, pairs_fault, put_pairs, text_of_map, pairs_are_read, LibxlRecord, LibxlContent, Pairs, Context, EmulatorsOf, store_at, body_of_type, HasLibxlContent, EmulatorsFit, nil_from_length, length-drop, length-take-le, leb-false, both_none, neither_some, no_fault, rows_fine, pairs_in, Nothing, emulators_of, spelled_with, IsFront, optional, ends, pairs, context, most_body, nat_lt, not, ltb-false, le-ltb, not-false, drop-append-le, said_at, is_optional, BadEmulator, TooManyPairs, EmulatorIndex, most_pairs}
use Rattle.byteorder.specs.Endian.{little_number}
use Rattle.mig_libxl_form.specs.Judging.{emulator_key, allows_length, field_rows, fault_of_libxl_fields, fault_of_pairs, fault_of_context, pairs_at, context_at, skipped_at}
use Rattle.byteorder.specs.Numbers.{little_from-append}
use Rattle.mig_bytes.specs.Fields.{le32}

-- a field in the front of a body
pub front_field : (front text : List ℕ) (at : ℕ) → length front ≡ 8 → at + 4 ≤ 8 → le32 (front ++ text) at ≡ le32 front at
unfolding le32
front_field front text at size small =
    ap (little_number 4) (drop-append-le at front text (omega (arith, size, small))) ∙ little_from-append 4 (drop at front) text (omega (arith, length-drop at front, size, small))

-- ---- what heads allow

pub record FineFields (type len : ℕ) : Type 0 where
  pub small : len ≤ most_body
  pub supported : ((nat_eq type 4) || (nat_eq type 5)) ≡ false
  pub known : (nat_lt 5 type && not (is_optional type)) ≡ false
  pub allowed : allows_length type len ≡ true

pub fields_fine : (type len : ℕ) → fault_of_libxl_fields type len ≡ None → FineFields type len
unfolding fault_of_libxl_fields
fields_fine type len fine =
    let rows = rows_fine (field_rows type len) fine in
    record { small = ltb-false most_body len rows.0; supported = rows.1.0; known = rows.1.1.0; allowed = not-false _ rows.1.1.1.0 }

pub fine_fields : (type len : ℕ) → FineFields type len → fault_of_libxl_fields type len ≡ None
unfolding fault_of_libxl_fields
fine_fields type len f = no_fault (field_rows type len) (le-ltb _ _ f.small, (f.supported, (f.known, (ap not f.allowed, tt))))

-- ---- an emulator's body

front_is : (code : ℕ) (body : List ℕ) → 8 ≤ length body → le32 body 0 < 3 → le32 body 4 < 256 → IsFront code (take 8 body) (emulator_key code body)
front_is code body long known small =
    let size : length (take 8 body) ≡ 8 = length-take-le 8 body long in
    let whole : take 8 body ++ drop 8 body ≡ body = take-append-drop 8 body in
    record {
      len = size;
      code_is = refl;
      id = sym (front_field (take 8 body) (drop 8 body) 0 size (omega arith)) ∙ ap (λ l. le32 l 0) whole;
      index = sym (front_field (take 8 body) (drop 8 body) 4 size (omega arith)) ∙ ap (λ l. le32 l 4) whole;
      known = known;
      small = small;
    }

pub record FinePairs (e : EmulatorsOf) (body : List ℕ) : Type 0 where
  pub pairs : pairs_fault (drop 8 body) ≡ None
  pub known : le32 body 0 < 3
  pub fits : spelled_with e (emulator_key 258 body) (pairs_in (drop 8 body)) ≤ most_pairs
  pub small : le32 body 4 < 256

pairs_fine : (e : EmulatorsOf) (body : List ℕ) → fault_of_pairs e body ≡ None → FinePairs e body
unfolding fault_of_pairs
pairs_fine e body fine =
    let both = both_none (pairs_fault (drop 8 body)) _ fine in
    let rows = rows_fine ((nat_le 3 (le32 body 0), BadEmulator (le32 body 0)) ∷ (nat_lt most_pairs (spelled_with e (emulator_key 258 body) (pairs_in (drop 8 body))), TooManyPairs) ∷ (nat_le 256 (le32 body 4), EmulatorIndex (le32 body 4)) ∷ []) both.1 in
    record { pairs = both.0; known = leb-false 3 (le32 body 0) rows.0; fits = ltb-false most_pairs (spelled_with e (emulator_key 258 body) (pairs_in (drop 8 body))) rows.1.0; small = leb-false 256 (le32 body 4) rows.1.1.0 }

pub fine_pairs : (e : EmulatorsOf) (body : List ℕ) → FinePairs e body → fault_of_pairs e body ≡ None
unfolding fault_of_pairs
fine_pairs e body f =
    neither_some (pairs_fault (drop 8 body)) _ f.pairs
    (no_fault ((nat_le 3 (le32 body 0), BadEmulator (le32 body 0)) ∷ (nat_lt most_pairs (spelled_with e (emulator_key 258 body) (pairs_in (drop 8 body))), TooManyPairs) ∷ (nat_le 256 (le32 body 4), EmulatorIndex (le32 body 4)) ∷ [])
    (lt-leb 3 (le32 body 0) f.known, (le-ltb _ _ f.fits, (lt-leb 256 (le32 body 4) f.small, tt))))

context_fine : (body : List ℕ) → fault_of_context body ≡ None → (le32 body 0 < 3) × (le32 body 4 < 256)
unfolding fault_of_context
context_fine body fine =
    let rows = rows_fine ((nat_le 3 (le32 body 0), BadEmulator (le32 body 0)) ∷ (nat_le 256 (le32 body 4), EmulatorIndex (le32 body 4)) ∷ []) fine in
    (leb-false 3 (le32 body 0) rows.0, leb-false 256 (le32 body 4) rows.1.0)

pub fine_context : (body : List ℕ) → le32 body 0 < 3 → le32 body 4 < 256 → fault_of_context body ≡ None
unfolding fault_of_context
fine_context body known small =
    no_fault ((nat_le 3 (le32 body 0), BadEmulator (le32 body 0)) ∷ (nat_le 256 (le32 body 4), EmulatorIndex (le32 body 4)) ∷ []) (lt-leb 3 (le32 body 0) known, (lt-leb 256 (le32 body 4) small, tt))

-- ---- what a body that passes says

pub record Said (records : List LibxlRecord) (type len : ℕ) (i : List ℕ) (c : LibxlContent) (rest : List ℕ) : Type 0 where
  pub body : List ℕ
  pub whole : i ≡ body ++ rest
  pub body_len : length body ≡ len
  pub says : HasLibxlContent type body c
  pub fits : EmulatorsFit records c

said_same : (records : List LibxlRecord) (type len : ℕ) (i rest : List ℕ) (c d : LibxlContent) → c ≡ d → Said records type len i c rest → Said records type len i d rest
said_same records type len i rest c d is s = subst (λ (x : LibxlContent). Said records type len i x rest) is s

pairs_say : (records : List LibxlRecord) (len : ℕ) (i : List ℕ) (c : LibxlContent) (rest : List ℕ) → 8 ≤ len → pairs_at (emulators_of records) len i ≡ Passes c rest → Said records 2 len i c rest
pairs_say records len i c rest long h =
    let e = emulators_of records in
    let p = said_passes Truncated (fault_of_pairs e) (λ body. Pairs (emulator_key 258 body) (pairs_in (drop 8 body))) len i c rest h in
    let f = pairs_fine e p.bytes p.fine in
    let whole : take 8 p.bytes ++ drop 8 p.bytes ≡ p.bytes = take-append-drop 8 p.bytes in
    let says : HasLibxlContent 2 (take 8 p.bytes ++ drop 8 p.bytes) (Pairs (emulator_key 258 p.bytes) (pairs_in (drop 8 p.bytes))) =
    pairs (take 8 p.bytes) (drop 8 p.bytes) (emulator_key 258 p.bytes) (pairs_in (drop 8 p.bytes)) (front_is 258 p.bytes (omega (arith, p.size, long)) f.known f.small) ((pairs_are_read (drop 8 p.bytes) (pairs_in (drop 8 p.bytes))).0 (f.pairs, refl)) in
    said_same records 2 len i rest (Pairs (emulator_key 258 p.bytes) (pairs_in (drop 8 p.bytes))) c p.value
    (record { body = p.bytes; whole = p.whole; body_len = p.size; says = subst (λ l. HasLibxlContent 2 l (Pairs (emulator_key 258 p.bytes) (pairs_in (drop 8 p.bytes)))) whole says; fits = f.fits })

context_says : (records : List LibxlRecord) (len : ℕ) (i : List ℕ) (c : LibxlContent) (rest : List ℕ) → 8 ≤ len → context_at len i ≡ Passes c rest → Said records 3 len i c rest
context_says records len i c rest long h =
    let p = said_passes Truncated fault_of_context (λ body. Context (emulator_key 259 body) (drop 8 body)) len i c rest h in
    let f = context_fine p.bytes p.fine in
    let whole : take 8 p.bytes ++ drop 8 p.bytes ≡ p.bytes = take-append-drop 8 p.bytes in
    let says : HasLibxlContent 3 (take 8 p.bytes ++ drop 8 p.bytes) (Context (emulator_key 259 p.bytes) (drop 8 p.bytes)) =
    context (take 8 p.bytes) (drop 8 p.bytes) (emulator_key 259 p.bytes) (front_is 259 p.bytes (omega (arith, p.size, long)) f.0 f.1) in
    said_same records 3 len i rest (Context (emulator_key 259 p.bytes) (drop 8 p.bytes)) c p.value
    (record { body = p.bytes; whole = p.whole; body_len = p.size; says = subst (λ l. HasLibxlContent 3 l (Context (emulator_key 259 p.bytes) (drop 8 p.bytes))) whole says; fits = tt })

-- of a type that is no emulator's and not 1: it is END, without a body, or an optional one
plain_says : (type : ℕ) (body : List ℕ) → FineFields type (length body) → nat_eq type 1 ≡ false → nat_eq type 2 ≡ false → nat_eq type 3 ≡ false → HasLibxlContent type body Nothing
plain_says type body f one two three = by_type (nat_eq type 0) refl
  where
    by_type : (b : Bool) → nat_eq type 0 ≡ b → HasLibxlContent type body Nothing
    by_type true zero =
        let is : type ≡ 0 = eqb-true type 0 zero in
        let none : nat_eq (length body) 0 ≡ true = grind (arith, common_steps, f.allowed, zero) in
        let empty : body ≡ [] = nil_from_length body (eqb-true (length body) 0 none) in
        subst (λ t. HasLibxlContent t body Nothing) (sym is) (subst (λ l. HasLibxlContent 0 l Nothing) (sym empty) ends)
    by_type false some =
        optional type body (grind (arith, common_steps, f.supported, f.known, one, two, three, some))

plain_at_says : (records : List LibxlRecord) (type len : ℕ) (i : List ℕ) (c : LibxlContent) (rest : List ℕ) → FineFields type len → nat_eq type 1 ≡ false → nat_eq type 2 ≡ false → nat_eq type 3 ≡ false
    → skipped_at len i ≡ Passes c rest → Said records type len i c rest
plain_at_says records type len i c rest f one two three h =
    let p = said_passes Truncated (λ _. None) (λ _. Nothing) len i c rest h in
    said_same records type len i rest Nothing c p.value
    (record { body = p.bytes; whole = p.whole; body_len = p.size; says = plain_says type p.bytes (subst (FineFields type) (sym p.size) f) one two three; fits = tt })

body_cases : (records : List LibxlRecord) (type len : ℕ) (i : List ℕ) (c : LibxlContent) (rest : List ℕ) (b d : Bool) → nat_eq type 2 ≡ b → nat_eq type 3 ≡ d → FineFields type len → nat_eq type 1 ≡ false
    → cond b (pairs_at (emulators_of records) len i) (cond d (context_at len i) (skipped_at len i)) ≡ Passes c rest → Said records type len i c rest
body_cases records type len i c rest true d two three f one h =
    let is : type ≡ 2 = eqb-true type 2 two in
    let long : nat_le 8 len ≡ true = grind (arith, common_steps, f.allowed, is) in
    subst (λ t. Said records t len i c rest) (sym is) (pairs_say records len i c rest (leb-true 8 len long) h)
body_cases records type len i c rest false true two three f one h =
    let is : type ≡ 3 = eqb-true type 3 three in
    let long : nat_le 8 len ≡ true = grind (arith, common_steps, f.allowed, is) in
    subst (λ t. Said records t len i c rest) (sym is) (context_says records len i c rest (leb-true 8 len long) h)
body_cases records type len i c rest false false two three f one h = plain_at_says records type len i c rest f one two three h

pub body_says : (records : List LibxlRecord) (type len : ℕ) (i : List ℕ) (c : LibxlContent) (rest : List ℕ) → FineFields type len → nat_eq type 1 ≡ false → body_of_type (emulators_of records) type len i ≡ Passes c rest → Said records type len i c rest
body_says records type len i c rest f one h = body_cases records type len i c rest (nat_eq type 2) (nat_eq type 3) refl refl f one h

-- ---- what is spelled passes

-- a body without fault
goes : (fault : List ℕ → Option Cause) (says : List ℕ → LibxlContent) (body rest : List ℕ) (c : LibxlContent) → fault body ≡ None → says body ≡ c → said_at Truncated fault says (length body) (body ++ rest) ≡ Passes c rest
goes fault says body rest c fine is =
    said_goes Truncated fault says (length body) body rest refl fine ∙ ap (λ x. Passes x rest) is

key_of : (code : ℕ) (front text : List ℕ) (key : PartKey) → IsFront code front key → emulator_key code (front ++ text) ≡ key
key_of code front text key f =
    let id : le32 (front ++ text) 0 ≡ key.key1 = front_field front text 0 f.len (omega arith) ∙ f.id in
    let index : le32 (front ++ text) 4 ≡ key.key2 = front_field front text 4 f.len (omega arith) ∙ f.index in
    rw (id, index, sym f.code_is) refl

behind_front : (code : ℕ) (front text : List ℕ) (key : PartKey) → IsFront code front key → drop 8 (front ++ text) ≡ text
behind_front code front text key f = drop_at front text 8 f.len

-- what is spelled is allowed
pub length_fits : (type : ℕ) (body : List ℕ) (c : LibxlContent) → HasLibxlContent type body c → length body ≤ most_body → nat_eq type 1 ≡ false → FineFields type (length body)
length_fits type body _ (optional _ _ high) small one =
    record { small = small; supported = grind (arith, common_steps, high); known = grind (arith, common_steps, high); allowed = grind (arith, common_steps, high) }
length_fits _ _ _ ends small one = record { small = small; supported = refl; known = refl; allowed = refl }
length_fits _ _ _ (pairs front text key ps f spelled) small one =
    record { small = small; supported = refl; known = refl; allowed = le-leb 8 (length (front ++ text)) (omega (arith, length-append front text, f.len)) }
length_fits _ _ _ (context front bytes key f) small one =
    record { small = small; supported = refl; known = refl; allowed = le-leb 8 (length (front ++ bytes)) (omega (arith, length-append front bytes, f.len)) }

-- a body's record is no LIBXC_CONTEXT
pub has_no_image : (type : ℕ) (body : List ℕ) (c : LibxlContent) → HasLibxlContent type body c → nat_eq type 1 ≡ false
has_no_image type body _ (optional _ _ high) = grind (arith, common_steps, high)
has_no_image _ _ _ ends = refl
has_no_image _ _ _ (pairs front text key ps f spelled) = refl
has_no_image _ _ _ (context front bytes key f) = refl

pub body_goes : (records : List LibxlRecord) (type : ℕ) (body : List ℕ) (c : LibxlContent) (rest : List ℕ) → HasLibxlContent type body c → EmulatorsFit records c → nat_eq type 1 ≡ false → body_of_type (emulators_of records) type (length body) (body ++ rest) ≡ Passes c rest
body_goes records _ body _ rest (optional type _ high) fits one =
    let two : nat_eq type 2 ≡ false = grind (arith, common_steps, high) in
    let three : nat_eq type 3 ≡ false = grind (arith, common_steps, high) in
    rw (two, three) (goes (λ _. None) (λ _. Nothing) body rest Nothing refl refl)
body_goes records _ _ _ rest ends fits one = goes (λ _. None) (λ _. Nothing) [] rest Nothing refl refl
body_goes records _ _ _ rest (pairs front text key ps f spelled) fits one =
    let e = emulators_of records in
    let body = front ++ text in
    let key_is = key_of 258 front text key f in
    let behind = behind_front 258 front text key f in
    let read = (pairs_are_read text ps).1 spelled in
    goes (fault_of_pairs e) (λ b. Pairs (emulator_key 258 b) (pairs_in (drop 8 b))) body rest (Pairs key ps)
    (fine_pairs e body (record {
      pairs = ap pairs_fault behind ∙ read.0;
      known = subst (λ k. k.key1 < 3) (sym key_is) f.known;
      fits = subst (λ n. n ≤ most_pairs) (sym (ap (λ k. length (text_of_map (put_pairs (store_at e.stores k) (pairs_in (drop 8 body))))) key_is ∙ ap (λ l. length (text_of_map (put_pairs (store_at e.stores key) (pairs_in l)))) behind ∙ ap (λ l. length (text_of_map (put_pairs (store_at e.stores key) l))) read.1)) fits;
      small = subst (λ k. k.key2 < 256) (sym key_is) f.small;
    }))
    (ap (λ k. Pairs k (pairs_in (drop 8 body))) key_is ∙ ap (λ l. Pairs key (pairs_in l)) behind ∙ ap (Pairs key) read.1)
body_goes records _ _ _ rest (context front bytes key f) fits one =
    let body = front ++ bytes in
    let key_is = key_of 259 front bytes key f in
    goes fault_of_context (λ b. Context (emulator_key 259 b) (drop 8 b)) body rest (Context key bytes)
    (fine_context body (subst (λ k. k.key1 < 3) (sym key_is) f.known) (subst (λ k. k.key2 < 256) (sym key_is) f.small))
    (ap (λ k. Context k (drop 8 body)) key_is ∙ ap (Context key) (behind_front 259 front bytes key f))
