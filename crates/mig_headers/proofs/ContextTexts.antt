-- A chain without fault is one that is spelled as entries and END.
use Rattle.std.proofs.Common.{◌≡◌, ◌⊎◌, inl, inr, ℕ, ◌+◌, ◌-◌, ◌<◌, ◌≤◌, List, [], ◌∷◌, ◌++◌, length, take, drop, replicate, get_or, Some, None, Ok, Bool, true, false, not, nat_eq, nat_lt, is_some, refl, sym, ap, subst, ◌∙◌, arith, append_assoc, append-nil, length-append, length-take-le, length-drop, take-append-drop, drop-drop, eqb-true, ltb-false}
use Rattle.mig_headers.proofs.Common.{◌&&◌, common_steps, here, next}
use Rattle.std.proofs.Math.Seq.{take-add, take-append_seam, drop-append-add}
use Rattle.std.proofs.Math.ListN.{get_or-append}
use Rattle.std.proofs.lemmas.List.{get_or-drop}
use Rattle.byteorder.specs.Endian.{little_number}
use Rattle.std.proofs.lemmas.Bool.{and_right, not-false}
use Rattle.mig_bytes.specs.Fields.{le16, le32}
use Rattle.mig_headers.specs.Contexts.{ChainTo, cut_at, scan, fault_at, is_last, entry_end, after_entry, ContextEntry, IsEntryHead, AreContextEntries, BeginsWithHeader, IsContext, ContextsAreSpelled}
use Rattle.mig_headers.proofs.Chains.{Sound, sound_of, fine_of, chain_more, scan_is, scan_found, end_fits, gone, none_of, not_last, not_first, and_false, then_false, le_false, lt_false}

-- ---- fields of bytes that stand between others

pub past16 : (front xs : List ℕ) (k : ℕ) → le16 (front ++ xs) (length front + k) ≡ le16 xs k
unfolding le16
past16 front xs k = ap (little_number 2) (drop-append-add front xs k)

pub past32 : (front xs : List ℕ) (k : ℕ) → le32 (front ++ xs) (length front + k) ≡ le32 xs k
unfolding le32
past32 front xs k = ap (little_number 4) (drop-append-add front xs k)

pub byte_in : (head xs : List ℕ) (k i : ℕ) → k + i < length head → get_or (drop k (head ++ xs)) i 0 ≡ get_or (drop k head) i 0
byte_in head xs k i less = get_or-drop k (head ++ xs) i 0 ∙ get_or-append head xs 0 (k + i) less ∙ sym (get_or-drop k head i 0)

pub in16 : (head xs : List ℕ) (k : ℕ) → k + 2 ≤ length head → le16 (head ++ xs) k ≡ le16 head k
unfolding le16
in16 head xs k less = rw (byte_in head xs k 0 (omega arith), byte_in head xs k 1 (omega arith)) refl

pub in32 : (head xs : List ℕ) (k : ℕ) → k + 4 ≤ length head → le32 (head ++ xs) k ≡ le32 head k
unfolding le32
in32 head xs k less = rw (byte_in head xs k 0 (omega arith), byte_in head xs k 1 (omega arith), byte_in head xs k 2 (omega arith), byte_in head xs k 3 (omega arith)) refl

dropped16 : (xs : List ℕ) (s k : ℕ) → le16 (drop s xs) k ≡ le16 xs (s + k)
unfolding le16
dropped16 xs s k = ap (little_number 2) (drop-drop k s xs)

dropped32 : (xs : List ℕ) (s k : ℕ) → le32 (drop s xs) k ≡ le32 xs (s + k)
unfolding le32
dropped32 xs s k = ap (little_number 4) (drop-drop k s xs)

-- the head of the entry at s, and its fields
first16 : (xs : List ℕ) (s k : ℕ) → k + 2 ≤ 8 → s + 8 ≤ length xs → le16 (take 8 (drop s xs)) k ≡ le16 xs (s + k)
first16 xs s k less fits =
    sym (in16 (take 8 (drop s xs)) (drop 8 (drop s xs)) k (omega (arith, length-take-le 8 (drop s xs) (omega (arith, length-drop s xs)))))
    ∙ ap (λ l. le16 l k) (take-append-drop 8 (drop s xs)) ∙ dropped16 xs s k

first32 : (xs : List ℕ) (s k : ℕ) → k + 4 ≤ 8 → s + 8 ≤ length xs → le32 (take 8 (drop s xs)) k ≡ le32 xs (s + k)
first32 xs s k less fits =
    sym (in32 (take 8 (drop s xs)) (drop 8 (drop s xs)) k (omega (arith, length-take-le 8 (drop s xs) (omega (arith, length-drop s xs)))))
    ∙ ap (λ l. le32 l k) (take-append-drop 8 (drop s xs)) ∙ dropped32 xs s k

-- ---- what is spelled is found

not_zero : (n m : ℕ) → n ≡ m → (m ≡ 0 → ⊥) → nat_eq n 0 ≡ false
not_zero n m is other = which (nat_eq n 0) refl
  where
    which : (b : Bool) → nat_eq n 0 ≡ b → nat_eq n 0 ≡ false
    which true none = absurd (other (sym is ∙ eqb-true n 0 none))
    which false some = some

when_equal : (o n m : ℕ) → (o ≡ 0 → n ≡ m) → (nat_eq o 0 && not (nat_eq n m)) ≡ false
when_equal o n m is = and_false (nat_eq o 0) (not (nat_eq n m)) (λ z. rw (is (eqb-true o 0 z), same m) refl)
  where
    same : (k : ℕ) → nat_eq k k ≡ true
    same k = grind (arith, common_steps)

-- an entry behind others, and what follows it
module _ (bytes front head content rest : List ℕ) (e : ContextEntry) (is : bytes ≡ front ++ (head ++ (content ++ rest))) (shown : IsEntryHead head e) (same : content ≡ e.content) where
  size : length bytes ≡ length front + 8 + length content + length rest
  size = ap length is ∙ length-append front (head ++ (content ++ rest)) ∙ omega (arith, length-append head (content ++ rest), length-append content rest, shown.size)

  field16 : (k : ℕ) → k + 2 ≤ 8 → le16 bytes (length front + k) ≡ le16 head k
  field16 k less = ap (λ l. le16 l (length front + k)) is ∙ past16 front (head ++ (content ++ rest)) k ∙ in16 head (content ++ rest) k (omega (arith, shown.size, less))

  field32 : le32 bytes (length front + 4) ≡ length content
  field32 = ap (λ l. le32 l (length front + 4)) is ∙ past32 front (head ++ (content ++ rest)) 4 ∙ in32 head (content ++ rest) 4 (omega (arith, shown.size)) ∙ shown.len ∙ ap length (sym same)

  typecode_is : le16 bytes (length front) ≡ e.typecode
  typecode_is = ap (le16 bytes) (let z : length front ≡ length front + 0 = omega arith in z) ∙ field16 0 (omega arith) ∙ shown.typecode

  at_start : length front ≡ 0 → le16 bytes 0 ≡ e.typecode
  at_start none = ap (le16 bytes) (sym none) ∙ typecode_is

  len_at_start : length front ≡ 0 → le32 bytes 4 ≡ length content
  len_at_start none = ap (le32 bytes) (let z : 4 ≡ length front + 4 = omega (arith, none) in z) ∙ field32

  sound : (length front ≡ 0 → (e.typecode ≡ 1) × (length e.content ≡ 24)) → Sound bytes (length front)
  sound header = record {
    r1 = rw (le_false (length bytes) (length front) (omega (arith, size))) refl;
    r2 = le_false (length bytes) (length front) (omega (arith, size));
    r3 = lt_false (length bytes) (length front + 8) (omega (arith, size));
    r4 = when_equal (length front) (le16 bytes 0) 1 (λ none. at_start none ∙ (header none).0);
    r5 = when_equal (length front) (le32 bytes 4) 24 (λ none. len_at_start none ∙ ap length same ∙ (header none).1);
    r6 = and_right _ _ (lt_false (length bytes) (entry_end bytes (length front)) (omega (arith, size, field32)));
  }

joined : (a b c d e : List ℕ) → a ++ ((b ++ (c ++ d)) ++ e) ≡ (a ++ (b ++ c)) ++ (d ++ e)
joined a b c d e = rw (append_assoc, append_assoc, append_assoc, append_assoc) refl

-- the chain goes on behind entries
walked : (es : List ContextEntry) (bytes front before tail : List ℕ) → AreContextEntries before es → bytes ≡ front ++ (before ++ tail) → ChainTo bytes (length front) → (length front ≡ 0 → BeginsWithHeader es) → ChainTo bytes (length front + length before)
walked [] bytes front before tail none is chain header = subst (ChainTo bytes) (let z : length front ≡ length front + length before = omega (arith, ap length none) in z) chain
walked (e ∷ es) bytes front before tail (head, rest, whole, shown, other, more) is chain header =
    let here_is : bytes ≡ front ++ (head ++ (e.content ++ (rest ++ tail))) = is ∙ ap (λ l. front ++ (l ++ tail)) whole ∙ ap (λ l. front ++ l) (append_assoc head (e.content ++ rest) tail) ∙ ap (λ l. front ++ (head ++ l)) (append_assoc e.content rest tail) in
    let fine = fine_of bytes (length front) (sound bytes front head e.content (rest ++ tail) e here_is shown refl header) in
    let goes = not_zero (le16 bytes (length front)) e.typecode (typecode_is bytes front head e.content (rest ++ tail) e here_is shown refl) other in
    let step : length (front ++ (head ++ e.content)) ≡ entry_end bytes (length front) =
    omega (arith, length-append front (head ++ e.content), length-append head e.content, shown.size, field32 bytes front head e.content (rest ++ tail) e here_is shown refl) in
    let more_is : bytes ≡ (front ++ (head ++ e.content)) ++ (rest ++ tail) = is ∙ ap (λ l. front ++ (l ++ tail)) whole ∙ joined front head e.content rest tail in
    let further = walked es bytes (front ++ (head ++ e.content)) rest tail more more_is (chain_more bytes (length front) (length (front ++ (head ++ e.content))) chain fine goes step) (λ none. absurd (behind none)) in
    subst (ChainTo bytes) (omega (arith, length-append front (head ++ e.content), ap length whole, length-append head (e.content ++ rest), length-append e.content rest, length-append head e.content)) further
  where
    behind : length (front ++ (head ++ e.content)) ≡ 0 → ⊥
    behind none = omega (arith, none, length-append front (head ++ e.content), length-append head e.content, shown.size)

some_entry : (es : List ContextEntry) (before : List ℕ) → AreContextEntries before es → BeginsWithHeader es → 0 < length before
some_entry [] before h header = absurd header
some_entry (e ∷ es) before (head, rest, whole, shown, other, more) header = omega (arith, ap length whole, length-append head (e.content ++ rest), shown.size)

found : (bytes : List ℕ) (es : List ContextEntry) (c : IsContext bytes es) → scan bytes ≡ Ok (length c.before)
found bytes es c =
    let o = length c.before in
    let chain = walked es bytes [] c.before (c.end ++ c.behind) c.each c.whole here (λ none. c.header) in
    let some = some_entry es c.before c.each c.header in
    let size : length bytes ≡ length c.before + 8 + length c.behind = ap length c.whole ∙ omega (arith, length-append c.before (c.end ++ c.behind), length-append c.end c.behind, c.end_size) in
    let first : nat_eq (length c.before) 0 ≡ false = not_zero (length c.before) (length c.before) refl (λ none. omega (arith, none, some)) in
    let ends : le16 bytes (length c.before) ≡ 0 = ap (λ l. le16 l (length c.before)) c.whole ∙ ap (le16 (c.before ++ (c.end ++ c.behind))) (let z : length c.before ≡ length c.before + 0 = omega arith in z)
    ∙ past16 c.before (c.end ++ c.behind) 0 ∙ in16 c.end c.behind 0 (omega (arith, c.end_size)) ∙ c.end_typecode in
    let last : is_last bytes (length c.before) ≡ true = ap (λ n. nat_eq n 0) ends in
    let now : Sound bytes (length c.before) = record {
      r1 = and_right _ _ first;
      r2 = le_false (length bytes) (length c.before) (omega (arith, size));
      r3 = lt_false (length bytes) (length c.before + 8) (omega (arith, size));
      r4 = rw first refl;
      r5 = rw first refl;
      r6 = rw last refl;
    } in
    let start : ChainTo bytes (length c.before) = subst (ChainTo bytes) (omega arith) chain in
    sym (scan_is bytes (Ok (length c.before)) (start, fine_of bytes (length c.before) now, last))

-- ---- what is found is spelled

-- one entry behind others
one_more : (es : List ContextEntry) (before head : List ℕ) (e : ContextEntry) → AreContextEntries before es → IsEntryHead head e → (e.typecode ≡ 0 → ⊥) → AreContextEntries (before ++ (head ++ e.content)) (es ++ e ∷ [])
one_more [] before head e none shown other = (head, [], ap (λ l. l ++ (head ++ e.content)) none ∙ ap (λ l. head ++ l) (sym (append-nil e.content)), shown, other, refl)
one_more (x ∷ es) before head e (first, rest, whole, is, ends, more) shown other =
    (first, rest ++ (head ++ e.content), ap (λ l. l ++ (head ++ e.content)) whole ∙ append_assoc first (x.content ++ rest) (head ++ e.content) ∙ ap (λ l. first ++ l) (append_assoc x.content rest (head ++ e.content)), is, ends, one_more es rest head e more shown other)

begins_more : (es : List ContextEntry) (e : ContextEntry) → BeginsWithHeader es → BeginsWithHeader (es ++ e ∷ [])
begins_more [] e h = absurd h
begins_more (x ∷ es) e h = h

-- the entries up to s; there are some but at the start
record Spelt (bytes : List ℕ) (s : ℕ) : Type 0 where
  fits : s ≤ length bytes
  es : List ContextEntry
  each : AreContextEntries (take s bytes) es
  header : ((s ≡ 0) × (es ≡ [])) ⊎ BeginsWithHeader es

cut_off : (xs : List ℕ) (s t : ℕ) → t ≡ s + 8 + le32 xs (s + 4) → take t xs ≡ take s xs ++ (take 8 (drop s xs) ++ take (le32 xs (s + 4)) (drop (s + 8) xs))
cut_off xs s t is =
    ap (λ n. take n xs) (let z : t ≡ s + (8 + le32 xs (s + 4)) = omega (arith, is) in z) ∙ take-add s (8 + le32 xs (s + 4)) xs
    ∙ ap (λ l. take s xs ++ l) (take-add 8 (le32 xs (s + 4)) (drop s xs) ∙ ap (λ l. take 8 (drop s xs) ++ take (le32 xs (s + 4)) l) (drop-drop 8 s xs))

abbrev entry_at : List ℕ → ℕ → ContextEntry
entry_at xs s = record { typecode = le16 xs s; instance = le16 xs (s + 2); content = take (le32 xs (s + 4)) (drop (s + 8) xs) }

steps : (bytes : List ℕ) (s t : ℕ) → after_entry bytes s ≡ Some t → (fault_at bytes s ≡ None) × (is_last bytes s ≡ false) × (entry_end bytes s ≡ t)
unfolding after_entry
steps bytes s t goes =
    let h = gone (is_some (fault_at bytes s)) (is_last bytes s) (entry_end bytes s) t goes in
    (none_of (fault_at bytes s) h.0, not_last (is_some (fault_at bytes s)) (is_last bytes s) (entry_end bytes s) t goes, h.1)

module _ (bytes : List ℕ) (s t : ℕ) (fine : fault_at bytes s ≡ None) (goes : is_last bytes s ≡ false) (is : entry_end bytes s ≡ t) where
  room : (s + 8 ≤ length bytes) × (t ≤ length bytes)
  room =
      let was = sound_of bytes s fine in
      let long : nat_lt (length bytes) (entry_end bytes s) ≡ false = (rw goes at was.r6) in
      (ltb-false (length bytes) (s + 8) was.r3, omega (arith, ltb-false (length bytes) (entry_end bytes s) long, is))

  head_is : IsEntryHead (take 8 (drop s bytes)) (entry_at bytes s)
  head_is = record {
    size = length-take-le 8 (drop s bytes) (omega (arith, length-drop s bytes, room.0));
    typecode = first16 bytes s 0 (omega arith) room.0 ∙ ap (le16 bytes) (let z : s + 0 ≡ s = omega arith in z);
    instance = first16 bytes s 2 (omega arith) room.0;
    len = first32 bytes s 4 (omega arith) room.0 ∙ sym (length-take-le (le32 bytes (s + 4)) (drop (s + 8) bytes) (omega (arith, length-drop (s + 8) bytes, room.1, is)));
  }

  begins : (es : List ContextEntry) → ((s ≡ 0) × (es ≡ [])) ⊎ BeginsWithHeader es → BeginsWithHeader (es ++ entry_at bytes s ∷ [])
  begins es (inl (start, none)) =
      let was = sound_of bytes s fine in
      let zero : nat_eq s 0 ≡ true = rw start refl in
      subst (λ l. BeginsWithHeader (l ++ entry_at bytes s ∷ [])) (sym none) (
        ap (le16 bytes) start ∙ equal (le16 bytes 0) 1 (then_false (nat_eq s 0) _ was.r4 zero),
        length-take-le (le32 bytes (s + 4)) (drop (s + 8) bytes) (omega (arith, length-drop (s + 8) bytes, room.1, is)) ∙ ap (λ n. le32 bytes (n + 4)) start ∙ equal (le32 bytes 4) 24 (then_false (nat_eq s 0) _ was.r5 zero),
      )
    where
      equal : (n m : ℕ) → not (nat_eq n m) ≡ false → n ≡ m
      equal n m h = eqb-true n m (not-false (nat_eq n m) h)
  begins es (inr header) = begins_more es (entry_at bytes s) header

  spelt_more : Spelt bytes s → Spelt bytes t
  spelt_more so = record {
    fits = room.1;
    es = so.es ++ entry_at bytes s ∷ [];
    each = subst (λ l. AreContextEntries l (so.es ++ entry_at bytes s ∷ [])) (sym (cut_off bytes s t (sym is))) (one_more so.es (take s bytes) (take 8 (drop s bytes)) (entry_at bytes s) so.each head_is (λ none. cc));
    header = inr (begins so.es so.header);
  }

spelt : (bytes : List ℕ) (s : ℕ) → ChainTo bytes s → Spelt bytes s
spelt bytes _ here = record { fits = omega arith; es = []; each = refl; header = inl (refl, refl) }
spelt bytes _ (next s t reached goes) = let (fine, other, is) = steps bytes s t goes in spelt_more bytes s t fine other is (spelt bytes s reached)

is_spelled : (bytes : List ℕ) (o : ℕ) → scan bytes ≡ Ok o → (es : List ContextEntry) × (c : IsContext bytes es) × (length c.before ≡ o)
is_spelled bytes o h =
    let at = scan_found bytes o h in
    let so = spelt bytes o at.0 in
    let room = end_fits bytes o h in
    let size : length (drop o bytes) ≡ length bytes - o = length-drop o bytes in
    let shown : bytes ≡ take o bytes ++ (take 8 (drop o bytes) ++ drop 8 (drop o bytes)) =
    sym (take-append-drop o bytes) ∙ ap (λ l. take o bytes ++ l) (sym (take-append-drop 8 (drop o bytes))) in (
      so.es,
      record {
        before = take o bytes;
        end = take 8 (drop o bytes);
        behind = drop 8 (drop o bytes);
        whole = shown;
        each = so.each;
        header = some_header bytes o at.1 at.2 so.es so.header;
        end_size = length-take-le 8 (drop o bytes) (omega (arith, size, room));
        end_typecode = first16 bytes o 0 (omega arith) room ∙ ap (le16 bytes) (let z : o + 0 ≡ o = omega arith in z) ∙ eqb-true (le16 bytes o) 0 at.2;
      },
      length-take-le o bytes (omega (arith, room)),
    )
  where
    some_header : (bytes : List ℕ) (o : ℕ) → fault_at bytes o ≡ None → is_last bytes o ≡ true → (es : List ContextEntry) → ((o ≡ 0) × (es ≡ [])) ⊎ BeginsWithHeader es → BeginsWithHeader es
    some_header bytes o fine last es (inr header) = header
    some_header bytes o fine last es (inl (start, none)) =
        let later : nat_eq o 0 ≡ false = not_first bytes o (sound_of bytes o fine) last (nat_eq o 0) refl in
        let first : nat_eq o 0 ≡ true = rw start refl in
        let apart : ◌≡◌ {A = Bool} true false = sym first ∙ later in
        cc

pub contexts_are_spelled : ContextsAreSpelled
contexts_are_spelled bytes o = (is_spelled bytes o, λ s. found bytes s.0 s.1 ∙ ap Ok s.2)

-- a chain that is cut at its end is a chain with this end
pub scan_cut : (bytes : List ℕ) (o : ℕ) → scan bytes ≡ Ok o → scan (cut_at bytes o) ≡ Ok o
scan_cut bytes o h =
    let (es, c, size) = is_spelled bytes o h in
    let same : take o bytes ≡ c.before = ap (λ n. take n bytes) (sym size) ∙ ap (take (length c.before)) c.whole ∙ take-append_seam c.before (c.end ++ c.behind) in
    let cut : IsContext (cut_at bytes o) es = record {
      before = c.before;
      end = replicate 8 0;
      behind = [];
      whole = ap (λ l. l ++ replicate 8 0) same;
      each = c.each;
      header = c.header;
      end_size = refl;
      end_typecode = unfold le16 in refl;
    } in
    found (cut_at bytes o) es cut ∙ ap Ok size
