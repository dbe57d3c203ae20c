-- What the first bytes of a body tell of its fault.
use Rattle.mig_relay_bodies.proofs.Common.{◌≡◌, ◌≢◌, ℕ, zero, suc, ◌+◌, ◌*◌, ◌<◌, ◌≤◌, true, false, not, nat_eq, nat_lt, List, [], ◌∷◌, ◌++◌, length, take, drop, Option, Some, None, refl, sym, ap, ◌∙◌, arith, length-append, length-drop, eq-eqb, ne_eqb, option_or, common_steps, drop-append-le, ◌/◌, little_number, le32, fault_of_key, fault_of_entry, fault_of_entries, fault_of_table, fault_of_pv_info, fault_of_body, fault_of_content, PartCode, VcpuBasic, VcpuExtended, HvmParam, first_fault, Cause, BadLength, in32, params, most_gdt_entries, get_or, length-take-le, zero-add, get_or_append_left, get_or-take, drop-drop, fault_by_shape, GdtEnts}
use Rattle.std.proofs.Math.Seq.{drop-append-add}
use Rattle.byteorder.specs.Numbers.{little_from-append, little_from-take}
use Rattle.mig_bytes.specs.Fields.{le64}
use Rattle.mig_records.specs.declared.shape.Shape.TheVariants.{Named}

-- ---- numbers in the first bytes

pub number_in : (n : ℕ) (piece more : List ℕ) → n ≤ length piece → little_number n (piece ++ more) ≡ little_number n piece
number_in n piece more less = little_from-append n piece more less

pub number_front : (n m : ℕ) (bytes : List ℕ) → n ≤ m → little_number n (take m bytes) ≡ little_number n bytes
number_front n m bytes less = little_from-take 0 n m bytes (omega (arith, less))

pub first64 : (bytes : List ℕ) → le64 bytes 0 ≡ little_number 8 bytes
unfolding le64
first64 bytes = refl

-- ---- X86_PV_INFO

info_bytes : (piece more : List ℕ) (k : ℕ) → k < 8 → 8 ≤ length piece → get_or (piece ++ more) k 0 ≡ get_or (take 8 piece) k 0
info_bytes piece more k less long = get_or_append_left piece more 0 k (omega (arith, less, long)) ∙ sym (get_or-take 8 piece k 0 less)

pub info_told : (piece more : List ℕ) → 8 ≤ length piece → fault_of_pv_info (piece ++ more) ≡ fault_of_pv_info (take 8 piece)
info_told piece more long = rw (info_bytes piece more 0 (omega arith) long, info_bytes piece more 1 (omega arith) long) refl

-- ---- vCPUs

id_part : (code : PartCode) (body : List ℕ) → 8 ≤ length body → fault_by_shape (Named 0 4 true) code body ≡ option_or (fault_of_key code (little_number 4 body) 0) (fault_of_content code (drop 8 body))
id_part code body long = let e : nat_lt (length body) 8 ≡ false = grind (arith, common_steps, long) in rw e refl

id_same : (piece more : List ℕ) → 8 ≤ length piece → little_number 4 (piece ++ more) ≡ little_number 4 (take 8 piece)
id_same piece more long = number_in 4 piece more (omega (arith, long)) ∙ sym (number_front 4 8 piece (omega arith))

-- nothing is left
pub none_left : (xs : List ℕ) → length xs ≡ 0 → xs ≡ []
none_left [] none = refl
none_left (x ∷ xs) none = absurd (omega (arith, none))

pub or_none : (o : Option Cause) → option_or o None ≡ o
or_none None = refl
or_none (Some c) = refl

pub or_assoc : (a b c : Option Cause) → option_or a (option_or b c) ≡ option_or (option_or a b) c
or_assoc None b c = refl
or_assoc (Some a) b c = refl

-- of a record whose part is not asked, the id decides
pub other_told : (piece more : List ℕ) → 8 ≤ length piece → fault_of_body VcpuExtended (piece ++ more) ≡ fault_of_body VcpuExtended (take 8 piece)
other_told piece more long =
    id_part VcpuExtended (piece ++ more) (omega (arith, long, length-append piece more))
    ∙ ap (λ k. option_or (fault_of_key VcpuExtended k 0) None) (id_same piece more long)
    ∙ sym (id_part VcpuExtended (take 8 piece) (omega (arith, length-take-le 8 piece long)))

-- of one with a context the number of its GDT entries is asked, too
pub basic_told : (piece more : List ℕ) → 8 ≤ length piece
    → fault_of_body VcpuBasic (piece ++ more) ≡ option_or (fault_of_body VcpuBasic (take 8 piece)) (fault_of_content VcpuBasic (drop 8 (piece ++ more)))
basic_told piece more long =
    id_part VcpuBasic (piece ++ more) (omega (arith, long, length-append piece more))
    ∙ ap (λ o. option_or o (fault_of_content VcpuBasic (drop 8 (piece ++ more))))
    (ap (λ k. fault_of_key VcpuBasic k 0) (id_same piece more long) ∙ sym alone)
  where
    size : length (take 8 piece) ≡ 8
    size = length-take-le 8 piece long

    alone : fault_of_body VcpuBasic (take 8 piece) ≡ fault_of_key VcpuBasic (little_number 4 (take 8 piece)) 0
    alone = id_part VcpuBasic (take 8 piece) (omega (arith, size))
        ∙ ap (λ l. option_or (fault_of_key VcpuBasic (little_number 4 (take 8 piece)) 0) (fault_of_content VcpuBasic l)) (none_left (drop 8 (take 8 piece)) (omega (arith, length-drop 8 (take 8 piece), size)))
        ∙ or_none (fault_of_key VcpuBasic (little_number 4 (take 8 piece)) 0)

-- ---- the number of GDT entries, at byte 4968 of the body

gdt_at : (front piece : List ℕ) → length front ≡ 4096 → le64 (drop 8 (front ++ piece)) 4960 ≡ le64 piece 872
unfolding le64
gdt_at front piece size =
    ap (little_number 8) (drop-drop 4960 8 (front ++ piece)) ∙ ap (λ n. little_number 8 (drop n (front ++ piece))) (let e : 4968 ≡ length front + 872 = omega (arith, size) in e) ∙ ap (little_number 8) (drop-append-add front piece 872)

gdt_told : (front piece : List ℕ) → length front ≡ 4096 → length piece ≡ 1080 → fault_of_content VcpuBasic (drop 8 (front ++ piece)) ≡ first_fault ((nat_lt most_gdt_entries (le64 piece 872), GdtEnts (le64 piece 872)) ∷ [])
gdt_told front piece size rest =
    let whole : nat_eq (length (drop 8 (front ++ piece))) 5168 ≡ true = eq-eqb (length (drop 8 (front ++ piece))) 5168 (omega (arith, length-drop 8 (front ++ piece), length-append front piece, size, rest)) in
    rw (whole, gdt_at front piece size) refl

pub many_entries : (front piece : List ℕ) (n : ℕ) → length front ≡ 4096 → length piece ≡ 1080 → n ≡ le64 piece 872 → most_gdt_entries < n → Some (GdtEnts n) ≡ fault_of_content VcpuBasic (drop 8 (front ++ piece))
many_entries front piece n size rest is many = grind (arith, common_steps, is, many) ∙ sym (gdt_told front piece size rest)

pub few_entries : (front piece : List ℕ) (n : ℕ) → length front ≡ 4096 → length piece ≡ 1080 → n ≡ le64 piece 872 → n ≤ most_gdt_entries → None ≡ fault_of_content VcpuBasic (drop 8 (front ++ piece))
few_entries front piece n size rest is few = grind (arith, common_steps, is, few) ∙ sym (gdt_told front piece size rest)

-- ---- HVM parameters

abbrev entries : ℕ → List ℕ → Option Cause
entries n bytes = fault_of_entries HvmParam params n bytes

entry_in : (xs ys : List ℕ) → 16 ≤ length xs → fault_of_entry HvmParam params (xs ++ ys) ≡ fault_of_entry HvmParam params xs
entry_in xs ys long = ap (λ k. fault_of_key HvmParam k 0) (number_in 8 xs ys (omega (arith, long)))

-- entries behind others
pub entries_in : (n m : ℕ) (xs ys : List ℕ) → length xs ≡ 16 * n → entries (n + m) (xs ++ ys) ≡ option_or (entries n xs) (entries m ys)
entries_in zero m xs ys size = ap (λ k. entries k (xs ++ ys)) (zero-add m) ∙ ap (λ l. entries m (l ++ ys)) (none_left xs (omega (arith, size)))
entries_in (suc n) m xs ys size =
    ap (λ k. entries k (xs ++ ys)) (let e : suc n + m ≡ suc (n + m) = omega arith in e)
    ∙ ap (λ o. option_or o (entries (n + m) (drop 16 (xs ++ ys)))) (entry_in xs ys (omega (arith, size)))
    ∙ ap (λ l. option_or (fault_of_entry HvmParam params xs) (entries (n + m) l)) (drop-append-le 16 xs ys (omega (arith, size)))
    ∙ ap (λ o. option_or (fault_of_entry HvmParam params xs) o) (entries_in n m (drop 16 xs) ys (omega (arith, length-drop 16 xs, size)))
    ∙ or_assoc (fault_of_entry HvmParam params xs) (entries n (drop 16 xs)) (entries m ys)

pub count_of : (bytes : List ℕ) (n : ℕ) → length bytes ≡ 16 * n → length bytes / 16 ≡ n
count_of bytes n size = omega (arith, size)

-- a body whose first 4 bytes say so many
abbrev asked : ℕ → ℕ → Option Cause
asked len count = first_fault ((not (nat_eq len (8 + 16 * count)), BadLength len) ∷ [])

table_at : (count : ℕ) (piece more : List ℕ) → 8 ≤ length piece → count ≡ le32 piece 0 → fault_of_table HvmParam params (piece ++ more) ≡ option_or (asked (length (piece ++ more)) count) (entries count (drop 8 piece ++ more))
table_at count piece more long is =
    ap (λ n. option_or (asked (length (piece ++ more)) n) (entries n (drop 8 (piece ++ more)))) (in32 piece more 0 (omega (arith, long)) ∙ sym is)
    ∙ ap (λ l. option_or (asked (length (piece ++ more)) count) (entries count l)) (drop-append-le 8 piece more long)

-- it has another length
pub params_misfit : (len count : ℕ) (piece more : List ℕ) → 8 ≤ length piece → count ≡ le32 piece 0 → len ≢ 8 + 16 * count → length (piece ++ more) ≡ len → fault_of_table HvmParam params (piece ++ more) ≡ Some (BadLength len)
params_misfit len count piece more long is other whole =
    table_at count piece more long is ∙ ap (λ n. option_or (asked n count) (entries count (drop 8 piece ++ more))) whole
    ∙ (let e : nat_eq len (8 + 16 * count) ≡ false = ne_eqb len (8 + 16 * count) other in rw e refl)

-- k of its entries stand in the piece
pub params_told : (len count k m : ℕ) (piece more : List ℕ) → 8 ≤ length piece → count ≡ le32 piece 0 → len ≡ 8 + 16 * count → count ≡ k + m → length piece ≡ 8 + 16 * k → length (piece ++ more) ≡ len
    → fault_of_table HvmParam params (piece ++ more) ≡ option_or (entries k (drop 8 piece)) (entries (length more / 16) more)
params_told len count k m piece more long is fits cut size whole =
    table_at count piece more long is ∙ ap (λ n. option_or (asked n count) (entries count (drop 8 piece ++ more))) whole
    ∙ (let e : nat_eq len (8 + 16 * count) ≡ true = eq-eqb len (8 + 16 * count) fits in rw e refl)
    ∙ ap (λ n. entries n (drop 8 piece ++ more)) cut
    ∙ entries_in k m (drop 8 piece) more (omega (arith, length-drop 8 piece, size))
    ∙ ap (λ n. option_or (entries k (drop 8 piece)) (entries n more)) (sym (count_of more m (omega (arith, length-append piece more, whole, size, fits, cut))))

-- k of the entries that are left stand in the next piece
pub params_further : (first : Option Cause) (k m : ℕ) (piece more : List ℕ) → length piece ≡ 16 * k → length more ≡ 16 * m
    → option_or first (entries (length (piece ++ more) / 16) (piece ++ more)) ≡ option_or (option_or first (entries k piece)) (entries (length more / 16) more)
params_further first k m piece more size rest =
    ap (λ n. option_or first (entries n (piece ++ more))) (count_of (piece ++ more) (k + m) (omega (arith, length-append piece more, size, rest)))
    ∙ ap (λ o. option_or first o) (entries_in k m piece more size)
    ∙ or_assoc first (entries k piece) (entries m more)
    ∙ ap (λ n. option_or (option_or first (entries k piece)) (entries n more)) (sym (count_of more m rest))
