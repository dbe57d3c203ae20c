-- How what writers of frames append joins, and what their errors say.
use Rattle.mig_records_pages.proofs.Common.{◌≡◌, ◌≤◌, ◌<◌, ℕ, ◌+◌, ◌-◌, ◌*◌, false, List, ◌∷◌, ◌++◌, length, replicate, take, drop, Option, Result, Ok, Err, sym, ap, subst, ◌∙◌, arith, append-nil, append_assoc, length-append, take-append-add, take-append-le, length-take, Appends, Appends-trans, Appends-nil, little_bytes, AppendsPart, WriteFailed, head_of, spelled, Frame, page_in, pages_of, words_of, body_of}
use Rattle.mig_bytes.proofs.Texts.{flat_more, flat_parted}
use Rattle.mig_bytes.specs.Faults.{FaultHasCause}
use Rattle.mig_records_pages.specs.Copied.{Copies, CopyHasCause}
use Rattle.mig_records_pages.specs.declared.copy_failed.CopyFailed.{CopyFailed}
use Rattle.mig_records_pages.specs.declared.copy_failed.CopyFailed.TheVariants.{Read, Write}
use Rattle.mig_records_pages.proofs.PageTexts.{some_text}

-- ---- a part of a text

pub part_same : (text other : List ℕ) (a b : Option (List ℕ)) → text ≡ other → AppendsPart a b other → AppendsPart a b text
part_same text other a b is p = subst (AppendsPart a b) (sym is) p

pub part_front : (first second : List ℕ) (a b : Option (List ℕ)) → AppendsPart a b first → AppendsPart a b (first ++ second)
part_front first second a b (n, less, p) = (n, omega (arith, length-append first second, less), subst (Appends a b) (sym (take-append-le n first second (omega (arith, less)))) p)

pub part_behind : (first second : List ℕ) (a b c : Option (List ℕ)) → Appends a b first → AppendsPart b c second → AppendsPart a c (first ++ second)
part_behind first second a b c p (n, less, q) =
    (length first + n, omega (arith, length-append first second, less), subst (Appends a c) (sym (take-append-add first second n)) (Appends-trans a b c first (take n second) p q))

-- nothing of a text that isn't empty
pub part_none : (text : List ℕ) (a : Option (List ℕ)) → 0 < length text → AppendsPart a a text
part_none text a some = (0, some, Appends-nil a)

-- of frames up to a place, some more in part
pub part_of_more : (i n count : ℕ) (fs : List Frame) (a b c : Option (List ℕ)) → i + n ≤ count → Appends a b (pages_of (take i fs)) → AppendsPart b c (pages_of (take n (drop i fs))) → AppendsPart a c (pages_of (take count fs))
part_of_more i n count fs a b c le before part =
    part_same _ _ a c (flat_parted page_in i n count fs le) (part_behind _ _ a b c before (part_front (pages_of (take n (drop i fs))) _ b c part))

-- a text, and then another
pub copies_then : {X E : Type 0} (first second : List ℕ) (a b c : Option (List ℕ)) (r : Result X E) → Appends a b first → Copies second b c r → Copies (first ++ second) a c r
copies_then first second a b c (Ok x) p q = Appends-trans a b c first second p q
copies_then first second a b c (Err e) p q = part_behind first second a b c p q

pub copies_same : {X E : Type 0} (text other : List ℕ) (a b : Option (List ℕ)) (r : Result X E) → text ≡ other → Copies other a b r → Copies text a b r
copies_same text other a b r is p = subst (λ t. Copies t a b r) (sym is) p

-- ---- pages in a buffer

-- the page of the first frame
pub first_page : (fs rest : List Frame) (f : Frame) → fs ≡ f ∷ rest → pages_of (take 1 fs) ≡ page_in f
first_page fs rest f is = ap (λ l. pages_of (take 1 l)) is ∙ append-nil (page_in f)

-- behind the pages of the first i frames those of n more
pub pages_gathered : (i n pages more : ℕ) (fs : List Frame) (buf slice rest new : List ℕ) → new ≡ take (4096 * pages) buf ++ (slice ++ rest) → 4096 * pages ≤ length buf → 4096 * more ≤ length slice
    → take (4096 * pages) buf ≡ pages_of (take i fs) → take (4096 * more) slice ≡ pages_of (take n (drop i fs)) → take (4096 * (pages + more)) new ≡ pages_of (take (i + n) fs)
pages_gathered i n pages more fs buf slice rest new put room fits before here =
    let front = take (4096 * pages) buf in
    let size : 4096 * (pages + more) ≡ length front + 4096 * more = omega (arith, length-take (4096 * pages) buf, room) in
    ap (take (4096 * (pages + more))) put ∙ ap (λ m. take m (front ++ (slice ++ rest))) size ∙ take-append-add front (slice ++ rest) (4096 * more)
    ∙ ap (λ l. front ++ l) (take-append-le (4096 * more) slice rest fits) ∙ (λ j. before j ++ here j) ∙ sym (flat_more page_in i n fs)

-- some pages of some of the frames
pub some_of_more : (i n count : ℕ) (fs : List Frame) → i + n ≤ count → 0 < length (pages_of (take n (drop i fs))) → 0 < length (pages_of (take count fs))
some_of_more i n count fs le some =
    let behind = pages_of (take (count - (i + n)) (drop (i + n) fs)) in
    omega (arith, some, ap length (flat_parted page_in i n count fs le), length-append (pages_of (take i fs)) (pages_of (take n (drop i fs)) ++ behind), length-append (pages_of (take n (drop i fs))) behind)

-- ---- causes

-- frames that can be got fail only where a write does
pub kept_cause : (X Y : Type 0) (a b : ℕ) (e : CopyFailed) → CopyHasCause {X = X} a b false (Err e) → FaultHasCause {T = Y} {E = WriteFailed} a b (Err record {})
kept_cause X Y a b Write h = record { later = h.0; failed = h.1; quiet = tt }
kept_cause X Y a b Read h = absurd (cc)

-- ---- a record

pub record_parts : (fs : List Frame) (n pages : ℕ) → n ≤ length fs → length (pages_of (take n fs)) ≡ 4096 * pages
    → spelled 1 (body_of (take n fs)) ≡ (head_of 1 (8 + 8 * n + 4096 * pages) ++ ((little_bytes 4 n ++ replicate 4 0) ++ words_of (take n fs))) ++ pages_of (take n fs)
record_parts fs n pages le len =
    let head = head_of 1 (8 + 8 * n + 4096 * pages) in let front : List ℕ = little_bytes 4 n ++ replicate 4 0 in let words = words_of (take n fs) in let all = pages_of (take n fs) in
    some_text fs n pages le len ∙ ap (λ l. head ++ l) (sym (append_assoc front words all)) ∙ sym (append_assoc head (front ++ words) all)
