-- The first 8 bytes of a record fix its type and its length, so records read one after another can be told in one way.
use Rattle.mig_dirtysave.proofs.Common.{◌≡◌, ℕ, ◌+◌, List, [], ◌∷◌, ◌++◌, length, take, drop, true, false, refl, sym, ap, ◌∙◌, arith, append_assoc, append-nil, length-append, take-append-drop, length-take, AllByRecursion, list_any, or_parts, padding_len, IsRecord, Record, AreRecords, HaveNoEnd, length-drop, drop-append-le, eqb-false, little_number, little_from-append, IsCutRecord}
use Rattle.std.proofs.Common.{◌≢◌, ◌==◌}
use Rattle.std.proofs.Math.Seq.{take-append_seam, drop-append_seam}
use Rattle.std.proofs.lemmas.Grind.{common_steps}
use Rattle.mig_bytes.specs.Fields.{le32}

pub type_front : (head more : List ℕ) → length head ≡ 8 → le32 (head ++ more) 0 ≡ le32 head 0
unfolding le32
type_front head more size = little_from-append 4 head more (omega arith)

pub len_front : (head more : List ℕ) → length head ≡ 8 → le32 (head ++ more) 4 ≡ le32 head 4
unfolding le32
len_front head more size = ap (little_number 4) (drop-append-le 4 head more (omega arith)) ∙ little_from-append 4 (drop 4 head) more (omega (arith, length-drop 4 head))

-- ---- a record, and what follows it

module _ (type : ℕ) (body text : List ℕ) (is : IsRecord type body text) where
  behind : (more : List ℕ) → text ++ more ≡ is.head ++ ((body ++ is.padding) ++ more)
  behind more = ap (λ l. l ++ more) is.whole ∙ append_assoc is.head (body ++ is.padding) more

  type_here : (more : List ℕ) → le32 (text ++ more) 0 ≡ type
  type_here more = ap (λ l. le32 l 0) (behind more) ∙ type_front is.head _ is.head_len ∙ is.type_is

  len_here : (more : List ℕ) → le32 (text ++ more) 4 ≡ length body
  len_here more = ap (λ l. le32 l 4) (behind more) ∙ len_front is.head _ is.head_len ∙ is.len_is

  pub record_len : length text ≡ 8 + (length body + padding_len (length body))
  record_len = ap length is.whole ∙ length-append is.head (body ++ is.padding) ∙ omega (arith, is.head_len, is.padded, length-append body is.padding)

-- two lists that begin alike, cut at the same place
pub same_cut : (x y : List ℕ) (more rest : List ℕ) → x ++ more ≡ y ++ rest → length x ≡ length y → (x ≡ y) × (more ≡ rest)
same_cut x y more rest is same = (
  sym (take-append_seam x more) ∙ ap (take (length x)) is ∙ ap (λ n. take n (y ++ rest)) same ∙ take-append_seam y rest,
  sym (drop-append_seam x more) ∙ ap (drop (length x)) is ∙ ap (λ n. drop n (y ++ rest)) same ∙ drop-append_seam y rest,
)

-- records at the same place are of one type and one length
pub record SameRecord (t u : ℕ) (text that more rest : List ℕ) : Type 0 where
  pub same_type : t ≡ u
  pub size : length text ≡ length that
  pub same_text : text ≡ that
  pub same_rest : more ≡ rest

pub same_record : (t u : ℕ) (body that_body text that more rest : List ℕ) → IsRecord t body text → IsRecord u that_body that → text ++ more ≡ that ++ rest → SameRecord t u text that more rest
same_record t u body that_body text that more rest a b is =
    let type : t ≡ u = sym (type_here t body text a more) ∙ ap (λ l. le32 l 0) is ∙ type_here u that_body that b rest in
    let len : length body ≡ length that_body = sym (len_here t body text a more) ∙ ap (λ l. le32 l 4) is ∙ len_here u that_body that b rest in
    let size : length text ≡ length that = record_len t body text a ∙ ap (λ n. 8 + (n + padding_len n)) len ∙ sym (record_len u that_body that b) in
    let cut = same_cut text that more rest is size in
    record { same_type = type; size = size; same_text = cut.0; same_rest = cut.1 }

-- a whole record is no front of a part
pub not_in_part : (t : ℕ) (body text more part : List ℕ) → IsRecord t body text → text ++ more ≡ part → IsCutRecord part → ⊥
not_in_part t body text more part a is p =
    let behind : List ℕ = drop p.n p.text in
    let all : text ++ (more ++ behind) ≡ p.text ++ [] = sym (append_assoc text more behind) ∙ ap (λ l. l ++ behind) (is ∙ p.front) ∙ take-append-drop p.n p.text ∙ sym (append-nil p.text) in
    let same = same_record t p.type body p.body text p.text (more ++ behind) [] a p.is all in
    let size : length text + length more ≡ length (take p.n p.text) = sym (length-append text more) ∙ ap length (is ∙ p.front) in
    omega (arith, size, length-take p.n p.text, same.size, p.less)

-- ---- types, and records that have them

-- records of these types
abbrev pub AreTyped : List ℕ → List ℕ → Type 0
AreTyped [] bytes = bytes ≡ []
AreTyped (t ∷ ts) bytes = (body : List ℕ) × (text : List ℕ) × (rest : List ℕ) × (bytes ≡ text ++ rest) × IsRecord t body text × AreTyped ts rest

-- one more at the end
pub typed_more : (ts : List ℕ) (t : ℕ) (bytes body text : List ℕ) → AreTyped ts bytes → IsRecord t body text → AreTyped (ts ++ t ∷ []) (bytes ++ text)
typed_more [] t bytes body text are is = (body, text, [], ap (λ l. l ++ text) are ∙ sym (append-nil text), is, refl)
typed_more (u ∷ us) t bytes body text are is =
    (are.0, are.1, are.2 ++ text, ap (λ l. l ++ text) are.3 ∙ append_assoc are.1 are.2 text, are.4, typed_more us t are.2 body text are.5 is)

is_zero : (t : ℕ) → t ≢ 0 → (t == 0) ≡ false
is_zero t h = grind (arith, common_steps)

-- Of records that are cut off no front has END.
pub no_end_in_front : (ts : List ℕ) (texts rest : List ℕ) (rs : List Record) (all part : List ℕ) → AreTyped ts texts → list_any (λ t. t == 0) ts ≡ true
    → AreRecords rs all → HaveNoEnd rs → IsCutRecord part → texts ++ rest ≡ all ++ part → ⊥
no_end_in_front [] texts rest rs all part are ended whole none p is = absurd (cc)
no_end_in_front (t ∷ ts) texts rest [] all part are ended whole none p is =
    not_in_part t are.0 are.1 (are.2 ++ rest) part are.4 (sym (append_assoc are.1 are.2 rest) ∙ ap (λ l. l ++ rest) (sym are.3) ∙ is ∙ ap (λ l. l ++ part) whole) p
no_end_in_front (t ∷ ts) texts rest (r ∷ rs) all part are ended whole none p is =
    let same = same_record t r.0 are.0 r.1 are.1 whole.0 (are.2 ++ rest) (whole.1 ++ part) are.4 whole.3
    (sym (append_assoc are.1 are.2 rest) ∙ ap (λ l. l ++ rest) (sym are.3) ∙ is ∙ ap (λ l. l ++ part) whole.2 ∙ append_assoc whole.0 whole.1 part) in
    let other : (t == 0) ≡ false = is_zero t (λ e. none.0 (sym same.same_type ∙ e)) in
    let goes_on : list_any (λ t. t == 0) ts ≡ true = rw other at ended in
    no_end_in_front ts are.2 rest rs whole.1 part are.5 goes_on whole.4 none.1 p same.same_rest

-- ---- END for the first time

-- none of them is END's
abbrev pub HaveNoZero : List ℕ → Type 0
HaveNoZero ts = AllByRecursion (λ (t : ℕ). t ≢ 0) ts

pub no_zero : (ts : List ℕ) → list_any (λ t. t == 0) ts ≡ false → HaveNoZero ts
no_zero [] none = tt
no_zero (t ∷ ts) none = let (first, others) = or_parts (t == 0) (list_any (λ t. t == 0) ts) none in (λ e. eqb-false t 0 first e, no_zero ts others)

-- records up to their first END, told in two ways, end at one place
pub ends_together : (ts : List ℕ) (texts last rest : List ℕ) (rs : List Record) (all that after body that_body : List ℕ) → AreTyped ts texts → HaveNoZero ts → IsRecord 0 body last
    → AreRecords rs all → HaveNoEnd rs → IsRecord 0 that_body that → texts ++ (last ++ rest) ≡ all ++ (that ++ after) → rest ≡ after
ends_together [] texts last rest [] all that after body that_body are none is whole plain is_that same =
    (same_record 0 0 body that_body last that rest after is is_that (ap (λ l. l ++ (last ++ rest)) (sym are) ∙ same ∙ ap (λ l. l ++ (that ++ after)) whole)).same_rest
ends_together [] texts last rest (r ∷ rs) all that after body that_body are none is whole plain is_that same =
    let one = same_record 0 r.0 body r.1 last whole.0 rest (whole.1 ++ (that ++ after)) is whole.3
    (ap (λ l. l ++ (last ++ rest)) (sym are) ∙ same ∙ ap (λ l. l ++ (that ++ after)) whole.2 ∙ append_assoc whole.0 whole.1 (that ++ after)) in
    absurd (plain.0 (sym one.same_type))
ends_together (t ∷ ts) texts last rest [] all that after body that_body are none is whole plain is_that same =
    let one = same_record t 0 are.0 that_body are.1 that (are.2 ++ (last ++ rest)) after are.4 is_that
    (sym (append_assoc are.1 are.2 (last ++ rest)) ∙ ap (λ l. l ++ (last ++ rest)) (sym are.3) ∙ same ∙ ap (λ l. l ++ (that ++ after)) whole) in
    absurd (none.0 one.same_type)
ends_together (t ∷ ts) texts last rest (r ∷ rs) all that after body that_body are none is whole plain is_that same =
    let one = same_record t r.0 are.0 r.1 are.1 whole.0 (are.2 ++ (last ++ rest)) (whole.1 ++ (that ++ after)) are.4 whole.3
    (sym (append_assoc are.1 are.2 (last ++ rest)) ∙ ap (λ l. l ++ (last ++ rest)) (sym are.3) ∙ same ∙ ap (λ l. l ++ (that ++ after)) whole.2 ∙ append_assoc whole.0 whole.1 (that ++ after)) in
    ends_together ts are.2 last rest rs whole.1 that after body that_body are.5 none.1 is whole.4 plain.1 is_that one.same_rest
