-- A libxl stream without its outermost END is no accepted stream, and begins with none.
use Rattle.mig_dirtysave.proofs.Common.{◌==◌, ◌||◌, ◌≡◌, ℕ, ◌≤◌, List, [], ◌∷◌, ◌++◌, length, map, Some, None, refl, sym, ap, subst, ◌∙◌, arith, append_assoc, append-nil, length-append, list_any, option_or, map-append, Spells, no_part, one_more, marker, IsRecord, IsImage, IsUnendedImage, IsUnclosedImage, IsUnended, HasNoStream, ⊎_elim, libxl_ident, IsLibxlRecord, FollowsLibxl, IsWrapped, IsStream, IsCutLibxl}
use Rattle.std.specs.Prelude.{◌⊎◌, true, false, nat_eq}
use mathlib.Core.Logic.{inl, inr}
use Rattle.mig_bytes.specs.Fields.{be64}
use Rattle.mig_restore_form.specs.Stream.{ImageOf}
use Rattle.mig_libxl_form.specs.Content.{LibxlRecord}
use Rattle.mig_libxl_form.specs.Among.{is_libxl_ended, image_in, image_among}
use Rattle.mig_libxl_form.specs.Spelled.IsLibxlRecord.{image as an_image, body as a_body}
use Rattle.mig_libxl_form.specs.Stream.{StreamOf}
use Rattle.mig_libxl_form.specs.Stream.StreamOf.{Bare, Wrapped}
use Rattle.mig_libxl_form.proofs.Bodies.{has_no_image}
use Rattle.mig_dirtysave.proofs.Fronts.{AreTyped, typed_more, no_end_in_front, same_cut, same_record, record_len}
use Rattle.mig_dirtysave.proofs.Images.{first_number, image_len, image_marked, no_image, longer, same_behind}

-- ---- one record of a libxl stream

libxl_types : List LibxlRecord → List ℕ
libxl_types records = map (λ (r : LibxlRecord). r.type) records

-- no record with a body is LIBXC_CONTEXT
not_context : (type : ℕ) → type ≡ 1 → nat_eq type 1 ≡ false → ⊥
not_context type is other = let apart : nat_eq 1 1 ≡ false = subst (λ t. nat_eq t 1 ≡ false) is other in absurd (cc)

-- LIBXC_CONTEXT has an image behind it
has_image : (r : LibxlRecord) (text : List ℕ) → IsLibxlRecord r text → r.type ≡ 1 → (i : ImageOf) × (image_in r.content ≡ Some i)
has_image _ _ (an_image head text i is im) one = (i, refl)
has_image _ _ (a_body type body bytes c is short has) one = absurd (not_context type one (has_no_image type body c has))

-- and any other has a body
has_body : (r : LibxlRecord) (text : List ℕ) → IsLibxlRecord r text → (r.type ≡ 1 → ⊥) → (body : List ℕ) × IsRecord r.type body text
has_body _ _ (an_image head text i is im) other = absurd (other refl)
has_body _ _ (a_body type body bytes c is short has) other = (body, is)

libxl_len : (r : LibxlRecord) (text : List ℕ) → IsLibxlRecord r text → 8 ≤ length text
libxl_len _ _ (an_image head text i is im) = omega (arith, record_len 1 [] head is, length-append head text)
libxl_len _ _ (a_body type body bytes c is short has) = omega (arith, record_len type body bytes is)

-- ---- the records of a libxl stream, from the first on

-- the first record; where it is LIBXC_CONTEXT those behind it are records with a body
record Begins (bytes : List ℕ) (records : List LibxlRecord) : Type 0 where
  first : LibxlRecord
  others : List LibxlRecord
  text : List ℕ
  more : List ℕ
  are : records ≡ first ∷ others
  whole : bytes ≡ text ++ more
  is : IsLibxlRecord first text
  behind : first.type ≡ 1 → AreTyped (libxl_types others) more

begun : (bytes : List ℕ) (records : List LibxlRecord) (r : LibxlRecord) (text : List ℕ) → ((records ≡ []) × (bytes ≡ [])) ⊎ Begins bytes records → FollowsLibxl records r text → Begins (bytes ++ text) (records ++ r ∷ [])
unfolding libxl_types
begun bytes records r text (inl none) f = record {
  first = r;
  others = [];
  text = text;
  more = [];
  are = ap (λ l. l ++ r ∷ []) none.0;
  whole = ap (λ l. l ++ text) none.1 ∙ sym (append-nil text);
  is = f.is;
  behind = λ one. refl;
}
begun bytes records r text (inr b) f = record {
  first = b.first;
  others = b.others ++ r ∷ [];
  text = b.text;
  more = b.more ++ text;
  are = ap (λ l. l ++ r ∷ []) b.are;
  whole = ap (λ l. l ++ text) b.whole ∙ append_assoc b.text b.more text;
  is = b.is;
  behind = λ one.
      let i = has_image b.first b.text b.is one in
      let among : image_among records ≡ Some i.0 = ap image_among b.are ∙ ap (λ o. option_or o (image_among b.others)) i.1 in
      let this = has_body r text f.is (λ again. let none : Some i.0 ≡ None = sym among ∙ f.one_image again in absurd (cc)) in
      subst (λ ts. AreTyped ts (b.more ++ text)) (sym (map-append (λ (q : LibxlRecord). q.type) b.others (r ∷ []))) (typed_more (libxl_types b.others) r.type b.more this.0 text (b.behind one) this.1);
}

begins : (bytes : List ℕ) (records : List LibxlRecord) → Spells FollowsLibxl bytes records → ((records ≡ []) × (bytes ≡ [])) ⊎ Begins bytes records
begins _ _ no_part = inl (refl, refl)
begins _ _ (one_more bytes records r text before follows) = inr (begun bytes records r text (begins bytes records before) follows)

-- ---- what isn't ended

ended_types : (records : List LibxlRecord) → is_libxl_ended records ≡ list_any (λ t. t == 0) (libxl_types records)
unfolding libxl_types
ended_types [] = refl
ended_types (r ∷ records) = ap (λ b. (r.type == 0) || b) (ended_types records)

-- an image, and records behind it that end
ended_behind : (inside more rest : List ℕ) (i : ImageOf) (others : List LibxlRecord) → IsImage inside i.opening i.records (more ++ rest) → AreTyped (libxl_types others) more → is_libxl_ended others ≡ true
    → IsUnclosedImage inside → ⊥
ended_behind inside more rest i others im typed ended u =
    let c = u.cut_off in
    no_end_in_front (libxl_types others) more rest c.records c.texts c.part typed (sym (ended_types others) ∙ ended) c.are c.no_end c.cut (same_behind inside i.opening i.records (more ++ rest) im u ∙ c.whole)

-- the first record, and those behind it that end
ended_first : (first : LibxlRecord) (others : List LibxlRecord) (text more rest context inside : List ℕ) → IsLibxlRecord first text → (first.type ≡ 1 → AreTyped (libxl_types others) more)
    → is_libxl_ended (first ∷ others) ≡ true → IsRecord 1 [] context → text ++ (more ++ rest) ≡ context ++ inside → IsUnendedImage inside ⊎ IsUnclosedImage inside → ⊥
ended_first _ others _ more rest context inside (a_body type body bytes c is short has) behind ended at whole u =
    not_context type (same_record type 1 body [] bytes context (more ++ rest) inside is at whole).same_type (has_no_image type body c has)
ended_first _ others _ more rest context inside (an_image head text i is im) behind ended at whole u =
    let same = same_record 1 1 [] [] head context (text ++ (more ++ rest)) inside is at (sym (append_assoc head text (more ++ rest)) ∙ whole) in
    let here : IsImage inside i.opening i.records (more ++ rest) =
    subst (λ l. IsImage l i.opening i.records (more ++ rest)) same.same_rest (longer text i.opening i.records [] im (more ++ rest)) in
    ⊎_elim (λ (x : IsUnendedImage inside). no_image inside i.opening i.records (more ++ rest) here x)
    (λ (x : IsUnclosedImage inside). ended_behind inside more rest i others here (behind refl) ended x) u

module _ (bytes : List ℕ) (records : List LibxlRecord) (rest : List ℕ) (w : IsWrapped bytes records rest) where
  -- there is a first record
  starts : Begins w.bytes records
  starts = some (begins w.bytes records w.spelled)
    where
      some : ((records ≡ []) × (w.bytes ≡ [])) ⊎ Begins w.bytes records → Begins w.bytes records
      some (inl none) = let ended : is_libxl_ended [] ≡ true = sym (ap is_libxl_ended none.0) ∙ w.ended in absurd (cc)
      some (inr b) = b

  ident_first : be64 bytes 0 ≡ libxl_ident
  ident_first = ap (λ l. be64 l 0) w.whole ∙ first_number w.header (w.bytes ++ rest) (omega (arith, w.is_header.size)) ∙ w.is_header.ident

  wrapped_len : 24 ≤ length bytes
  wrapped_len =
      let b = starts in
      omega (arith, w.is_header.size, libxl_len b.first b.text b.is, ap length w.whole, length-append w.header (w.bytes ++ rest), length-append w.bytes rest, ap length b.whole, length-append b.text b.more)

  not_cut : IsCutLibxl bytes → ⊥
  not_cut u =
      let cut = same_cut w.header u.header (w.bytes ++ rest) (u.context ++ u.inside) (sym w.whole ∙ u.whole) (w.is_header.size ∙ sym u.is_header.size) in
      let b = starts in
      ended_first b.first b.others b.text b.more rest u.context u.inside b.is b.behind (sym (ap is_libxl_ended b.are) ∙ w.ended) u.is_context
      (sym (append_assoc b.text b.more rest) ∙ ap (λ l. l ++ rest) (sym b.whole) ∙ cut.1) u.unended

-- ---- a stream of either form

apart : (n : ℕ) → n ≡ marker → n ≡ libxl_ident → ⊥
apart n a b = omega (arith, a, b)

ident_cut : (bytes : List ℕ) → (u : IsCutLibxl bytes) → be64 bytes 0 ≡ libxl_ident
ident_cut bytes u = ap (λ l. be64 l 0) u.whole ∙ first_number u.header (u.context ++ u.inside) (omega (arith, u.is_header.size)) ∙ u.is_header.ident

no_stream : (bytes : List ℕ) (s : StreamOf) (rest : List ℕ) → IsUnended bytes → IsStream bytes s rest → ⊥
no_stream bytes (Bare i) rest (inl u) is = no_image bytes i.opening i.records rest is u.unended
no_stream bytes (Bare i) rest (inr (inl short)) is = omega (arith, short, image_len bytes i.opening i.records rest is)
no_stream bytes (Bare i) rest (inr (inr u)) is = apart (be64 bytes 0) (image_marked bytes i.opening i.records rest is) (ident_cut bytes u)
no_stream bytes (Wrapped records) rest (inl u) is =
    let long = wrapped_len bytes records rest is in
    apart (be64 bytes 0) (u.marked (omega (arith, long))) (ident_first bytes records rest is)
no_stream bytes (Wrapped records) rest (inr (inl short)) is = omega (arith, short, wrapped_len bytes records rest is)
no_stream bytes (Wrapped records) rest (inr (inr u)) is = not_cut bytes records rest is u

pub unended_has_no_stream : (bytes : List ℕ) → IsUnended bytes → HasNoStream bytes
unended_has_no_stream bytes u guest rest a = no_stream bytes a.stream rest u a.spelled
