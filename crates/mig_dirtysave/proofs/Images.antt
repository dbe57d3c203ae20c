-- An image without its END is no image, and begins with none.
use Rattle.mig_dirtysave.proofs.Common.{◌==◌, ◌||◌, list_any, eqb-true, ◌≡◌, ℕ, ◌≤◌, List, [], ◌∷◌, ◌++◌, length, refl, sym, ap, subst, ◌∙◌, arith, append_assoc, length-append, map-append, Spells, no_part, one_more, marker, IsRecord, IsImage, IsUnendedImage, IsUnclosedImage, big_from-append, Follows}
use mathlib.Core.Logic.{inl, inr}
use Rattle.std.specs.Prelude.{Bool, true, false}
use Rattle.std.proofs.lemmas.List.Folds.{list_any-append}
use Rattle.mig_bytes.specs.Fields.{be64}
use Rattle.mig_restore_form.specs.Record.{StreamRecord, types_of, is_ended}
use Rattle.mig_restore_form.specs.Judging.{Opening}
use Rattle.mig_dirtysave.proofs.Fronts.{AreTyped, HaveNoZero, typed_more, no_end_in_front, no_zero, ends_together, same_cut}

spelled_typed : (o : Opening) (bytes : List ℕ) (records : List StreamRecord) → Spells (Follows o) bytes records → AreTyped (types_of records) bytes
spelled_typed o _ _ no_part = refl
spelled_typed o _ _ (one_more bytes records r text before follows) =
    subst (λ ts. AreTyped ts (bytes ++ text)) (sym (map-append (λ (q : StreamRecord). q.type) records (r ∷ []))) (typed_more (types_of records) r.type bytes follows.body text (spelled_typed o bytes records before) follows.is)

-- records of which the last is END, and none before it
pub record EndsOnce (bytes : List ℕ) : Type 0 where
  pub types : List ℕ
  pub texts : List ℕ
  pub body : List ℕ
  pub last : List ℕ
  pub whole : bytes ≡ texts ++ last
  pub typed : AreTyped types texts
  pub no_end : HaveNoZero types
  pub is_end : IsRecord 0 body last

pub ends_once : (o : Opening) (bytes : List ℕ) (records : List StreamRecord) → Spells (Follows o) bytes records → is_ended records ≡ true → EndsOnce bytes
ends_once o _ _ no_part ended = absurd (cc)
ends_once o _ _ (one_more bytes records r text before follows) ended =
    let zero : (r.type == 0) ≡ true = (
    let all : (is_ended records || ((r.type == 0) || false)) ≡ true =
    sym (ap (list_any (λ t. t == 0)) (map-append (λ (q : StreamRecord). q.type) records (r ∷ [])) ∙ list_any-append (λ t. t == 0) (types_of records) (r.type ∷ [])) ∙ ended in
    let one : ((r.type == 0) || false) ≡ true = sym (ap (λ b. b || ((r.type == 0) || false)) follows.not_ended) ∙ all in
    or_false (r.type == 0) one) in
    record {
      types = types_of records;
      texts = bytes;
      body = follows.body;
      last = text;
      whole = refl;
      typed = spelled_typed o bytes records before;
      no_end = no_zero (types_of records) follows.not_ended;
      is_end = subst (λ t. IsRecord t follows.body text) (eqb-true r.type 0 zero) follows.is;
    }
  where
    or_false : (b : Bool) → (b || false) ≡ true → b ≡ true
    or_false true h = refl
    or_false false h = h

-- the first number of 8 bytes, whatever follows
pub first_number : (xs ys : List ℕ) → 8 ≤ length xs → be64 (xs ++ ys) 0 ≡ be64 xs 0
unfolding be64
first_number xs ys h = big_from-append 8 xs ys h

module _ (input : List ℕ) (o : Opening) (records : List StreamRecord) (rest : List ℕ) (im : IsImage input o records rest) where
  whole : input ≡ (im.image_header ++ im.domain_header) ++ (im.bytes ++ rest)
  whole = im.whole ∙ sym (append_assoc im.image_header im.domain_header (im.bytes ++ rest))

  size : length (im.image_header ++ im.domain_header) ≡ 40
  size = length-append im.image_header im.domain_header ∙ omega (arith, im.is_image_header.size, im.is_domain_header.size)

  pub image_len : 40 ≤ length input
  image_len = omega (arith, size, ap length whole, length-append (im.image_header ++ im.domain_header) (im.bytes ++ rest))

  pub image_marked : be64 input 0 ≡ marker
  image_marked = ap (λ l. be64 l 0) im.whole ∙ first_number im.image_header _ (omega (arith, im.is_image_header.size)) ∙ im.is_image_header.all_ones

  pub no_image : IsUnendedImage input → ⊥
  no_image (inl short) = omega (arith, short, image_len)
  no_image (inr u) =
      let cut = same_cut (im.image_header ++ im.domain_header) u.headers (im.bytes ++ rest) u.rest (sym whole ∙ u.whole) (size ∙ sym u.size) in
      let c = u.cut_off in
      no_end_in_front (types_of records) im.bytes rest c.records c.texts c.part (spelled_typed o im.bytes records im.spelled) im.ended c.are c.no_end c.cut (cut.1 ∙ c.whole)

  -- an image that is ended ends where this one does
  pub same_behind : (u : IsUnclosedImage input) → rest ≡ u.behind
  same_behind u =
      let cut = same_cut (im.image_header ++ im.domain_header) u.headers (im.bytes ++ rest) (u.texts ++ (u.last ++ u.behind)) (sym whole ∙ u.whole) (size ∙ sym u.size) in
      let e = ends_once o im.bytes records im.spelled im.ended in
      ends_together e.types e.texts e.last rest u.records u.texts u.last u.behind e.body [] e.typed e.no_end e.is_end u.are u.no_end u.is_end
      (sym (append_assoc e.texts e.last rest) ∙ ap (λ l. l ++ rest) (sym e.whole) ∙ cut.1)

  -- the same with more behind it
  pub longer : (more : List ℕ) → IsImage (input ++ more) o records (rest ++ more)
  longer more = record {
    image_header = im.image_header;
    domain_header = im.domain_header;
    major = im.major;
    minor = im.minor;
    bytes = im.bytes;
    whole = ap (λ l. l ++ more) im.whole ∙ append_assoc im.image_header (im.domain_header ++ (im.bytes ++ rest)) more
        ∙ ap (λ l. im.image_header ++ l) (append_assoc im.domain_header (im.bytes ++ rest) more ∙ ap (λ l. im.domain_header ++ l) (append_assoc im.bytes rest more));
    is_image_header = im.is_image_header;
    is_domain_header = im.is_domain_header;
    spelled = im.spelled;
    ended = im.ended;
  }
