-- Bodies that are passed on in pieces: what a relay keeps behind a piece, and behind the last one.
use Rattle.mig_relay.proofs.Common.{◌≡◌, ◌≢◌, ℕ, ◌+◌, ◌<◌, ◌≤◌, Bool, true, false, nat_eq, ◌==◌, cond, List, [], ◌∷◌, ◌++◌, length, drop, Option, Some, None, refl, sym, ap, ◌∙◌, arith, length-append, eqb-true, eqb-false, common_steps, greater, padding_len, le32, Judged, ◌>>=◌, LibxlRecord, LibxlContent, Pairs, Context, PartCode, numbers_are_inverse, is_optional, type_of_number, Cause, Place, Record, RecordType, X86PvInfo, X86PvP2mFrames, image_in, emulator_key, RecordsBehind, bodies_are_parts, piece_len, fault_of_record_body, coded_content, typed_content, record_content, pairs_in, RecordHead, Opening, before, lists_of, code_of_type, StreamRecord, Content, Nothing, Lists, ImageOf, ComesNext, more, whole, image_next, libxl_next, Keeps, KeepsFirst, KeepsHead, KeepsOpen, KeepsOuter, IsBodied, IsOther, top_with, with_one, AtHead, AtBody, AtPadding, BeginsWithPart, record_with, Outer, Spot, AtLibxlHead, AtLibxlBody, AtLibxlPadding, InImage, spot, carry, Relay, type_allows}
use Rattle.mig_libxl_form.specs.Content.LibxlContent.{Nothing as NothingWrapped}
use Rattle.mig_headers.proofs.ContextTexts.{in32}
use Rattle.mig_restore_form.proofs.Laws.{fields_fine}
use Rattle.mig_relay.proofs.Kept.{ListsNone, going_same, wrapped_more, records_more, top_same, top_listed}
use Rattle.mig_relay.proofs.SpotParts.{lifted, libxl_content, libxl_no_padding, with_libxl}
use Rattle.mig_relay.proofs.Unrolls.{body_is, no_padding, with}
use Rattle.mig_relay.specs.declared.state.Coming.TheVariants as comes

-- What comes next behind a whole body of this size, which is judged as its padding is. No more bytes were passed on,
-- and the words in hand are the same.
pub record BehindBody (middle t : Relay) (from here : Spot) (size : ℕ) : Type 0 where
  pub next : Spot
  pub same : (more : List ℕ) → spot here more ≡ spot next more
  pub keeps : Keeps t next []
  pub passed : t.passed ≡ middle.passed
  pub words : t.words.items ≡ middle.words.items
  pub follows : (begun piece : List ℕ) → length begun + length piece ≡ size → ComesNext from begun piece next []

-- ---- a record of an image

module _ (outer : Outer) (o : Opening) (records : List StreamRecord) (head : RecordHead) where
  -- the body is a part of the stream
  pub body_part : IsOther o records head → 0 < head.len → BeginsWithPart (spot (InImage outer (AtBody o records head))) (Record (length records)) head.len (fault_of_record_body head.kind) (λ b i. spot (InImage outer (AtPadding o records head (record_content head.kind b))) i)
  body_part other some = lifted (carry outer) (body_is o records head (fault_of_record_body head.kind) (record_content head.kind) (bodies_are_parts (before o records) head.kind head.len other.fine other.other) some)

  -- END has no body
  pub not_end : IsOther o records head → 0 < head.len → head.kind ≢ 0
  not_end other some zero =
      let allowed : type_allows (type_of_number head.kind) head.len ≡ true = (fields_fine (before o records) head.kind head.len other.fine).allowed in
      let none : nat_eq head.len 0 ≡ true = ap (λ k. type_allows (type_of_number k) head.len) (sym zero) ∙ allowed in
      omega (arith, some, eqb-true head.len 0 none)

-- both frame numbers of a list of P2M frames have come with the first piece
pub first_more : (r : Relay) (head : RecordHead) (begun piece : List ℕ) → KeepsFirst r head begun → length piece ≡ piece_len r.body → head.kind ≡ 3 → 8 ≤ length (begun ++ piece)
first_more r head [] piece first size three = omega (arith, size, first.coming three refl)
first_more r head (b ∷ bs) piece first size three = omega (arith, length-append (b ∷ bs) piece, first.come three (omega arith))

-- and the later pieces don't change the last of them
top_stays : (type b : ℕ) (bs piece : List ℕ) (top : ℕ) → (type ≡ 3 → 8 ≤ length (b ∷ bs)) → top_with type (b ∷ bs) top ≡ top_with type ((b ∷ bs) ++ piece) top
top_stays type b bs piece top come = by (type == 3) refl
  where
    by : (is_list : Bool) → (type == 3) ≡ is_list → top_with type (b ∷ bs) top ≡ top_with type ((b ∷ bs) ++ piece) top
    by true is = ap (λ n. cond (type == 3) (greater top n) top) (sym (in32 (b ∷ bs) piece 4 (omega (arith, come (eqb-true type 3 is)))))
    by false is = ap (λ c. cond c (greater top (le32 (b ∷ bs) 4)) top) is ∙ sym (ap (λ c. cond c (greater top (le32 ((b ∷ bs) ++ piece) 4)) top) is)

-- the greatest frame number behind a piece more
pub top_more : (type : ℕ) (begun piece : List ℕ) (top was now : ℕ) → was ≡ top_with type begun top → (type ≡ 3 → 0 < length begun → 8 ≤ length begun) → (length begun ≡ 0 → now ≡ top_with type piece was) → (0 < length begun → now ≡ was) → now ≡ top_with type (begun ++ piece) top
top_more type [] piece top was now is come first later = first refl ∙ ap (top_with type piece) is
top_more type (b ∷ bs) piece top was now is come first later = later (omega arith) ∙ is ∙ top_stays type b bs piece top (λ three. come three (omega arith))

-- bodies that list no P2M frames
nothing_lists_none : ListsNone Nothing
nothing_lists_none last frames e = let no : ◌≡◌ {A = Content} Nothing (Lists last frames) = e in cc

coded_none : (code : Option PartCode) (body : List ℕ) → ListsNone (coded_content code body)
coded_none None body last frames e = nothing_lists_none last frames e
coded_none (Some code) body last frames e = cc

typed_none : (this : Option RecordType) (body : List ℕ) → this ≢ Some X86PvP2mFrames → ListsNone (typed_content this body)
typed_none None body other = nothing_lists_none
typed_none (Some X86PvInfo) body other = nothing_lists_none
typed_none (Some X86PvP2mFrames) body other = absurd (other refl)
typed_none (Some this) body other = coded_none (code_of_type this) body

-- a body of another type is one of them
said_none : (type : ℕ) (body : List ℕ) → type ≢ 3 → ListsNone (record_content type body)
said_none type body other = by (is_optional type)
  where
    by : (optional : Bool) → ListsNone (cond optional Nothing (typed_content (type_of_number type) body))
    by true = nothing_lists_none
    by false = typed_none (type_of_number type) body (λ is. other (sym (numbers_are_inverse.number_of type X86PvP2mFrames is)))

module _ (o : Opening) (records : List StreamRecord) (head : RecordHead) where
  -- the greatest frame number behind a whole body is that behind its record
  pub top_whole : (body : List ℕ) → 0 < length body → top_with head.kind body (before o records).top ≡ (before o (with o records head (record_content head.kind body))).top
  top_whole [] some = absurd (omega (arith, some))
  top_whole (b ∷ bytes) some = by (head.kind == 3) refl
    where
      body : List ℕ
      body = b ∷ bytes

      top : ℕ
      top = (before o records).top

      by : (is_list : Bool) → (head.kind == 3) ≡ is_list → top_with head.kind (b ∷ bytes) (before o records).top ≡ (before o (with o records head (record_content head.kind (b ∷ bytes)))).top
      by true is =
          let lists : record_content head.kind body ≡ lists_of body = ap (λ k. record_content k body) (eqb-true head.kind 3 is) in
          ap (λ c. cond c (greater top (le32 body 4)) top) is ∙ sym (top_listed o records head (le32 body 4) (drop 8 body)) ∙ ap (λ (content : Content). (before o (with o records head content)).top) (sym lists)
      by false is = ap (λ c. cond c (greater top (le32 body 4)) top) is ∙ sym (top_same o records head (record_content head.kind body) (said_none head.kind body (eqb-false head.kind 3 is)))

-- a relay has the body of an image's record behind it
pub behind_record : (t : Relay) (outer : Outer) (o : Opening) (records : List StreamRecord) (head : RecordHead) (content : Content) → KeepsOuter t outer → KeepsHead t o records head (before o (with o records head content)).top → head.kind ≢ 0
    → (0 < padding_len head.len → t.coming ≡ comes.Padding head) → (padding_len head.len ≡ 0 → t.coming ≡ comes.Head) → BehindBody t t (InImage outer (AtBody o records head)) (InImage outer (AtPadding o records head content)) head.len
behind_record t outer o records head content around kept other padded unpadded = by (nat_eq (padding_len head.len) 0) refl
  where
    by : (b : Bool) → nat_eq (padding_len head.len) 0 ≡ b → BehindBody t t (InImage outer (AtBody o records head)) (InImage outer (AtPadding o records head content)) head.len
    by true is =
        let zero = eqb-true (padding_len head.len) 0 is in
        record {
          next = InImage outer (AtHead o (with o records head content));
          same = λ more. ap (λ (j : Judged (Place × Cause) ImageOf). j >>= carry outer) (no_padding o records head content more zero);
          keeps = (around, (unpadded zero, records_more t o records head content _ kept other, refl));
          passed = refl;
          words = refl;
          follows = λ begun piece size. whole (InImage outer (AtBody o records head)) _ begun piece head refl (λ e. cc) tt (omega (arith, size, zero)) (image_next outer o records (record_with records head content) head.kind other);
        }
    by false is =
        let some : 0 < padding_len head.len = grind (arith, common_steps, is) in
        record {
          next = InImage outer (AtPadding o records head content);
          same = λ more. refl;
          keeps = (around, (padded some, kept, some, other, refl));
          passed = refl;
          words = refl;
          follows = λ begun piece size. more (InImage outer (AtBody o records head)) (InImage outer (AtPadding o records head content)) begun piece [] head refl refl refl (λ e. cc) refl tt (omega (arith, size));
        }

-- ---- a record of a libxl stream

-- the body of a record of a libxl stream is no image
pub no_image : (type : ℕ) (body : List ℕ) → image_in (libxl_content type body) ≡ None
no_image type body = by (type == 2) (type == 3)
  where
    by : (two three : Bool) → image_in (cond two (Pairs (emulator_key 258 body) (pairs_in (drop 8 body))) (cond three (Context (emulator_key 259 body) (drop 8 body)) NothingWrapped)) ≡ None
    by true three = refl
    by false true = refl
    by false false = refl

-- a relay has the body of a libxl record behind it
pub behind_libxl : (old middle t : Relay) (records : List LibxlRecord) (head : RecordHead) (content : LibxlContent) (behind : RecordsBehind) → KeepsOpen old records → IsBodied head → image_in content ≡ None → old.wrapper ≡ Some behind → middle.wrapper ≡ old.wrapper → middle.seen ≡ old.seen
    → (0 < padding_len head.len → t ≡ record middle { coming = comes.LibxlPadding head }) → (padding_len head.len ≡ 0 → t ≡ record middle { coming = comes.LibxlHead; wrapper = Some (with_one head.kind behind) })
    → BehindBody middle t (AtLibxlBody records head) (AtLibxlPadding records head content) head.len
behind_libxl old middle t records head content behind kept bodied none was wrapper seen padded unpadded = by (nat_eq (padding_len head.len) 0) refl
  where
    by : (b : Bool) → nat_eq (padding_len head.len) 0 ≡ b → BehindBody middle t (AtLibxlBody records head) (AtLibxlPadding records head content) head.len
    by true is =
        let zero = eqb-true (padding_len head.len) 0 is in
        let now = unpadded zero in
        record {
          next = AtLibxlHead (with_libxl records head content);
          same = λ more. libxl_no_padding records head content more zero;
          keeps = (
            ap (λ (r : Relay). r.coming) now,
            wrapped_more records (record { type = head.kind; content = content }) old t behind kept.0 was (ap (λ (r : Relay). r.wrapper) now) (ap (λ (r : Relay). r.seen) now ∙ seen) none bodied.0,
            refl,
          );
          passed = ap (λ (r : Relay). r.passed) now;
          words = ap (λ (r : Relay). r.words.items) now;
          follows = λ begun piece size. whole (AtLibxlBody records head) _ begun piece head refl (λ e. cc) tt (omega (arith, size, zero)) (libxl_next records (record { type = head.kind; content = content }) head.kind bodied.0 bodied.1 none);
        }
    by false is =
        let some : 0 < padding_len head.len = grind (arith, common_steps, is) in
        let now = padded some in
        record {
          next = AtLibxlPadding records head content;
          same = λ more. refl;
          keeps = (
            ap (λ (r : Relay). r.coming) now,
            (going_same old t records (ap (λ (r : Relay). r.wrapper) now ∙ wrapper) (ap (λ (r : Relay). r.seen) now ∙ seen) kept.0, kept.1),
            bodied,
            none,
            some,
            refl,
          );
          passed = ap (λ (r : Relay). r.passed) now;
          words = ap (λ (r : Relay). r.words.items) now;
          follows = λ begun piece size. more (AtLibxlBody records head) (AtLibxlPadding records head content) begun piece [] head refl refl refl (λ e. cc) refl tt (omega (arith, size));
        }
