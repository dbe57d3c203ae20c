-- What comes next behind a record's head.
use Rattle.mig_relay.proofs.Common.{◌≡◌, ◌≢◌, ℕ, ◌+◌, ◌<◌, ◌≤◌, not, nat_eq, nat_le, Bool, true, false, cond, List, [], ◌∷◌, ◌++◌, length, Option, Some, None, refl, sym, ap, subst, ◌∙◌, arith, length-append, leb-true, eqb-true, eqb-false, eq-eqb, ne_eqb, common_steps, option_or, padding_len, Judged, ◌>>=◌, part, tried, placed, Passes, Faulty, LibxlRecord, parts_of_body, PartCode, numbers_are_inverse, type_of_number, is_optional, first_fault, RecordType, X86PvInfo, X86PvP2mFrames, Cause, Truncated, BadLength, Place, Record, is_libxl_ended, image_among, AreBehind, kind_of_image, Bare, RecordsBehind, emulator_more, among_first, fault_of_record_body, record_content, typed_content, coded_content, bodies_are_parts, fault_of_length, head_in, RecordHead, Opening, before, body_at, code_of_type, fault_of_head, fault_of_fields, Nothing, Sets, Lists, StreamRecord, Content, types_of, is_ended, IsSeen, RecordsSeen, Kind, ImageOf, image_of, ComesBehind, ComesNext, image_next, Keeps, KeepsGoing, KeepsHead, KeepsRecords, KeepsOuter, HasNumber, fault_of_empty, AtHead, AtBody, AtFront, judged_next, record_with, with_body, BeginsWithPart, Outer, Alone, Behind, Spot, AtLibxlHead, InImage, AtEnd, spot, carry, image_record, Relay, most_body, has_emulator, IfSome, image_begins, pages_begin, image_whole, image_end, inner_end}
use Rattle.std.proofs.Common.{◌&&◌}
use Rattle.std.proofs.Math.Bool.{or-false}
use Rattle.mig_relay.specs.Keeping.{HasBegun}
use Rattle.mig_relay.proofs.Kept.{ListsNone, number_is, seen_more, ending, top_same, outer_same, records_more, libxl_going_on}
use Rattle.mig_relay.proofs.Unrolls.{head_is, empty_is, no_padding}
use Rattle.mig_relay.proofs.SpotParts.{alone_ended, wrapped_ended}
use Rattle.mig_relay.specs.declared.state.Coming.TheVariants as comes

-- ---- the head of an image's record, and an empty body behind it

module _ (o : Opening) (records : List StreamRecord) where
  abbrev here : Place
  here = Record (length records)

  -- a record whose empty body has a fault is refused behind its head
  empty_refused : (head : RecordHead) (c : Cause) → fault_of_fields (before o records) head.kind head.len ≡ None → fault_of_empty head ≡ Some c → (i : List ℕ) → judged_next (AtBody o records head) i ≡ Faulty (here, c) i
  empty_refused head c fine faulty i = by (nat_eq head.len 0) (nat_eq head.kind 1) refl refl
    where
      apart : ◌≡◌ {A = Option Cause} None (Some c) → ⊥
      apart e = cc

      by : (none one : Bool) → nat_eq head.len 0 ≡ none → nat_eq head.kind 1 ≡ one → judged_next (AtBody o records head) i ≡ Faulty (here, c) i
      by false one some is = absurd (apart (sym (ap (λ b. cond (b && not (nat_eq head.kind 1)) (fault_of_record_body head.kind []) None) some) ∙ faulty))
      by true true none is = absurd (apart (sym (ap (λ b. cond (nat_eq head.len 0 && not b) (fault_of_record_body head.kind []) None) is ∙ ap (λ b. cond (b && false) (fault_of_record_body head.kind []) None) none) ∙ faulty))
      by true false none is =
          let zero = eqb-true head.len 0 none in
          let stands : fault_of_record_body head.kind [] ≡ Some c = sym (ap (λ b. cond (nat_eq head.len 0 && not b) (fault_of_record_body head.kind []) None) is ∙ ap (λ b. cond (b && true) (fault_of_record_body head.kind []) None) none) ∙ faulty in
          empty_is o records head (fault_of_record_body head.kind) (record_content head.kind) (bodies_are_parts (before o records) head.kind head.len fine (eqb-false head.kind 1 is)) zero i
          ∙ ap (λ (g : Option Cause). with_body o records head (tried g i >>= λ _. Passes (record_content head.kind []) i)) stands

  abbrev pub fault_here : List ℕ → Option Cause
  fault_here b = option_or (fault_of_head (before o records) b) (fault_of_empty (head_in b))

  abbrev follows : List ℕ → List ℕ → Judged (Place × Cause) ImageOf
  follows b i = judged_next (AtBody o records (head_in b)) i

  -- a head is a part, with the fault of an empty body behind it
  pub whole_head_is : is_ended records ≡ false → BeginsWithPart (judged_next (AtHead o records)) here 8 fault_here follows
  whole_head_is going = record {
    judged = λ i. (head_is o records going).judged i ∙ by (part Truncated 8 i);
    some = omega arith;
  }
    where
      behind : (b rest : List ℕ) → fault_of_head (before o records) b ≡ None → (g : Option Cause) → fault_of_empty (head_in b) ≡ g → follows b rest ≡ (placed here (tried g rest >>= λ _. Passes b rest) >>= λ b. follows b.0 b.1)
      behind b rest fine None is = refl
      behind b rest fine (Some c) is = empty_refused (head_in b) c fine is rest

      headed : (b rest : List ℕ) (f : Option Cause) → fault_of_head (before o records) b ≡ f
          → (placed here (tried f rest >>= λ _. Passes b rest) >>= λ b. follows b.0 b.1) ≡ (placed here (tried (option_or f (fault_of_empty (head_in b))) rest >>= λ _. Passes b rest) >>= λ b. follows b.0 b.1)
      headed b rest (Some c) is = refl
      headed b rest None is = behind b rest is (fault_of_empty (head_in b)) refl

      by : (j : Judged Cause (List ℕ)) → (placed here (j >>= λ b. tried (fault_of_head (before o records) b.0) b.1 >>= λ _. Passes b.0 b.1) >>= λ b. follows b.0 b.1) ≡ (placed here (j >>= λ b. tried (fault_here b.0) b.1 >>= λ _. Passes b.0 b.1) >>= λ b. follows b.0 b.1)
      by (Faulty c rest) = refl
      by (Passes b rest) = headed b rest (fault_of_head (before o records) b) refl

-- ---- heads that are allowed

none_not_some : {C : Type 0} {c : C} → ◌≡◌ {A = Option C} (Some c) None → ⊥
none_not_some e = cc

-- a list of P2M frames begins with two frame numbers
pub front_of_p2m : (type len : ℕ) → type ≡ 3 → fault_of_length type len ≡ None → 8 ≤ len
front_of_p2m type len three allowed = by (nat_le 8 len) refl (ap (λ k. fault_of_length k len) (sym three) ∙ allowed)
  where
    by : (b : Bool) → nat_le 8 len ≡ b → fault_of_length 3 len ≡ None → 8 ≤ len
    by true is h = leb-true 8 len is
    by false is h = absurd (none_not_some (sym (ap (λ b. first_fault ((not b, BadLength len) ∷ [])) is) ∙ h))

-- an empty body that is allowed and has no fault
empty_fine : (head : RecordHead) → head.kind ≢ 1 → head.len ≡ 0 → fault_of_empty head ≡ None → fault_of_record_body head.kind [] ≡ None
empty_fine head other none fine =
    sym (ap (λ b. cond (nat_eq head.len 0 && not b) (fault_of_record_body head.kind []) None) (ne_eqb head.kind 1 other) ∙ ap (λ b. cond (b && true) (fault_of_record_body head.kind []) None) (eq-eqb head.len 0 none)) ∙ fine

-- it lists no P2M frames
empty_lists_none : (type len : ℕ) → fault_of_length type len ≡ None → len ≡ 0 → ListsNone (record_content type [])
empty_lists_none type len allowed none = by (is_optional type) refl
  where
    coded : (code : Option PartCode) → ListsNone (coded_content code [])
    coded None last frames e = let no : ◌≡◌ {A = Content} Nothing (Lists last frames) = e in cc
    coded (Some code) last frames e = let no : ◌≡◌ {A = Content} (Sets code (parts_of_body code [])) (Lists last frames) = e in cc

    nothing : ListsNone Nothing
    nothing last frames e = let no : ◌≡◌ {A = Content} Nothing (Lists last frames) = e in cc

    typed : (this : RecordType) → type_of_number type ≡ Some this → ListsNone (typed_content (Some this) [])
    typed X86PvInfo is = nothing
    typed X86PvP2mFrames is = absurd (omega (arith, none, front_of_p2m type len (sym (numbers_are_inverse.number_of type X86PvP2mFrames is)) allowed))
    typed this is = coded (code_of_type this)

    found : (this : Option RecordType) → type_of_number type ≡ this → ListsNone (typed_content this [])
    found None is = nothing
    found (Some this) is = typed this is

    by : (b : Bool) → is_optional type ≡ b → ListsNone (record_content type [])
    by true is = subst (λ b. ListsNone (cond b Nothing (typed_content (type_of_number type) []))) (sym is) nothing
    by false is = subst (λ b. ListsNone (cond b Nothing (typed_content (type_of_number type) []))) (sym is) (found (type_of_number type) refl)

zero_not_one : (n : ℕ) → n ≡ 0 → n ≢ 1
zero_not_one n zero one = omega (arith, zero, one)

-- an image among the records of a libxl stream
around_image : (t : Relay) (around : List LibxlRecord) (behind : RecordsBehind) (image : ImageOf) (kind : Kind) → t.wrapper ≡ Some (record { records = behind.records + 1; emulated = behind.emulated; image = Some kind }) → AreBehind behind around → image_among around ≡ None → is_libxl_ended around ≡ false → kind ≡ image.opening.kind
    → t.seen.records ≡ length image.records → KeepsGoing t (around ++ image_record image ∷ [])
around_image t around behind image kind is are none going same count = (
  record {
    behind = record { records = behind.records + 1; emulated = behind.emulated; image = Some kind };
    is = is;
    are = record {
      count = omega (arith, are.count, length-append around (image_record image ∷ []));
      emulated = are.emulated ∙ sym (emulator_more around (image_record image) ∙ or-false (has_emulator around));
      image = ap Some same ∙ sym (ap kind_of_image (among_first around (image_record image) none));
    };
    number = subst (HasNumber t.seen.records) (sym (among_first around (image_record image) none)) count;
  },
  libxl_going_on around (image_record image) going (λ e. cc),
)

-- ---- what comes next behind the head of an image's record

-- what is told of an empty body
pub empty_told : (head : RecordHead) (fault : Option Cause) → head.len ≡ 0 → head.kind ≢ 1 → fault ≡ fault_of_record_body head.kind [] → fault ≡ fault_of_empty head
empty_told head fault none other is = is ∙ sym (ap (λ b. cond (nat_eq head.len 0 && not b) (fault_of_record_body head.kind []) None) (ne_eqb head.kind 1 other) ∙ ap (λ b. cond (b && true) (fault_of_record_body head.kind []) None) (eq-eqb head.len 0 none))

-- a relay that keeps what comes next, which is judged as the body of this head is
pub record Begun (t : Relay) (outer : Outer) (o : Opening) (records : List StreamRecord) (head : RecordHead) : Type 0 where
  pub next : Spot
  pub same : (more : List ℕ) → spot (InImage outer (AtBody o records head)) more ≡ spot next more
  pub keeps : Keeps t next []
  pub follows : (piece : List ℕ) → length piece ≡ 8 → head_in piece ≡ head → ComesNext (InImage outer (AtHead o records)) [] piece next []

-- a head of an image's record that was judged: what the relay knows of the records, and of it
pub record IsJudged (r : Relay) (o : Opening) (records : List StreamRecord) (head : RecordHead) : Type 0 where
  pub seen : IsSeen r.seen o (types_of records ++ head.kind ∷ [])
  pub top : r.top ≡ (before o records).top
  pub going : is_ended records ≡ false
  pub fine : fault_of_fields (before o records) head.kind head.len ≡ None
  pub allowed : fault_of_length head.kind head.len ≡ None
  pub small : head.len ≤ most_body
  pub empty : fault_of_empty head ≡ None

module _ (r t : Relay) (outer : Outer) (o : Opening) (records : List StreamRecord) (head : RecordHead) (b : HasBegun r t head) (j : IsJudged r o records head) (kept : KeepsOuter r outer) where
  kept_records : KeepsHead t o records head (before o records).top
  kept_records = record { seen = subst (λ (s : RecordsSeen). IsSeen s o (types_of records ++ head.kind ∷ [])) (sym b.seen) j.seen; top = b.top ∙ j.top; going = j.going }

  -- a PAGE_DATA
  pages_begun : head.kind ≡ 1 → Begun t outer o records head
  pages_begun one = record {
    next = InImage outer (AtFront o records head);
    same = λ more. ap (λ (k : ℕ). with_body o records head (body_at o.kind (before o records).top k head.len more) >>= carry outer) one;
    keeps = (outer_same r t outer (b.wrapper (λ zero. absurd (omega (arith, one, zero)))) kept, (b.pages one, kept_records, record { kind = one; small = j.small }, refl));
    follows = λ piece size is. subst (λ (h : RecordHead). ComesNext (InImage outer (AtHead o records)) [] piece (InImage outer (AtFront o records h)) []) is (pages_begin outer o records piece size (ap (λ (h : RecordHead). h.kind) is ∙ one));
  }

  -- a body of some bytes
  body_begun : head.kind ≢ 1 → 0 < head.len → Begun t outer o records head
  body_begun other some = record {
    next = InImage outer (AtBody o records head);
    same = λ more. refl;
    keeps = (
      outer_same r t outer (b.wrapper (λ zero. some)) kept,
      (
        b.body other some,
        kept_records,
        record { fine = j.fine; other = other },
        record { coming = λ p2m none. omega (arith, b.p2m p2m some, p2m_front p2m); come = λ p2m more. absurd (omega (arith, more)) },
        record { len = b.len other some; known = b.begun other some; less = some },
      ),
    );
    follows = λ piece size is. subst (λ (h : RecordHead). ComesNext (InImage outer (AtHead o records)) [] piece (InImage outer (AtBody o records h)) []) is (image_begins outer o records piece size (λ one. other (sym (ap (λ (h : RecordHead). h.kind) is) ∙ one)));
  }
    where
      p2m_front : head.kind ≡ 3 → 8 ≤ head.len
      p2m_front three = front_of_p2m head.kind head.len three j.allowed

  abbrev empty_record : StreamRecord
  empty_record = record_with records head (record_content head.kind [])

  abbrev with_empty : List StreamRecord
  with_empty = records ++ empty_record ∷ []

  -- a head that is a whole record
  whole_follows : (next : Spot) → head.kind ≢ 1 → head.len ≡ 0 → (piece : List ℕ) → length piece ≡ 8 → head_in piece ≡ head → ComesBehind (InImage outer (AtHead o records)) head.kind next → ComesNext (InImage outer (AtHead o records)) [] piece next []
  whole_follows next other none piece size is behind =
      image_whole outer o records piece next size (ap (λ (h : RecordHead). h.len) is ∙ none) (λ one. other (sym (ap (λ (h : RecordHead). h.kind) is) ∙ one))
      (subst (λ (h : RecordHead). ComesBehind (InImage outer (AtHead o records)) h.kind next) (sym is) behind)

  -- an empty body, without fault
  empty_passes : head.kind ≢ 1 → head.len ≡ 0 → (i : List ℕ) → judged_next (AtBody o records head) i ≡ judged_next (AtHead o with_empty) i
  empty_passes other none i =
      empty_is o records head (fault_of_record_body head.kind) (record_content head.kind) (bodies_are_parts (before o records) head.kind head.len j.fine other) none i
      ∙ ap (λ (g : Option Cause). with_body o records head (tried g i >>= λ _. Passes (record_content head.kind []) i)) (empty_fine head other none j.empty)
      ∙ no_padding o records head (record_content head.kind []) i (ap padding_len none)

  mark_begun : head.kind ≢ 1 → head.len ≡ 0 → head.kind ≢ 0 → Begun t outer o records head
  mark_begun other none going = record {
    next = InImage outer (AtHead o with_empty);
    same = λ more. ap (λ (j : Judged (Place × Cause) ImageOf). j >>= carry outer) (empty_passes other none more);
    keeps = (
      outer_same r t outer (b.wrapper (λ zero. absurd (going zero))) kept,
      (
        b.mark other none going,
        subst (KeepsRecords t o with_empty (types_of with_empty)) (sym (top_same o records head (record_content head.kind []) (empty_lists_none head.kind head.len j.allowed none)))
            (records_more t o records head (record_content head.kind []) (before o records).top kept_records going),
        refl,
      ),
    );
    follows = λ piece size is. whole_follows (InImage outer (AtHead o with_empty)) other none piece size is (image_next outer o records empty_record head.kind going);
  }

  -- the image is over
  ended_now : head.kind ≡ 0 → is_ended with_empty ≡ true
  ended_now zero = ending records (record_with records head (record_content head.kind [])) j.going zero

  count_now : t.seen.records ≡ length with_empty
  count_now = number_is t.seen o with_empty (seen_more t.seen o records (record_with records head (record_content head.kind [])) kept_records.seen)

  abbrev image : ImageOf
  image = image_of o with_empty

  end_begun : (around : Outer) → around ≡ outer → head.kind ≡ 0 → head.len ≡ 0 → Begun t outer o records head
  end_begun Alone is zero none = record {
    next = AtEnd (Bare image);
    same = λ more. ap (λ (j : Judged (Place × Cause) ImageOf). j >>= carry outer) (empty_passes (zero_not_one head.kind zero) none more) ∙ ap (λ (a : Outer). spot (InImage a (AtHead o with_empty)) more) (sym is) ∙ alone_ended o with_empty more (ended_now zero);
    keeps = ((b.alone zero none (subst (KeepsOuter r) (sym is) kept)).0, (image, refl, count_now), refl);
    follows = λ piece size is_head. whole_follows (AtEnd (Bare image)) (zero_not_one head.kind zero) none piece size is_head (subst (λ (a : Outer). ComesBehind (InImage a (AtHead o records)) head.kind (AtEnd (Bare image))) is (image_end o records head.kind (Bare image) zero));
  }
  end_begun (Behind around) is zero none =
      let k : KeepsOuter r (Behind around) = subst (KeepsOuter r) (sym is) kept in
      let w = subst (λ o. IfSome o (λ behind. (t.coming ≡ comes.LibxlHead) × (t.wrapper ≡ Some (record { records = behind.records + 1; emulated = behind.emulated; image = Some r.seen.kind })))) k.0.0.0.is (b.wrapped zero none) in
      record {
        next = AtLibxlHead (around ++ image_record image ∷ []);
        same = λ more. ap (λ (j : Judged (Place × Cause) ImageOf). j >>= carry outer) (empty_passes (zero_not_one head.kind zero) none more) ∙ ap (λ (a : Outer). spot (InImage a (AtHead o with_empty)) more) (sym is) ∙ wrapped_ended around o with_empty more (ended_now zero);
        keeps = (w.0, around_image t around k.0.0.0.behind image r.seen.kind w.1 k.0.0.0.are k.1 k.0.0.1 (j.seen.kind) count_now, refl);
        follows = λ piece size is_head. whole_follows (AtLibxlHead (around ++ image_record image ∷ [])) (zero_not_one head.kind zero) none piece size is_head (subst (λ (a : Outer). ComesBehind (InImage a (AtHead o records)) head.kind (AtLibxlHead (around ++ image_record image ∷ []))) is (inner_end around o records head.kind image zero));
      }

  pub begun : Begun t outer o records head
  begun = by (nat_eq head.kind 1) (nat_eq head.len 0) (nat_eq head.kind 0) refl refl refl
    where
      by : (one none zero : Bool) → nat_eq head.kind 1 ≡ one → nat_eq head.len 0 ≡ none → nat_eq head.kind 0 ≡ zero → Begun t outer o records head
      by true none zero is some end = pages_begun (eqb-true head.kind 1 is)
      by false false zero is some end = body_begun (eqb-false head.kind 1 is) (grind (arith, common_steps, some))
      by false true false is some end = mark_begun (eqb-false head.kind 1 is) (eqb-true head.len 0 some) (eqb-false head.kind 0 end)
      by false true true is some end = end_begun outer refl (eqb-true head.kind 0 end) (eqb-true head.len 0 some)
