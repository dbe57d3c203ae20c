-- What comes next behind the head of a libxl record.
use Rattle.mig_relay.proofs.Common.{◌≡◌, ◌≢◌, ℕ, ◌<◌, nat_eq, nat_le, Bool, true, false, List, [], length, Option, Some, None, refl, sym, ap, subst, ◌∙◌, arith, leb-true, eqb-true, eqb-false, common_steps, LibxlRecord, Kind, image_among, AreBehind, kind_of_image, RecordsSeen, Wrapped, RecordsBehind, fault_of_libxl_body, head_in, RecordHead, ImageOf, ComesBehind, ComesNext, libxl_next, Keeps, KeepsGoing, KeepsWrapper, HasNumber, AtMarker, Behind, Spot, AtLibxlHead, AtLibxlBody, InImage, AtEnd, spot, Relay, IsSome, MayFollow, allows_length, most_records, libxl_begins, libxl_whole, libxl_context, libxl_end}
use Rattle.std.proofs.Common.{◌⊎◌, inl, inr}
use Rattle.mig_relay.proofs.BehindBodies.{no_image as no_image_said}
use Rattle.mig_relay.specs.Keeping.{HasBegunLibxl}
use Rattle.mig_relay.proofs.Kept.{among_same, wrapped_more, wrapper_same, libxl_ending}
use Rattle.mig_relay.proofs.SpotParts.{behind_libxl_head, libxl_content, libxl_image, libxl_bodied, libxl_empty, libxl_ended, with_libxl}

-- a relay that keeps what comes next, which is judged as what follows this head is
pub record BegunLibxl (t : Relay) (records : List LibxlRecord) (head : RecordHead) : Type 0 where
  pub next : Spot
  pub same : (more : List ℕ) → behind_libxl_head records head more ≡ spot next more
  pub keeps : Keeps t next []
  pub follows : (piece : List ℕ) → length piece ≡ 8 → head_in piece ≡ head → ComesNext (AtLibxlHead records) [] piece next []

-- what is known of the records behind a relay is what its wrapper has
pub same_behind : (r : Relay) (records : List LibxlRecord) (w : KeepsWrapper r records) (behind : RecordsBehind) → r.wrapper ≡ Some behind → behind ≡ w.behind
same_behind r records w behind is = inside (sym is ∙ w.is)
  where
    inside : Some behind ≡ Some w.behind → behind ≡ w.behind
    inside e = cc

pub are_behind : (r : Relay) (records : List LibxlRecord) (w : KeepsWrapper r records) (behind : RecordsBehind) → r.wrapper ≡ Some behind → AreBehind behind records
are_behind r records w behind is = subst (λ (b : RecordsBehind). AreBehind b records) (sym (same_behind r records w behind is)) w.are

-- no image stands where none has a kind
no_image : (image : Option ImageOf) → kind_of_image image ≡ None → image ≡ None
no_image None is = refl
no_image (Some image) is = let no : ◌≡◌ {A = Option Kind} (Some image.opening.kind) None = is in absurd (cc)

some_image : (image : Option ImageOf) → IsSome (kind_of_image image) → (i : ImageOf) × (image ≡ Some i)
some_image None is = let no : false ≡ true = is in cc
some_image (Some image) is = (image, refl)

-- END and LIBXC_CONTEXT have no body, and that of an emulator isn't empty
no_length : (len : ℕ) (type : ℕ) → (type ≡ 0) ⊎ (type ≡ 1) → allows_length type len ≡ true → len ≡ 0
no_length len type (inl zero) h = eqb-true len 0 (ap (λ k. allows_length k len) (sym zero) ∙ h)
no_length len type (inr one) h = eqb-true len 0 (ap (λ k. allows_length k len) (sym one) ∙ h)

empty_fine : (type len : ℕ) → len ≡ 0 → allows_length type len ≡ true → fault_of_libxl_body type [] ≡ None
empty_fine type len none h = by (nat_eq type 2) (nat_eq type 3) refl refl
  where
    long : (n : ℕ) → allows_length n len ≡ nat_le 8 len → type ≡ n → ⊥
    long n is same = omega (arith, none, leb-true 8 len (sym is ∙ ap (λ k. allows_length k len) (sym same) ∙ h))

    by : (two three : Bool) → nat_eq type 2 ≡ two → nat_eq type 3 ≡ three → fault_of_libxl_body type [] ≡ None
    by true three is other = absurd (long 2 refl (eqb-true type 2 is))
    by false true is other = absurd (long 3 refl (eqb-true type 3 other))
    by false false is other = rw (is, other) refl

module _ (r t : Relay) (records : List LibxlRecord) (head : RecordHead) (w : KeepsGoing r records) (behind : RecordsBehind) (is : r.wrapper ≡ Some behind) (b : HasBegunLibxl r t behind head) (a : MayFollow behind head.kind head.len) where
  are : AreBehind behind records
  are = are_behind r records w.0 behind is

  room : length records < most_records
  room = omega (arith, a.room, are.count)

  same_number : HasNumber t.seen.records (image_among records)
  same_number = subst (λ (n : ℕ). HasNumber n (image_among records)) (sym (ap (λ (s : RecordsSeen). s.records) b.seen)) w.0.number

  -- a head that is a whole record
  whole_follows : (next : Spot) → head.len ≡ 0 → (piece : List ℕ) → length piece ≡ 8 → head_in piece ≡ head → ComesBehind (AtLibxlHead records) head.kind next → ComesNext (AtLibxlHead records) [] piece next []
  whole_follows next none piece size is behind =
      libxl_whole records piece next size (ap (λ (h : RecordHead). h.len) is ∙ none) (subst (λ (h : RecordHead). ComesBehind (AtLibxlHead records) h.kind next) (sym is) behind)

  -- LIBXC_CONTEXT: an image
  image_begun : head.kind ≡ 1 → BegunLibxl t records head
  image_begun one = record {
    next = InImage (Behind records) AtMarker;
    same = libxl_image records head one (no_length head.len head.kind (inr one) a.allowed);
    keeps = ((((wrapper_same r t records (b.image one).1 b.seen w.0, w.1), room), no_image (image_among records) (sym are.image ∙ a.first one)), ((b.image one).0, refl));
    follows = λ piece size is. whole_follows (InImage (Behind records) AtMarker) (no_length head.len head.kind (inr one) a.allowed) piece size is (libxl_context records head.kind one (no_image (image_among records) (sym are.image ∙ a.first one)));
  }

  -- END
  end_begun : head.kind ≡ 0 → BegunLibxl t records head
  end_begun zero =
      let none = no_length head.len head.kind (inl zero) a.allowed in
      let i = some_image (image_among records) (subst IsSome are.image (a.ends zero)) in
      let content = libxl_content head.kind [] in
      let last : LibxlRecord = record { type = head.kind; content = content } in
      record {
        next = AtEnd (Wrapped (with_libxl records head content));
        same = λ more. libxl_empty records head (λ one. omega (arith, zero, one)) none (empty_fine head.kind head.len none a.allowed) more ∙ libxl_ended (with_libxl records head content) more (libxl_ending records last w.1 zero);
        keeps = (b.end zero, (i.0, among_same records last (no_image_said head.kind []) ∙ i.1, subst (HasNumber t.seen.records) i.1 same_number), refl);
        follows = λ piece size is. whole_follows (AtEnd (Wrapped (with_libxl records head content))) none piece size is (libxl_end records head.kind (Wrapped (with_libxl records head content)) zero);
      }

  -- a body of some bytes
  body_begun : head.kind ≢ 0 → head.kind ≢ 1 → 0 < head.len → BegunLibxl t records head
  body_begun going other some = record {
    next = AtLibxlBody records head;
    same = libxl_bodied records head other;
    keeps = ((b.body going other some).0, ((wrapper_same r t records (b.body going other some).1 b.seen w.0, w.1), room), (going, other), record { len = b.len going other some; known = b.begun going other some; less = some });
    follows = λ piece size is. subst (λ (h : RecordHead). ComesNext (AtLibxlHead records) [] piece (AtLibxlBody records h) []) is (libxl_begins records piece size);
  }

  -- an empty body
  empty_begun : head.kind ≢ 0 → head.kind ≢ 1 → head.len ≡ 0 → BegunLibxl t records head
  empty_begun going other none =
      let content = libxl_content head.kind [] in
      record {
        next = AtLibxlHead (with_libxl records head content);
        same = libxl_empty records head other none (empty_fine head.kind head.len none a.allowed);
        keeps = ((b.empty going other none).0, wrapped_more records (record { type = head.kind; content = content }) r t behind w is (b.empty going other none).1 b.seen (no_image_said head.kind []) going, refl);
        follows = λ piece size is. whole_follows (AtLibxlHead (with_libxl records head content)) none piece size is (libxl_next records (record { type = head.kind; content = content }) head.kind going other (no_image_said head.kind []));
      }

  pub begun_libxl : BegunLibxl t records head
  begun_libxl = by (nat_eq head.kind 1) (nat_eq head.kind 0) (nat_eq head.len 0) refl refl refl
    where
      by : (one zero none : Bool) → nat_eq head.kind 1 ≡ one → nat_eq head.kind 0 ≡ zero → nat_eq head.len 0 ≡ none → BegunLibxl t records head
      by true zero none is end some = image_begun (eqb-true head.kind 1 is)
      by false true none is end some = end_begun (eqb-true head.kind 0 end)
      by false false false is end some = body_begun (eqb-false head.kind 0 end) (eqb-false head.kind 1 is) (grind (arith, common_steps, some))
      by false false true is end some = empty_begun (eqb-false head.kind 0 end) (eqb-false head.kind 1 is) (eqb-true head.len 0 some)
