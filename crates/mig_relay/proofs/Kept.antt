-- What a relay keeps once one more record stands behind it.
use Rattle.mig_relay.proofs.Common.{◌≡◌, ◌≢◌, ℕ, ◌-◌, Bool, true, false, List, [], ◌∷◌, ◌++◌, length, nat_eq, Option, Some, None, refl, sym, ap, subst, ◌∙◌, arith, length-append, ne_eqb, eq-eqb, map-append, greater, LibxlRecord, GuestOf, is_libxl_ended, image_in, image_among, AreBehind, kind_of_image, RecordsBehind, emulator_more, among_first, RecordHead, Opening, before, sent, put_content, StreamRecord, Content, types_of, is_ended, is_verified, placed_content, Nothing, Frames, Sets, Lists, IsSeen, ImageOf, RecordsSeen, ended_more, one_more_record, HasNumber, KeepsGoing, KeepsWrapper, KeepsOuter, KeepsRecords, with_one, record_with, Outer, Alone, Behind, Relay, ◌||◌, length-map, among_more, Checks}
use Rattle.mig_libxl_form.proofs.Among as libxl

-- ---- the records of an image

-- how many stand behind a relay
pub number_is : (seen : RecordsSeen) (o : Opening) (records : List StreamRecord) → IsSeen seen o (types_of records) → seen.records ≡ length records
number_is seen o records s = s.count ∙ length-map records (λ (x : StreamRecord). x.type)

-- the place of the record in hand
pub this_number : (seen : RecordsSeen) (o : Opening) (records : List StreamRecord) (type : ℕ) → IsSeen seen o (types_of records ++ type ∷ []) → seen.records - 1 ≡ length records
this_number seen o records type s = omega (arith, s.count, length-append (types_of records) (type ∷ []), length-map records (λ (x : StreamRecord). x.type))

-- the record in hand stands with the others
pub seen_more : (seen : RecordsSeen) (o : Opening) (records : List StreamRecord) (r : StreamRecord) → IsSeen seen o (types_of records ++ r.type ∷ []) → IsSeen seen o (types_of (records ++ r ∷ []))
seen_more seen o records r s = subst (IsSeen seen o) (sym (map-append (λ (x : StreamRecord). x.type) records (r ∷ []))) s

-- a record that isn't END leaves the image open
pub going_on : (records : List StreamRecord) (r : StreamRecord) → is_ended records ≡ false → r.type ≢ 0 → is_ended (records ++ r ∷ []) ≡ false
going_on records r going other = ended_more records r going ∙ ne_eqb r.type 0 other

-- END ends it
pub ending : (records : List StreamRecord) (r : StreamRecord) → is_ended records ≡ false → r.type ≡ 0 → is_ended (records ++ r ∷ []) ≡ true
ending records r going zero = ended_more records r going ∙ eq-eqb r.type 0 zero

-- ---- the greatest frame number

-- what a body says that lists no P2M frames
abbrev pub ListsNone : Content → Type 0
ListsNone content = (last : ℕ) (frames : List ℕ) → content ≢ Lists last frames

-- what a record says that lists no P2M frames leaves the greatest frame number
kept_top : (g : GuestOf) (verified : Bool) (content : Content) → ListsNone content → (put_content g (placed_content verified content)).top ≡ g.top
kept_top g verified Nothing none = refl
kept_top g true (Frames es) none = refl
kept_top g false (Frames es) none = refl
kept_top g verified (Sets code ps) none = refl
kept_top g verified (Checks es) none = refl
kept_top g verified (Lists last frames) none = absurd (none last frames refl)

module _ (o : Opening) (records : List StreamRecord) (head : RecordHead) where
  -- a record that lists no P2M frames leaves the greatest frame number
  pub top_same : (content : Content) → ListsNone content → (before o (records ++ record_with records head content ∷ [])).top ≡ (before o records).top
  top_same content none =
      ap (λ (g : GuestOf). g.top) (one_more_record o.kind records (record_with records head content)) ∙ kept_top (sent o.kind records) (is_verified (types_of records)) content none

  -- a list of P2M frames up to one has that one
  pub top_listed : (last : ℕ) (frames : List ℕ) → (before o (records ++ record_with records head (Lists last frames) ∷ [])).top ≡ greater (before o records).top last
  top_listed last frames = ap (λ (g : GuestOf). g.top) (one_more_record o.kind records (record_with records head (Lists last frames)))

-- a relay with the same records, and with this greatest frame number
pub records_topped : (old new : Relay) (o : Opening) (records : List StreamRecord) (types : List ℕ) (high higher : ℕ) → new.seen ≡ old.seen → new.top ≡ higher → KeepsRecords old o records types high → KeepsRecords new o records types higher
records_topped old new o records types high higher seen top kept = record { seen = subst (λ (s : RecordsSeen). IsSeen s o types) (sym seen) kept.seen; top = top; going = kept.going }

-- and with the same one
pub records_same : (old new : Relay) (o : Opening) (records : List StreamRecord) (types : List ℕ) (high : ℕ) → new.seen ≡ old.seen → new.top ≡ old.top → KeepsRecords old o records types high → KeepsRecords new o records types high
records_same old new o records types high seen top kept = records_topped old new o records types high high seen (top ∙ kept.top) kept

-- a relay that stands in front of a record's padding stands behind the whole record, once the padding was passed on
pub records_more : (r : Relay) (o : Opening) (records : List StreamRecord) (head : RecordHead) (content : Content) (high : ℕ) → KeepsRecords r o records (types_of records ++ head.kind ∷ []) high → head.kind ≢ 0
    → KeepsRecords r o (records ++ record_with records head content ∷ []) (types_of (records ++ record_with records head content ∷ [])) high
records_more r o records head content high kept other = record {
  seen = seen_more r.seen o records (record_with records head content) kept.seen;
  top = kept.top;
  going = going_on records (record_with records head content) kept.going other;
}

-- ---- the records of a libxl stream

-- a relay with the same wrapper and as many records
pub wrapper_same : (old new : Relay) (records : List LibxlRecord) → new.wrapper ≡ old.wrapper → new.seen ≡ old.seen → KeepsWrapper old records → KeepsWrapper new records
wrapper_same old new records same seen k = record { behind = k.behind; is = same ∙ k.is; are = k.are; number = subst (λ (s : RecordsSeen). HasNumber s.records (image_among records)) (sym seen) k.number }

pub going_same : (old new : Relay) (records : List LibxlRecord) → new.wrapper ≡ old.wrapper → new.seen ≡ old.seen → KeepsGoing old records → KeepsGoing new records
going_same old new records same seen kept = (wrapper_same old new records same seen kept.0, kept.1)

-- how many stand behind a relay
pub libxl_number : (r : Relay) (records : List LibxlRecord) (behind : RecordsBehind) → KeepsGoing r records → r.wrapper ≡ Some behind → behind.records ≡ length records
libxl_number r records behind kept was =
    let same : behind ≡ kept.0.behind = cc in
    ap (λ (b : RecordsBehind). b.records) same ∙ kept.0.are.count

module _ (records : List LibxlRecord) (r : LibxlRecord) where
  -- a record that isn't END leaves the stream open
  pub libxl_going_on : is_libxl_ended records ≡ false → r.type ≢ 0 → is_libxl_ended (records ++ r ∷ []) ≡ false
  libxl_going_on going other = libxl.ended_more records r going ∙ ne_eqb r.type 0 other

  -- END ends it
  pub libxl_ending : is_libxl_ended records ≡ false → r.type ≡ 0 → is_libxl_ended (records ++ r ∷ []) ≡ true
  libxl_ending going zero = libxl.ended_more records r going ∙ eq-eqb r.type 0 zero

  -- the image among the records is that among them with one more, which has none
  pub among_same : image_in r.content ≡ None → image_among (records ++ r ∷ []) ≡ image_among records
  among_same none = by (image_among records) refl
    where
      by : (image : Option ImageOf) → image_among records ≡ image → image_among (records ++ r ∷ []) ≡ image_among records
      by None is = among_first records r is ∙ none ∙ sym is
      by (Some image) is = among_more records (r ∷ []) image is ∙ sym is

  -- what is known of records with one more, which has no image
  pub behind_more : (behind : RecordsBehind) → AreBehind behind records → image_in r.content ≡ None → AreBehind (with_one r.type behind) (records ++ r ∷ [])
  behind_more behind are none = record {
    count = omega (arith, are.count, length-append records (r ∷ []));
    emulated = ap (λ b. b || (nat_eq r.type 2 || nat_eq r.type 3)) are.emulated ∙ sym (emulator_more records r);
    image = are.image ∙ ap kind_of_image (sym (among_same none));
  }

  -- a relay that has such a record behind it, too
  pub wrapped_more : (old new : Relay) (behind : RecordsBehind) → KeepsGoing old records → old.wrapper ≡ Some behind → new.wrapper ≡ Some (with_one r.type behind) → new.seen ≡ old.seen → image_in r.content ≡ None → r.type ≢ 0 → KeepsGoing new (records ++ r ∷ [])
  wrapped_more old new behind kept was now same none other = (
    record {
      behind = with_one r.type behind;
      is = now;
      are = behind_more behind (subst (λ (b : RecordsBehind). AreBehind b records) (cc) kept.0.are) none;
      number = subst (λ (image : Option ImageOf). HasNumber new.seen.records image) (sym (among_same none)) (subst (λ (seen : RecordsSeen). HasNumber seen.records (image_among records)) (sym same) kept.0.number);
    },
    libxl_going_on kept.1 other,
  )

-- ---- around an image

-- a relay in an image with the same wrapper
pub outer_same : (old new : Relay) (outer : Outer) → new.wrapper ≡ old.wrapper → KeepsOuter old outer → KeepsOuter new outer
outer_same old new Alone same kept = same ∙ kept
outer_same old new (Behind records) same (((wrapper, going), few), none) = (
  (
    (
      record {
        behind = wrapper.behind;
        is = same ∙ wrapper.is;
        are = wrapper.are;
        number = subst (HasNumber new.seen.records) (sym none) tt;
      },
      going,
    ),
    few,
  ),
  none,
)
