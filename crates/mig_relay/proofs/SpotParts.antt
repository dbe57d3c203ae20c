-- What comes next in a stream is a part of so many bytes, and what is judged behind it.
use Rattle.mig_relay.proofs.Common.{◌≡◌, ◌≢◌, ℕ, ◌<◌, nat_le, nat_lt, ◌==◌, Bool, cond, List, [], ◌∷◌, ◌++◌, length, take, drop, true, false, Option, Some, None, refl, sym, ap, ◌∙◌, arith, length-append, length-take-le, take-append-drop, lt-ltb, ltb-true, ltb-false, le-leb, ne_eqb, eq-eqb, padding_len, le32, Judged, ◌>>=◌, part, tried, placed, said_at, plain_at, Passes, Faulty, onward, said_part, no_bytes, part_whole, over, goes_on, LibxlRecord, LibxlContent, Image, Pairs, Context, marker_of, fault_of_marker, fault_of_libxl, Cause, Truncated, Place, ImageHeader, LibxlHeader, is_libxl_ended, emulator_key, fault_of_libxl_head, libxl_head_at, StreamOf, Bare, Wrapped, open_image_at, open_bare, open_content, open_inner, open_body, fault_of_libxl_body, pairs_in, head_in, RecordHead, Opening, StreamRecord, is_ended, ImageOf, image_of, AtMarker, AtVersion, AtHead, BeginsWithPart, Alone, Behind, AtLibxlHeader, AtLibxlHead, AtLibxlBody, AtLibxlPadding, AtStart, InImage, AtEnd, spot, carry, image_record, is_ident, fault_of_first, lt-leb, libxl_padded}
use Rattle.std.proofs.Common.{drop_at}
use Rattle.mig_libxl_form.specs.Content.LibxlContent.{Nothing}
use Rattle.mig_headers.specs.declared.fault.Place.TheVariants.{LibxlRecord as AtRecord}
use Rattle.mig_relay.specs.Streams.{open_stream_at, open_wrapped, open_libxl_records, open_libxl_record}
use Rattle.mig_relay.proofs.Records.{libxl_shrinks}
use Rattle.mig_relay.proofs.Unrolls.{bind_assoc, marker_is, ended}

-- a part of an image is one of the stream around it, too
pub lifted : {X Y : Type 0} {judged_here : List ℕ → Judged (Place × Cause) X} {place : Place} {size : ℕ} {fault : List ℕ → Option Cause} {follows : List ℕ → List ℕ → Judged (Place × Cause) X} (k : X × List ℕ → Judged (Place × Cause) Y) → BeginsWithPart judged_here place size fault follows
    → BeginsWithPart (λ i. judged_here i >>= k) place size fault (λ b i. follows b i >>= k)
lifted {X} {Y} {judged_here} {place} {size} {fault} {follows} k is = record {
  judged = λ i. ap (λ (j : Judged (Place × Cause) X). j >>= k) (is.judged i) ∙ bind_assoc (placed place (said_at Truncated fault (λ b. b) size i)) (λ b. follows b.0 b.1) k;
  some = is.some;
}

-- ---- the first 8 bytes

abbrev pub start_follows : List ℕ → List ℕ → Judged (Place × Cause) StreamOf
start_follows bytes i = cond (is_ident bytes) (spot AtLibxlHeader i) (spot (InImage Alone AtVersion) i)

abbrev bare : ImageOf × List ℕ → Judged (Place × Cause) StreamOf
bare image = Passes (Bare image.0) image.1

abbrev first : List ℕ → Judged (Place × Cause) StreamOf
first i = placed ImageHeader (said_at Truncated fault_of_first (λ b. b) 8 i) >>= λ b. start_follows b.0 b.1

alone_is : (i : List ℕ) → open_bare i ≡ (placed ImageHeader (said_at Truncated fault_of_marker (λ b. b) 8 i) >>= λ b. spot (InImage Alone AtVersion) b.1)
alone_is i = (lifted bare marker_is).judged i

-- fewer than 8 bytes
short_start : (i : List ℕ) → length i < 8 → open_stream_at i ≡ first i
unfolding open_stream_at
short_start i less =
    rw (lt-leb 8 (length i) less) (alone_is i ∙ rw (lt-ltb (length i) 8 less) refl)

whole_start : (bytes rest : List ℕ) → length bytes ≡ 8 → open_stream_at (bytes ++ rest) ≡ first (bytes ++ rest)
unfolding open_stream_at
whole_start bytes rest eight = by (is_ident bytes) refl
  where
    long : nat_le 8 (length (bytes ++ rest)) ≡ true
    long = le-leb 8 (length (bytes ++ rest)) (omega (arith, length-append bytes rest, eight))

    by : (b : Bool) → is_ident bytes ≡ b → open_stream_at (bytes ++ rest) ≡ first (bytes ++ rest)
    by true is = rw (long, marker_of bytes rest eight, is, part_whole {C = Cause} Truncated 8 bytes rest eight, is) (ap open_wrapped (drop_at bytes rest 8 eight) ∙ sym (ap (λ b. cond b (spot AtLibxlHeader rest) (spot (InImage Alone AtVersion) rest)) is))
    by false is = rw (long, marker_of bytes rest eight, is) (alone_is (bytes ++ rest) ∙ rw (part_whole {C = Cause} Truncated 8 bytes rest eight, is) (marked (fault_of_marker bytes)))
      where
        marked : (g : Option Cause) → (placed ImageHeader (tried g rest >>= λ _. Passes bytes rest) >>= λ b. spot (InImage Alone AtVersion) b.1) ≡ (placed ImageHeader (tried g rest >>= λ _. Passes bytes rest) >>= λ b. start_follows b.0 b.1)
        marked (Some c) = refl
        marked None = rw is refl

pub start_is : BeginsWithPart (spot AtStart) ImageHeader 8 fault_of_first start_follows
start_is = record { judged = by; some = omega arith }
  where
    by : (i : List ℕ) → open_stream_at i ≡ first i
    by i = split (nat_lt (length i) 8) refl
      where
        split : (b : Bool) → nat_lt (length i) 8 ≡ b → open_stream_at i ≡ first i
        split true less = short_start i (ltb-true _ _ less)
        split false long =
            let le = ltb-false _ _ long in
            let whole = take-append-drop 8 i in
            ap open_stream_at (sym whole) ∙ whole_start (take 8 i) (drop 8 i) (length-take-le 8 i le) ∙ ap first whole

-- ---- the header of a libxl stream

pub header_is : BeginsWithPart (spot AtLibxlHeader) LibxlHeader 8 fault_of_libxl (λ _ i. spot (AtLibxlHead []) i)
unfolding open_wrapped
header_is = record { judged = λ i. refl; some = omega arith }

-- ---- records of a libxl stream

-- what a body of this type says
abbrev pub libxl_content : ℕ → List ℕ → LibxlContent
libxl_content type body = cond (type == 2) (Pairs (emulator_key 258 body) (pairs_in (drop 8 body))) (cond (type == 3) (Context (emulator_key 259 body) (drop 8 body)) Nothing)

plain_said : {X : Type 0} (says : List ℕ → X) (n : ℕ) (i : List ℕ) → plain_at {C = Cause} Truncated says n i ≡ said_at Truncated (λ _. None) says n i
plain_said says n i = by (part Truncated n i)
  where
    by : (j : Judged Cause (List ℕ)) → (j >>= λ b. Passes (says b.0) b.1) ≡ (j >>= λ b. tried None b.1 >>= λ _. Passes (says b.0) b.1)
    by (Passes b rest) = refl
    by (Faulty c rest) = refl

pub open_body_is : (type len : ℕ) (i : List ℕ) → open_body type len i ≡ said_at Truncated (fault_of_libxl_body type) (libxl_content type) len i
open_body_is type len i = by (type == 2) (type == 3) refl refl
  where
    by : (two three : Bool) → (type == 2) ≡ two → (type == 3) ≡ three → open_body type len i ≡ said_at Truncated (fault_of_libxl_body type) (libxl_content type) len i
    by true three is other = rw is refl
    by false true is other = rw (is, other) refl
    by false false is other = rw (is, other) (plain_said (λ _. Nothing) len i)

abbrev pub behind_libxl_head : List LibxlRecord → RecordHead → List ℕ → Judged (Place × Cause) StreamOf
behind_libxl_head records head i = open_content records head.kind head.len i >>= λ content. libxl_padded records head content.0 content.1

module _ (records : List LibxlRecord) where
  abbrev here : Place
  here = AtRecord (length records)

  abbrev wrapped : List LibxlRecord × List ℕ → Judged (Place × Cause) StreamOf
  wrapped all = Passes (Wrapped all.0) all.1

  opened : (i : List ℕ) → is_libxl_ended records ≡ false → open_libxl_records records i ≡ (open_libxl_record records i >>= λ r. open_libxl_records (records ++ r.0 ∷ []) r.1)
  unfolding open_libxl_records
  opened i going =
      ap (λ (j : Judged (Place × Cause) (List LibxlRecord)). j >>= wrapped) (goes_on is_libxl_ended open_libxl_record libxl_shrinks records i going)
      ∙ bind_assoc (open_libxl_record records i) (λ r. onward is_libxl_ended open_libxl_record (records ++ r.0 ∷ []) r.1) wrapped

  pub libxl_ended : (i : List ℕ) → is_libxl_ended records ≡ true → open_libxl_records records i ≡ Passes (Wrapped records) i
  unfolding open_libxl_records
  libxl_ended i over_now = ap (λ (j : Judged (Place × Cause) (List LibxlRecord)). j >>= wrapped) (over is_libxl_ended open_libxl_record records i over_now)

  abbrev record_of : RecordHead → LibxlContent → LibxlRecord
  record_of head content = record { type = head.kind; content = content }

  abbrev pub with_libxl : RecordHead → LibxlContent → List LibxlRecord
  with_libxl head content = records ++ record { type = head.kind; content = content } ∷ []

  -- a record behind its head, and all that follows it
  regrouped : (head : RecordHead) (j : Judged (Place × Cause) LibxlContent)
      → ((j >>= λ content. placed here (part Truncated (padding_len head.len) content.1) >>= λ padding. Passes (record_of head content.0) padding.1) >>= λ r. open_libxl_records (records ++ r.0 ∷ []) r.1)
      ≡ (j >>= λ content. libxl_padded records head content.0 content.1)
  regrouped head (Faulty c rest) = refl
  regrouped head (Passes content rest) = bind_assoc (placed here (part Truncated (padding_len head.len) rest)) (λ padding. Passes (record_of head content) padding.1) (λ r. open_libxl_records (records ++ r.0 ∷ []) r.1)

  unrolled : (j : Judged (Place × Cause) (List ℕ))
      → ((j >>= λ head. open_content records (le32 head.0 0) (le32 head.0 4) head.1 >>= λ content. placed here (part Truncated (padding_len (le32 head.0 4)) content.1) >>= λ padding. Passes (record_of (head_in head.0) content.0) padding.1) >>= λ r. open_libxl_records (records ++ r.0 ∷ []) r.1)
      ≡ (j >>= λ head. behind_libxl_head records (head_in head.0) head.1)
  unrolled (Faulty c rest) = refl
  unrolled (Passes head rest) = regrouped (head_in head) (open_content records (le32 head 0) (le32 head 4) rest)

  pub libxl_head_is : is_libxl_ended records ≡ false → BeginsWithPart (spot (AtLibxlHead records)) here 8 (λ head. fault_of_libxl_head records (le32 head 0) (le32 head 4)) (λ b i. behind_libxl_head records (head_in b) i)
  unfolding open_libxl_record
  libxl_head_is going = record { judged = λ i. opened i going ∙ unrolled (placed here (libxl_head_at records i)); some = omega arith }

  module _ (head : RecordHead) where
    pub libxl_body_is : 0 < head.len → BeginsWithPart (spot (AtLibxlBody records head)) here head.len (fault_of_libxl_body head.kind) (λ b i. spot (AtLibxlPadding records head (libxl_content head.kind b)) i)
    libxl_body_is some = record {
      judged = λ i.
          ap (λ (j : Judged Cause LibxlContent). placed here j >>= λ content. libxl_padded records head content.0 content.1) (open_body_is head.kind head.len i)
          ∙ said_part here Truncated (libxl_content head.kind) (λ content. libxl_padded records head content.0 content.1) (fault_of_libxl_body head.kind) head.len i;
      some = some;
    }

    pub libxl_padding_is : (content : LibxlContent) → 0 < padding_len head.len → BeginsWithPart (spot (AtLibxlPadding records head content)) here (padding_len head.len) (λ _. None) (λ _ i. spot (AtLibxlHead (with_libxl head content)) i)
    libxl_padding_is content some = record {
      judged = λ i. by (part Truncated (padding_len head.len) i);
      some = some;
    }
      where
        by : (j : Judged Cause (List ℕ)) → (placed here j >>= λ padding. open_libxl_records (with_libxl head content) padding.1) ≡ (placed here (j >>= λ b. tried None b.1 >>= λ _. Passes b.0 b.1) >>= λ b. open_libxl_records (with_libxl head content) b.1)
        by (Passes b rest) = refl
        by (Faulty c rest) = refl

    pub libxl_no_padding : (content : LibxlContent) (i : List ℕ) → padding_len head.len ≡ 0 → libxl_padded records head content i ≡ spot (AtLibxlHead (with_libxl head content)) i
    libxl_no_padding content i none =
        ap (λ n. placed here (part Truncated n i) >>= λ padding. open_libxl_records (with_libxl head content) padding.1) none
        ∙ ap (λ (j : Judged Cause (List ℕ)). placed here j >>= λ padding. open_libxl_records (with_libxl head content) padding.1) (no_bytes Truncated i)

    -- a body that isn't an image
    pub libxl_bodied : head.kind ≢ 1 → (i : List ℕ) → behind_libxl_head records head i ≡ spot (AtLibxlBody records head) i
    libxl_bodied other i = rw (ne_eqb head.kind 1 other) refl

    -- an empty one
    pub libxl_empty : head.kind ≢ 1 → head.len ≡ 0 → fault_of_libxl_body head.kind [] ≡ None → (i : List ℕ) → behind_libxl_head records head i ≡ spot (AtLibxlHead (with_libxl head (libxl_content head.kind []))) i
    libxl_empty other none fine i =
        libxl_bodied other i
        ∙ ap (λ (j : Judged Cause LibxlContent). placed here j >>= λ content. libxl_padded records head content.0 content.1) (open_body_is head.kind head.len i ∙ ap (λ n. said_at Truncated (fault_of_libxl_body head.kind) (libxl_content head.kind) n i) none
        ∙ ap (λ (j : Judged Cause (List ℕ)). j >>= λ b. tried (fault_of_libxl_body head.kind b.0) b.1 >>= λ _. Passes (libxl_content head.kind b.0) b.1) (no_bytes Truncated i))
        ∙ ap (λ (g : Option Cause). placed here (tried g i >>= λ _. Passes (libxl_content head.kind []) i) >>= λ content. libxl_padded records head content.0 content.1) fine
        ∙ libxl_no_padding (libxl_content head.kind []) i (ap padding_len none)

    -- LIBXC_CONTEXT: its image, and then the next record
    pub libxl_image : head.kind ≡ 1 → head.len ≡ 0 → (i : List ℕ) → behind_libxl_head records head i ≡ spot (InImage (Behind records) AtMarker) i
    libxl_image one none i = ap (λ b. cond b (open_inner i) (placed here (open_body head.kind head.len i)) >>= λ content. libxl_padded records head content.0 content.1) (eq-eqb head.kind 1 one) ∙ by (open_image_at i)
      where
        by : (j : Judged (Place × Cause) ImageOf) → ((j >>= λ image. Passes (Image image.0) image.1) >>= λ content. libxl_padded records head content.0 content.1) ≡ (j >>= carry (Behind records))
        by (Faulty c rest) = refl
        by (Passes image rest) = libxl_no_padding (Image image) rest (ap padding_len none) ∙ ap (λ t. open_libxl_records (records ++ record { type = t; content = Image image } ∷ []) rest) one

-- ---- the end of an image

pub alone_ended : (o : Opening) (records : List StreamRecord) (i : List ℕ) → is_ended records ≡ true → spot (InImage Alone (AtHead o records)) i ≡ spot (AtEnd (Bare (image_of o records))) i
alone_ended o records i over_now = ap (λ (j : Judged (Place × Cause) ImageOf). j >>= carry Alone) (ended o records i over_now)

pub wrapped_ended : (around : List LibxlRecord) (o : Opening) (records : List StreamRecord) (i : List ℕ) → is_ended records ≡ true → spot (InImage (Behind around) (AtHead o records)) i ≡ spot (AtLibxlHead (around ++ image_record (image_of o records) ∷ [])) i
wrapped_ended around o records i over_now = ap (λ (j : Judged (Place × Cause) ImageOf). j >>= carry (Behind around)) (ended o records i over_now)
