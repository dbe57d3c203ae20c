-- What a viewer has seen behind a step of the relay.
use Rattle.mig_show.proofs.Common.{◌≡◌, ◌≢◌, ◌⊎◌, inl, inr, ℕ, ◌+◌, ◌*◌, ◌≤◌, Bool, true, false, List, [], ◌++◌, length, take, Option, Some, None, refl, sym, ap, subst, ◌∙◌, arith, append_assoc, append-nil, length-append, count_by, is_some, padding_len, le32, LibxlRecord, ImageHeader, DomainHeader, Record, kind_of_number, head_in, RecordHead, Due, ComesBehind, NothingDue, CountDue, WordsDue, bytes_behind_head, due, head_spot, in_hand, place_of_spot, to_come, words_in_hand, Next, AtMarker, AtVersion, AtKind, AtHead, AtBody, AtFront, AtWords, AtPages, AtPadding, Outer, Alone, Behind, Spot, AtStart, AtLibxlHeader, AtLibxlHead, AtLibxlBody, AtLibxlPadding, InImage, AtEnd, begins_with_ident, Step, Relay, ShownFront, StandsBefore, StandsWhole, of_form, libxl_number, image_first, header_first, libxl_header, image_header, domain_header, SeenState, with_step, with_end, is_page_data, Seen1, nat_le, ◌&&◌, ◌||◌, option_map, drop-append-add, take-append-le, take_all, le-leb, ne_eqb, eq-eqb, FillsBody, ComesNext, image_opens, wrapper_opens, wrapper_header, marker, version, kind, libxl_begins, libxl_whole, image_begins, pages_begin, image_whole, count, more, whole, is_ident, IsStep, begun_record, counted_record, with_hand, true≢false, nil_from_length}
use Rattle.std.proofs.lemmas.Option.{none-some}
use Rattle.std.proofs.Math.Bool.{or-false}
use Rattle.byteorder.specs.Endian.{big_number}
use Rattle.mig_bytes.specs.Fields.{be32}
use Rattle.mig_headers.specs.declared.kind.Kind.{Kind as KindOf}
use Rattle.mig_pagetypes.specs.FrameWords.{word_has_data}
use Rattle.mig_records.specs.Words.{words}
use Rattle.mig_restore_form.specs.Judging.{Opening}
use Rattle.mig_restore_form.specs.Record.{StreamRecord}
use Rattle.mig_relay.proofs.Paging.{words_number}
use Rattle.mig_show.proofs.Stages.{Has, HandOf, HasSome, InHand, IsAround, IsAroundImage, finished, is_libxl, is_start, more_some, opened, same_at_head, stood}
use Rattle.mig_relay.specs.declared.answer.Step.TheVariants as steps

-- ---- which step passes on more of the record in hand

held_image : (outer : Outer) (next : Next) (head : RecordHead) (piece : List ℕ) (t : Relay) (step : Step) → in_hand (InImage outer next) ≡ Some head → IsStep (InImage outer next) piece t step
    → ((step ≡ steps.Piece) × (due (InImage outer next) ≢ CountDue → due (InImage outer next) ≡ NothingDue)) ⊎ ((step ≡ steps.Words) × (n : ℕ) × (due (InImage outer next) ≡ WordsDue n) × (words_in_hand t ≡ words n piece) × (length piece ≡ 8 * n))
held_image outer AtMarker head piece t step hand e = absurd (none-some _ hand)
held_image outer AtVersion head piece t step hand e = absurd (none-some _ hand)
held_image outer (AtKind n) head piece t step hand e = absurd (none-some _ hand)
held_image outer (AtHead o records) head piece t step hand e = absurd (none-some _ hand)
held_image outer (AtBody o records h) head piece t steps.Piece hand e = inl (refl, λ _. refl)
held_image outer (AtBody o records h) head piece t _ hand e = absurd e
held_image outer (AtFront o records h) head piece t steps.Piece hand e = inl (refl, λ counted. absurd (counted refl))
held_image outer (AtFront o records h) head piece t _ hand e = absurd e
held_image outer (AtWords o records h n) head piece t steps.Words hand e = inr (refl, n, refl, e.0, e.1)
held_image outer (AtWords o records h n) head piece t steps.Piece hand e = absurd (true≢false (sym e.0))
held_image outer (AtWords o records h n) head piece t _ hand e = absurd e
held_image outer (AtPages o records h coming behind) head piece t steps.Piece hand e = inl (refl, λ _. refl)
held_image outer (AtPages o records h coming behind) head piece t _ hand e = absurd e
held_image outer (AtPadding o records h content) head piece t steps.Piece hand e = inl (refl, λ _. refl)
held_image outer (AtPadding o records h content) head piece t _ hand e = absurd e

held_step : (here : Spot) (head : RecordHead) (piece : List ℕ) (t : Relay) (step : Step) → in_hand here ≡ Some head → IsStep here piece t step
    → ((step ≡ steps.Piece) × (due here ≢ CountDue → due here ≡ NothingDue)) ⊎ ((step ≡ steps.Words) × (n : ℕ) × (due here ≡ WordsDue n) × (words_in_hand t ≡ words n piece) × (length piece ≡ 8 * n))
held_step AtStart head piece t step hand e = absurd (none-some _ hand)
held_step AtLibxlHeader head piece t step hand e = absurd (none-some _ hand)
held_step (AtLibxlHead records) head piece t step hand e = absurd (none-some _ hand)
held_step (AtLibxlBody records h) head piece t steps.Piece hand e = inl (refl, λ _. refl)
held_step (AtLibxlBody records h) head piece t _ hand e = absurd e
held_step (AtLibxlPadding records h content) head piece t steps.Piece hand e = inl (refl, λ _. refl)
held_step (AtLibxlPadding records h content) head piece t _ hand e = absurd e
held_step (InImage outer next) head piece t step hand e = held_image outer next head piece t step hand e
held_step (AtEnd s) head piece t step hand e = absurd (none-some _ hand)

hand_goes_on : (s : Spot) (head : RecordHead) → in_hand s ≡ Some head → is_start s ≡ false
hand_goes_on AtStart head hand = absurd (none-some _ hand)
hand_goes_on _ head hand = refl

-- ---- the bytes tell the form

pub form_on : (bytes piece : List ℕ) → 8 ≤ length bytes → begins_with_ident (bytes ++ piece) ≡ begins_with_ident bytes
form_on bytes piece long =
    let all : nat_le 8 (length (bytes ++ piece)) ≡ true = le-leb 8 (length (bytes ++ piece)) (omega (arith, long, length-append bytes piece)) in
    ap (λ b. b && is_ident (take 8 (bytes ++ piece))) (all ∙ sym (le-leb 8 (length bytes) long)) ∙ ap (λ l. nat_le 8 (length bytes) && is_ident l) (take-append-le 8 bytes piece long)

first_form : (bytes piece : List ℕ) → bytes ≡ [] → length piece ≡ 8 → begins_with_ident (bytes ++ piece) ≡ is_ident piece
first_form bytes piece none size =
    ap (λ l. begins_with_ident (l ++ piece)) none ∙ ap (λ b. b && is_ident (take 8 piece)) (le-leb 8 (length piece) (omega (arith, size))) ∙ ap is_ident (take_all 8 piece (omega (arith, size)))

-- ---- fields of bytes behind others

past_be32 : (front xs : List ℕ) (k : ℕ) → be32 (front ++ xs) (length front + k) ≡ be32 xs k
unfolding be32
past_be32 front xs k = ap (big_number 4) (drop-append-add front xs k)

-- ---- behind a head

pub headed : (head : RecordHead) (wrapped : Bool) (part piece : List ℕ) (shown : Seen1) → length part ≡ 0 → length piece ≡ 8 → head_in piece ≡ head → shown ≡ begun_record wrapped head → {d : Due} → HasSome d [] head shown → InHand head d (bytes_behind_head head) wrapped [] (part ++ piece) shown
headed head wrapped part piece shown none size is begun some = record {
  first = piece;
  inner = [];
  whole = ap (λ l. l ++ piece) (nil_from_length part none) ∙ sym (append-nil piece);
  first_len = size;
  headed = is;
  kind = ap (λ (s : Seen1). s.kind) begun;
  len = ap (λ (s : Seen1). s.len) begun;
  layer = ap (λ (s : Seen1). s.wrapped) begun;
  size = omega arith;
  words = some;
}

-- ---- what stays behind any piece

module _ (bytes piece front part : List ℕ) (split : bytes ≡ front ++ part) (long : 8 ≤ length bytes) where
  split_more : bytes ++ piece ≡ front ++ (part ++ piece)
  split_more = ap (λ l. l ++ piece) split ∙ append_assoc front part piece

  split_whole : bytes ++ piece ≡ (front ++ (part ++ piece)) ++ []
  split_whole = split_more ∙ sym (append-nil (front ++ (part ++ piece)))

  long_more : 8 ≤ length (bytes ++ piece)
  long_more = omega (arith, long, length-append bytes piece)

  form_more : (wrapper was : Bool) → wrapper ≡ was → was ≡ begins_with_ident bytes → wrapper ≡ begins_with_ident (bytes ++ piece)
  form_more wrapper was same is = same ∙ is ∙ sym (form_on bytes piece long)

  -- what comes next isn't the start, and the piece is more of a part, or the rest of it
  module _ (next : Spot) (begun : List ℕ) (later : SeenState) (was : Bool) (on : is_start next ≡ false) (form : later.front.wrapper ≡ was) (is : was ≡ begins_with_ident bytes) (around : IsAround next later.front) where
    more_has : StandsBefore front later.front (place_of_spot next) → HandOf (in_hand next) (due next) (to_come next) (is_libxl next) (opened next) begun (part ++ piece) later.hand → Has next begun (bytes ++ piece) later
    more_has stands hand =
        record { front = front; part = part ++ piece; split = split_more; stands = stands; hand = hand; around = around; form = form_more later.front.wrapper was form is; long = λ _. long_more; none = λ never. absurd (true≢false (sym never ∙ on)) }

    rest_has : StandsBefore (front ++ (part ++ piece)) later.front (place_of_spot next) → HandOf (in_hand next) (due next) (to_come next) (is_libxl next) (opened next) begun [] later.hand → Has next begun (bytes ++ piece) later
    rest_has stands hand =
        record { front = front ++ (part ++ piece); part = []; split = split_whole; stands = stands; hand = hand; around = around; form = form_more later.front.wrapper was form is; long = λ _. long_more; none = λ never. absurd (true≢false (sym never ∙ on)) }

-- nothing was in hand
unhanded : (seen : SeenState) → seen.hand ≡ None → with_end false seen ≡ seen
unhanded seen none = ap {B = SeenState} (λ (o : Option Seen1). record { front = with_hand seen.front o; hand = None }) none ∙ ap {B = SeenState} (λ (o : Option Seen1). record { front = seen.front; hand = o }) (sym none)

around_same : (outer : Outer) (front other : ShownFront) → other.wrapper ≡ front.wrapper → libxl_number other ≡ libxl_number front → IsAroundImage outer front → IsAroundImage outer other
around_same Alone front other form number (w, n) = (form ∙ w, number ∙ n)
around_same (Behind records) front other form number (w, n) = (form ∙ w, number ∙ n)

-- ---- headers

-- the first 8 bytes, behind which this comes next: nothing is in hand, and the form is known
first_passed : (wrapped : Bool) (next : Spot) (bytes piece : List ℕ) (seen : SeenState) (t : Relay) → length piece ≡ 8 → is_ident piece ≡ wrapped → StandsBefore [] (of_form wrapped) (place_of_spot next) → IsAround next (of_form wrapped) → is_start next ≡ false
    → (seen.hand ≡ None → HandOf (in_hand next) (due next) (to_come next) (is_libxl next) (opened next) [] piece seen.hand) → Has AtStart [] bytes seen → (step : Step) → IsStep AtStart piece t step → Has next [] (bytes ++ piece) (with_end false (with_step seen step (words_in_hand t)))
first_passed wrapped next bytes piece seen t size is stands around on hand h (steps.Marker w) e =
    let seen2 : SeenState = with_step seen (steps.Marker w) (words_in_hand t) in
    let same : seen2.front ≡ of_form wrapped = ap {B = ShownFront} (λ (f : ShownFront). record f { wrapper = f.wrapper || w }) h.around ∙ ap of_form (e ∙ is) in
    subst (Has next [] (bytes ++ piece)) (sym (unhanded seen2 h.hand.0))
    (record {
      front = [];
      part = piece;
      split = ap (λ l. l ++ piece) (h.none refl);
      stands = subst (λ (f : ShownFront). StandsBefore [] f (place_of_spot next)) (sym same) stands;
      hand = hand h.hand.0;
      around = subst (IsAround next) (sym same) around;
      form = ap (λ (f : ShownFront). f.wrapper) same ∙ sym (first_form bytes piece (h.none refl) size ∙ is);
      long = λ _. omega (arith, size, length-append bytes piece);
      none = λ never. absurd (true≢false (sym never ∙ on));
    })
first_passed wrapped next bytes piece seen t size is stands around on hand h steps.Piece e = absurd (true≢false (sym e.0))
first_passed wrapped next bytes piece seen t size is stands around on hand h _ e = absurd e

header_passed : (bytes piece : List ℕ) (seen : SeenState) (t : Relay) → length piece ≡ 8 → Has AtLibxlHeader [] bytes seen → (step : Step) → IsStep AtLibxlHeader piece t step → Has (AtLibxlHead []) [] (bytes ++ piece) (with_end false (with_step seen step (words_in_hand t)))
header_passed bytes piece seen t size h steps.Piece e =
    subst (Has (AtLibxlHead []) [] (bytes ++ piece)) (sym (unhanded seen h.hand.0))
    (rest_has bytes piece h.front h.part h.split (h.long refl) (AtLibxlHead []) [] seen _ refl refl h.form h.around (libxl_header h.front (h.part ++ piece) seen.front h.stands (omega (arith, size, h.hand.1, length-append h.part piece))) (h.hand.0, refl))
header_passed bytes piece seen t size h _ e = absurd e

marker_passed : (outer : Outer) (bytes piece : List ℕ) (seen : SeenState) (t : Relay) → length piece ≡ 8 → Has (InImage outer AtMarker) [] bytes seen → (step : Step) → IsStep (InImage outer AtMarker) piece t step → Has (InImage outer AtVersion) [] (bytes ++ piece) (with_end false (with_step seen step (words_in_hand t)))
marker_passed outer bytes piece seen t size h (steps.Marker w) e =
    let seen2 : SeenState = with_step seen (steps.Marker w) (words_in_hand t) in
    let same : seen2.front ≡ seen.front = ap {B = ShownFront} (λ b. record seen.front { wrapper = seen.front.wrapper || b }) e ∙ ap {B = ShownFront} (λ b. record seen.front { wrapper = b }) (or-false seen.front.wrapper) in
    subst (Has (InImage outer AtVersion) [] (bytes ++ piece)) (sym (unhanded seen2 h.hand.0))
    (more_has bytes piece h.front h.part h.split (h.long refl) (InImage outer AtVersion) [] seen2 _ refl (ap (λ (f : ShownFront). f.wrapper) same) h.form (subst (IsAroundImage outer) (sym same) h.around)
    (subst (λ (f : ShownFront). StandsBefore h.front f (Some ImageHeader)) (sym same) h.stands) (h.hand.0, omega (arith, size, h.hand.1, length-append h.part piece)))
marker_passed outer bytes piece seen t size h steps.Piece e = absurd (true≢false (sym e.0))
marker_passed outer bytes piece seen t size h _ e = absurd e

version_passed : (outer : Outer) (n : ℕ) (bytes piece : List ℕ) (seen : SeenState) (t : Relay) → length piece ≡ 16 → Has (InImage outer AtVersion) [] bytes seen → (step : Step) → IsStep (InImage outer AtVersion) piece t step → Has (InImage outer (AtKind n)) [] (bytes ++ piece) (with_end false (with_step seen step (words_in_hand t)))
version_passed outer n bytes piece seen t size h (steps.Version v) e =
    let seen2 : SeenState = with_step seen (steps.Version v) (words_in_hand t) in
    let at : 12 ≡ length h.part + 4 = omega (arith, h.hand.1) in
    let field : be32 (h.part ++ piece) 12 ≡ v = ap (be32 (h.part ++ piece)) at ∙ past_be32 h.part piece 4 ∙ sym e in
    subst (Has (InImage outer (AtKind n)) [] (bytes ++ piece)) (sym (unhanded seen2 h.hand.0))
    (rest_has bytes piece h.front h.part h.split (h.long refl) (InImage outer (AtKind n)) [] seen2 _ refl refl h.form (around_same outer seen.front seen2.front refl refl h.around)
    (subst (λ m. StandsBefore (h.front ++ (h.part ++ piece)) (record seen.front { version = Some m }) (Some DomainHeader)) field
    (image_header h.front (h.part ++ piece) seen.front h.stands (omega (arith, size, h.hand.1, length-append h.part piece)))) (h.hand.0, refl))
version_passed outer n bytes piece seen t size h steps.Piece e = absurd (true≢false (sym e.0))
version_passed outer n bytes piece seen t size h _ e = absurd e

kind_passed : (outer : Outer) (n : ℕ) (o : Opening) (bytes piece : List ℕ) (seen : SeenState) (t : Relay) → length piece ≡ 16 → Has (InImage outer (AtKind n)) [] bytes seen → (step : Step) → IsStep (InImage outer (AtKind n)) piece t step → Has (InImage outer (AtHead o [])) [] (bytes ++ piece) (with_end false (with_step seen step (words_in_hand t)))
kind_passed outer n o bytes piece seen t size h (steps.Kind k) e =
    let seen2 : SeenState = with_step seen (steps.Kind k) (words_in_hand t) in
    let field : kind_of_number (le32 (h.part ++ piece) 0) ≡ k = ap (λ l. kind_of_number (le32 (l ++ piece) 0)) (nil_from_length h.part h.hand.1) ∙ sym e in
    subst (Has (InImage outer (AtHead o [])) [] (bytes ++ piece)) (sym (unhanded seen2 h.hand.0))
    (rest_has bytes piece h.front h.part h.split (h.long refl) (InImage outer (AtHead o [])) [] seen2 _ refl refl h.form (around_same outer seen.front seen2.front refl refl h.around)
    (subst (λ (m : KindOf). StandsBefore (h.front ++ (h.part ++ piece)) (record seen.front { kind = Some m }) (Some (Record 0))) field
    (domain_header h.front (h.part ++ piece) seen.front h.stands (omega (arith, size, h.hand.1, length-append h.part piece)))) (h.hand.0, refl))
kind_passed outer n o bytes piece seen t size h steps.Piece e = absurd (true≢false (sym e.0))
kind_passed outer n o bytes piece seen t size h _ e = absurd e

-- ---- the end of a record

ended : {at next : Spot} {type : ℕ} → ComesBehind at type next → (bytes piece front part : List ℕ) (seen : SeenState) (shown : Seen1) → bytes ≡ front ++ part → 8 ≤ length bytes → seen.front.wrapper ≡ begins_with_ident bytes → StandsBefore front seen.front (place_of_spot at) → IsAround at seen.front
    → StandsWhole (is_libxl at) (part ++ piece) shown → shown.kind ≡ type → seen.hand ≡ Some shown → Has next [] (bytes ++ piece) (with_end (is_some (in_hand next)) seen)
ended {at} {next} behind bytes piece front part seen shown split long form stands around stands_whole kind_is hand =
    let s = stood behind front (part ++ piece) seen.front shown stands stands_whole kind_is around in
    subst (λ b. Has next [] (bytes ++ piece) (with_end b seen)) (sym (ap is_some s.none))
    (subst (λ (o : Option Seen1). Has next [] (bytes ++ piece) (record { front = with_hand seen.front o; hand = None })) (sym hand)
    (rest_has bytes piece front part split long next [] (record { front = with_hand seen.front (Some shown); hand = None }) _ s.goes_on refl form s.around s.stands
    (subst (λ (o : Option RecordHead). HandOf o (due next) (to_come next) (is_libxl next) (opened next) [] [] None) (sym s.none) (refl, sym s.nothing_opened))))

-- ---- heads

-- a head of this layer
module _ (bytes piece : List ℕ) (seen : SeenState) (wrapped w : Bool) (head : RecordHead) (w_is : w ≡ wrapped) (head_is : head ≡ head_in piece) where
  abbrev its : Seen1
  its = begun_record wrapped (head_in piece)

  begun_is : ◌≡◌ {A = Option Seen1} (Some (begun_record w head)) (Some its)
  begun_is = ap (λ b. Some (begun_record b head)) w_is ∙ ap (λ (h : RecordHead). Some (begun_record wrapped h)) head_is

libxl_begun : (records : List LibxlRecord) (bytes piece : List ℕ) (seen : SeenState) (t : Relay) → length piece ≡ 8 → Has (AtLibxlHead records) [] bytes seen → (step : Step) → IsStep (AtLibxlHead records) piece t step → Has (AtLibxlBody records (head_in piece)) [] (bytes ++ piece) (with_end true (with_step seen step (words_in_hand t)))
libxl_begun records bytes piece seen t size h (steps.Head w head) e =
    more_has bytes piece h.front h.part h.split (h.long refl) (AtLibxlBody records (head_in piece)) [] (with_step seen (steps.Head w head) (words_in_hand t)) _ refl refl h.form h.around h.stands
    (begun_record true (head_in piece), begun_is bytes piece seen true w head e.0 e.1, headed (head_in piece) true h.part piece _ h.hand.1 size refl refl (λ paged. absurd (true≢false (sym paged)), λ _. (refl, refl)))
libxl_begun records bytes piece seen t size h steps.Piece e = absurd (true≢false (sym e.0))
libxl_begun records bytes piece seen t size h _ e = absurd e

image_begun : (outer : Outer) (o : Opening) (records : List StreamRecord) (bytes piece : List ℕ) (seen : SeenState) (t : Relay) → length piece ≡ 8 → (head_in piece).kind ≢ 1 → Has (InImage outer (AtHead o records)) [] bytes seen → (step : Step) → IsStep (InImage outer (AtHead o records)) piece t step
    → Has (InImage outer (AtBody o records (head_in piece))) [] (bytes ++ piece) (with_end true (with_step seen step (words_in_hand t)))
image_begun outer o records bytes piece seen t size other h (steps.Head w head) e =
    more_has bytes piece h.front h.part h.split (h.long refl) (InImage outer (AtBody o records (head_in piece))) [] (with_step seen (steps.Head w head) (words_in_hand t)) _ refl refl h.form h.around h.stands
    (begun_record false (head_in piece), begun_is bytes piece seen false w head e.0 e.1, headed (head_in piece) false h.part piece _ h.hand.1 size refl refl (λ paged. absurd (true≢false (sym paged ∙ ne_eqb (head_in piece).kind 1 other)), λ _. (refl, refl)))
image_begun outer o records bytes piece seen t size other h steps.Piece e = absurd (true≢false (sym e.0))
image_begun outer o records bytes piece seen t size other h _ e = absurd e

pages_begun : (outer : Outer) (o : Opening) (records : List StreamRecord) (bytes piece : List ℕ) (seen : SeenState) (t : Relay) → length piece ≡ 8 → (head_in piece).kind ≡ 1 → Has (InImage outer (AtHead o records)) [] bytes seen → (step : Step) → IsStep (InImage outer (AtHead o records)) piece t step
    → Has (InImage outer (AtFront o records (head_in piece))) [] (bytes ++ piece) (with_end true (with_step seen step (words_in_hand t)))
pages_begun outer o records bytes piece seen t size one h (steps.Head w head) e =
    more_has bytes piece h.front h.part h.split (h.long refl) (InImage outer (AtFront o records (head_in piece))) [] (with_step seen (steps.Head w head) (words_in_hand t)) _ refl refl h.form h.around h.stands
    (begun_record false (head_in piece), begun_is bytes piece seen false w head e.0 e.1, headed (head_in piece) false h.part piece _ h.hand.1 size refl refl {d = CountDue} (refl, eq-eqb (head_in piece).kind 1 one))
pages_begun outer o records bytes piece seen t size one h steps.Piece e = absurd (true≢false (sym e.0))
pages_begun outer o records bytes piece seen t size one h _ e = absurd e

-- a head that is a whole record
empty_stands : (piece part : List ℕ) (wrapped : Bool) → length part ≡ 0 → length piece ≡ 8 → (head_in piece).len ≡ 0 → is_page_data (begun_record wrapped (head_in piece)) ≡ false → StandsWhole wrapped (part ++ piece) (begun_record wrapped (head_in piece))
empty_stands piece part wrapped none size empty plain =
    finished (head_in piece) wrapped piece [] (part ++ piece) (begun_record wrapped (head_in piece)) (ap (λ l. l ++ piece) (nil_from_length part none) ∙ sym (append-nil piece)) size refl refl refl refl (omega (arith, empty, ap padding_len empty)) (λ paged. absurd (true≢false (sym paged ∙ plain)), λ _. (refl, refl))

libxl_ended : (records : List LibxlRecord) (next : Spot) (bytes piece : List ℕ) (seen : SeenState) (t : Relay) → length piece ≡ 8 → (head_in piece).len ≡ 0 → ComesBehind (AtLibxlHead records) (head_in piece).kind next → Has (AtLibxlHead records) [] bytes seen → (step : Step) → IsStep (AtLibxlHead records) piece t step
    → Has next [] (bytes ++ piece) (with_end (is_some (in_hand next)) (with_step seen step (words_in_hand t)))
libxl_ended records next bytes piece seen t size empty behind h (steps.Head w head) e =
    ended behind bytes piece h.front h.part (with_step seen (steps.Head w head) (words_in_hand t)) (begun_record true (head_in piece)) h.split (h.long refl) h.form h.stands h.around (empty_stands piece h.part true h.hand.1 size empty refl) refl (begun_is bytes piece seen true w head e.0 e.1)
libxl_ended records next bytes piece seen t size empty behind h steps.Piece e = absurd (true≢false (sym e.0))
libxl_ended records next bytes piece seen t size empty behind h _ e = absurd e

image_ended : (outer : Outer) (o : Opening) (records : List StreamRecord) (next : Spot) (bytes piece : List ℕ) (seen : SeenState) (t : Relay) → length piece ≡ 8 → (head_in piece).len ≡ 0 → (head_in piece).kind ≢ 1 → ComesBehind (InImage outer (AtHead o records)) (head_in piece).kind next → Has (InImage outer (AtHead o records)) [] bytes seen
    → (step : Step) → IsStep (InImage outer (AtHead o records)) piece t step → Has next [] (bytes ++ piece) (with_end (is_some (in_hand next)) (with_step seen step (words_in_hand t)))
image_ended outer o records next bytes piece seen t size empty other behind h (steps.Head w head) e =
    ended behind bytes piece h.front h.part (with_step seen (steps.Head w head) (words_in_hand t)) (begun_record false (head_in piece)) h.split (h.long refl) h.form h.stands h.around (empty_stands piece h.part false h.hand.1 size empty (ne_eqb (head_in piece).kind 1 other)) refl (begun_is bytes piece seen false w head e.0 e.1)
image_ended outer o records next bytes piece seen t size empty other behind h steps.Piece e = absurd (true≢false (sym e.0))
image_ended outer o records next bytes piece seen t size empty other behind h _ e = absurd e

-- ---- more of a record

count_passed : (outer : Outer) (o : Opening) (records : List StreamRecord) (head : RecordHead) (bytes piece : List ℕ) (seen : SeenState) (t : Relay) → length piece ≡ 8 → 8 + 8 * le32 piece 0 ≤ head.len → Has (InImage outer (AtFront o records head)) [] bytes seen → (step : Step) → IsStep (InImage outer (AtFront o records head)) piece t step
    → Has (InImage outer (AtWords o records head (le32 piece 0))) [] (bytes ++ piece) (with_end true (with_step seen step (words_in_hand t)))
count_passed outer o records head bytes piece seen t size fit h steps.Piece e =
    let i = h.hand.2 in
    more_has bytes piece h.front h.part h.split (h.long refl) (InImage outer (AtWords o records head (le32 piece 0))) [] seen _ refl refl h.form h.around h.stands (
      h.hand.0,
      h.hand.1,
      record {
        first = i.first;
        inner = i.inner ++ piece;
        whole = ap (λ l. l ++ piece) i.whole ∙ append_assoc i.first i.inner piece;
        first_len = i.first_len;
        headed = i.headed;
        kind = i.kind;
        len = i.len;
        layer = i.layer;
        size = omega (arith, i.size, size, fit, length-append i.inner piece);
        words = (omega (arith, size, ap length i.words.0, length-append i.inner piece), ap (λ l. le32 (l ++ piece) 0) i.words.0, i.words.1, fit);
      },
    )
count_passed outer o records head bytes piece seen t size fit h _ e = absurd e

-- the record in hand behind a piece more, with what the piece says of it; what else was seen stays
record ShowsNoLess (here : Spot) (begun piece part : List ℕ) (head : RecordHead) (seen later : SeenState) : Type 0 where
  pub front : later.front ≡ seen.front
  pub grown : HandOf (Some head) NothingDue (to_come here) (is_libxl here) 0 (begun ++ piece) (part ++ piece) later.hand

grows : (here : Spot) (begun bytes piece : List ℕ) (head : RecordHead) (seen : SeenState) (t : Relay) → in_hand here ≡ Some head → due here ≢ CountDue → FillsBody (due here) piece head → (h : Has here begun bytes seen) → (step : Step) → IsStep here piece t step → ShowsNoLess here begun piece h.part head seen (with_step seen step (words_in_hand t))
grows here begun bytes piece head seen t hand counted full h step e = by (held_step here head piece t step hand e)
  where
    held : HandOf (Some head) (due here) (to_come here) (is_libxl here) (opened here) begun h.part seen.hand
    held = subst (λ (o : Option RecordHead). HandOf o (due here) (to_come here) (is_libxl here) (opened here) begun h.part seen.hand) hand h.hand

    i : InHand head (due here) (to_come here) (is_libxl here) begun h.part held.0
    i = held.2

    grown_by : (step : Step) (shown : Seen1) → (with_step seen step (words_in_hand t)).front ≡ seen.front → (with_step seen step (words_in_hand t)).hand ≡ Some shown → shown.kind ≡ held.0.kind → shown.len ≡ held.0.len → shown.wrapped ≡ held.0.wrapped → HasSome NothingDue (i.inner ++ piece) head shown
        → ShowsNoLess here begun piece h.part head seen (with_step seen step (words_in_hand t))
    grown_by step shown front is same_kind same_len same_layer told = record {
      front = front;
      grown = (
        shown,
        is,
        record {
          first = i.first;
          inner = i.inner ++ piece;
          whole = ap (λ l. l ++ piece) i.whole ∙ append_assoc i.first i.inner piece;
          first_len = i.first_len;
          headed = i.headed;
          kind = same_kind ∙ i.kind;
          len = same_len ∙ i.len;
          layer = same_layer ∙ i.layer;
          size = omega (arith, i.size, length-append i.inner piece, length-append begun piece);
          words = told;
        },
      );
    }

    piece_more : due here ≡ NothingDue → ShowsNoLess here begun piece h.part head seen (with_step seen steps.Piece (words_in_hand t))
    piece_more nothing = grown_by steps.Piece held.0 refl held.1 refl refl refl (more_some i.inner piece head held.0 (subst (λ (d : Due). HasSome d i.inner head held.0) nothing i.words))

    words_more : (n : ℕ) → due here ≡ WordsDue n → words_in_hand t ≡ words n piece → length piece ≡ 8 * n → ShowsNoLess here begun piece h.part head seen (with_step seen steps.Words (words_in_hand t))
    words_more n are ws size =
        let d : HasSome (WordsDue n) i.inner head held.0 = subst (λ (d : Due). HasSome d i.inner head held.0) are i.words in
        let number : length (words_in_hand t) ≡ n = ap length ws ∙ words_number n piece in
        let fills : FillsBody (WordsDue n) piece head = subst (λ (d : Due). FillsBody d piece head) are full in
        grown_by steps.Words (counted_record (words_in_hand t) held.0) refl (ap (option_map (counted_record (words_in_hand t))) held.1) refl refl refl (
          λ paged. (
            record {
              front = i.inner;
              spelled = piece;
              rest = [];
              whole = ap (λ l. i.inner ++ l) (sym (append-nil piece));
              front_len = d.0;
              number_is = number ∙ sym d.1;
              spelled_len = omega (arith, size, number);
              pages_is = ap (count_by word_has_data) (ws ∙ ap (λ m. words m piece) (sym number));
            },
            omega (arith, fills, number, ap (count_by word_has_data) ws),
          ),
          λ plain. absurd (true≢false (sym d.2 ∙ plain)),
        )

    by : ((step ≡ steps.Piece) × (due here ≢ CountDue → due here ≡ NothingDue)) ⊎ ((step ≡ steps.Words) × (n : ℕ) × (due here ≡ WordsDue n) × (words_in_hand t ≡ words n piece) × (length piece ≡ 8 * n)) → ShowsNoLess here begun piece h.part head seen (with_step seen step (words_in_hand t))
    by (inl (is, nothing)) = subst (λ (s : Step). ShowsNoLess here begun piece h.part head seen (with_step seen s (words_in_hand t))) (sym is) (piece_more (nothing counted))
    by (inr (is, n, are, ws, size)) = subst (λ (s : Step). ShowsNoLess here begun piece h.part head seen (with_step seen s (words_in_hand t))) (sym is) (words_more n are ws size)

more_passed : (here next : Spot) (begun bytes piece front : List ℕ) (head : RecordHead) (seen : SeenState) (t : Relay) → in_hand here ≡ Some head → in_hand next ≡ Some head → head_spot next ≡ head_spot here → due here ≢ CountDue → due next ≡ NothingDue → FillsBody (due here) piece head → length begun + length piece + to_come next ≡ to_come here + length front
    → Has here begun bytes seen → (step : Step) → IsStep here piece t step → Has next front (bytes ++ piece) (with_end (is_some (in_hand next)) (with_step seen step (words_in_hand t)))
more_passed here next begun bytes piece front head seen t hand hand_next same_spot counted nothing full size h step e =
    let g = grows here begun bytes piece head seen t hand counted full h step e in
    let later : SeenState = with_step seen step (words_in_hand t) in
    let i = g.grown.2 in
    let long : 8 ≤ length bytes = h.long (hand_goes_on here head hand) in
    let layer : g.grown.0.wrapped ≡ is_libxl next = i.layer ∙ sym (same_at_head here).layer ∙ ap is_libxl (sym same_spot) ∙ (same_at_head next).layer in
    let around : IsAround next seen.front = subst (λ (T : Type 0). T) ((same_at_head next).around seen.front) (subst (λ (s : Spot). IsAround s seen.front) (sym same_spot) (subst (λ (T : Type 0). T) (sym ((same_at_head here).around seen.front)) h.around)) in
    let place : place_of_spot here ≡ place_of_spot next = sym (same_at_head here).place ∙ ap place_of_spot (sym same_spot) ∙ (same_at_head next).place in
    let own : InHand head NothingDue (to_come next) (is_libxl next) front (h.part ++ piece) g.grown.0 =
    record { first = i.first; inner = i.inner; whole = i.whole; first_len = i.first_len; headed = i.headed; kind = i.kind; len = i.len; layer = layer; size = omega (arith, i.size, size, length-append begun piece); words = i.words } in
    subst (λ b. Has next front (bytes ++ piece) (with_end b later)) (sym (ap is_some hand_next))
    (more_has bytes piece h.front h.part h.split long next front later _ (hand_goes_on next head hand_next) (ap (λ (f : ShownFront). f.wrapper) g.front) h.form (subst (IsAround next) (sym g.front) around)
    (subst (λ (f : ShownFront). StandsBefore h.front f (place_of_spot next)) (sym g.front) (subst (StandsBefore h.front seen.front) place h.stands))
    (subst (λ (o : Option RecordHead). HandOf o (due next) (to_come next) (is_libxl next) (opened next) front (h.part ++ piece) later.hand) (sym hand_next)
    (g.grown.0, g.grown.1, subst (λ (d : Due). InHand head d (to_come next) (is_libxl next) front (h.part ++ piece) g.grown.0) (sym nothing) own)))

whole_passed : (here next : Spot) (begun bytes piece : List ℕ) (head : RecordHead) (seen : SeenState) (t : Relay) → in_hand here ≡ Some head → due here ≢ CountDue → FillsBody (due here) piece head → length begun + length piece ≡ to_come here → ComesBehind (head_spot here) head.kind next
    → Has here begun bytes seen → (step : Step) → IsStep here piece t step → Has next [] (bytes ++ piece) (with_end (is_some (in_hand next)) (with_step seen step (words_in_hand t)))
whole_passed here next begun bytes piece head seen t hand counted full size behind h step e =
    let g = grows here begun bytes piece head seen t hand counted full h step e in
    let later : SeenState = with_step seen step (words_in_hand t) in
    let i = g.grown.2 in
    let long : 8 ≤ length bytes = h.long (hand_goes_on here head hand) in
    let around : IsAround (head_spot here) seen.front = subst (λ (T : Type 0). T) (sym ((same_at_head here).around seen.front)) h.around in
    let layer : g.grown.0.wrapped ≡ is_libxl (head_spot here) = i.layer ∙ sym (same_at_head here).layer in
    ended behind bytes piece h.front h.part later g.grown.0 h.split long (ap (λ (f : ShownFront). f.wrapper) g.front ∙ h.form)
    (subst (λ (f : ShownFront). StandsBefore h.front f (place_of_spot (head_spot here))) (sym g.front) (subst (StandsBefore h.front seen.front) (sym (same_at_head here).place) h.stands))
    (subst (IsAround (head_spot here)) (sym g.front) around)
    (finished head (is_libxl (head_spot here)) i.first i.inner (h.part ++ piece) g.grown.0 i.whole i.first_len i.headed i.kind i.len layer (omega (arith, i.size, size, length-append begun piece)) i.words) i.kind g.grown.1

-- ---- a step

-- what was seen behind a step, whatever it passed on
pub seen_on : {begun piece front : List ℕ} {here next : Spot} → ComesNext here begun piece next front → (bytes : List ℕ) (seen : SeenState) (t : Relay) (step : Step) → IsStep here piece t step → Has here begun bytes seen → Has next front (bytes ++ piece) (with_end (is_some (in_hand next)) (with_step seen step (words_in_hand t)))
seen_on (image_opens piece size is) bytes seen t step e h = first_passed false (InImage Alone AtVersion) bytes piece seen t size is image_first (refl, refl) refl (λ none. (none, size)) h step e
seen_on (wrapper_opens piece size is) bytes seen t step e h = first_passed true AtLibxlHeader bytes piece seen t size is header_first (refl, refl, λ _. refl) refl (λ none. (none, size)) h step e
seen_on (wrapper_header piece size) bytes seen t step e h = header_passed bytes piece seen t size h step e
seen_on (marker outer piece size) bytes seen t step e h = marker_passed outer bytes piece seen t size h step e
seen_on (version outer n piece size) bytes seen t step e h = version_passed outer n bytes piece seen t size h step e
seen_on (kind outer n o piece size) bytes seen t step e h = kind_passed outer n o bytes piece seen t size h step e
seen_on (libxl_begins records piece size) bytes seen t step e h = libxl_begun records bytes piece seen t size h step e
seen_on (libxl_whole records piece next size empty behind) bytes seen t step e h = libxl_ended records next bytes piece seen t size empty behind h step e
seen_on (image_begins outer o records piece size other) bytes seen t step e h = image_begun outer o records bytes piece seen t size other h step e
seen_on (pages_begin outer o records piece size one) bytes seen t step e h = pages_begun outer o records bytes piece seen t size one h step e
seen_on (image_whole outer o records piece next size empty other behind) bytes seen t step e h = image_ended outer o records next bytes piece seen t size empty other behind h step e
seen_on (count outer o records head piece size fit) bytes seen t step e h = count_passed outer o records head bytes piece seen t size fit h step e
seen_on (more here next begun piece front head hand hand_next same_spot counted nothing full size) bytes seen t step e h = more_passed here next begun bytes piece front head seen t hand hand_next same_spot counted nothing full size h step e
seen_on (whole here next begun piece head hand counted full size behind) bytes seen t step e h = whole_passed here next begun bytes piece head seen t hand counted full size behind h step e
