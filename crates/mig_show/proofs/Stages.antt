-- What a viewer has seen, for the place that the relay stands at.
use Rattle.mig_show.proofs.Common.{◌≡◌, ℕ, ◌+◌, ◌*◌, ◌≤◌, Bool, true, false, cond, List, [], ◌∷◌, ◌++◌, length, take, drop, Option, Some, None, refl, sym, ap, subst, ◌∙◌, arith, append_assoc, length-append, sum_by_push, padding_len, le32, LibxlRecord, Record, head_in, RecordHead, ComesBehind, Due, NothingDue, CountDue, WordsDue, bytes_behind_head, due, head_spot, in_hand, place_of_spot, to_come, Next, AtMarker, AtVersion, AtKind, AtHead, AtBody, AtFront, AtWords, AtPages, AtPadding, Outer, Alone, Behind, Spot, AtStart, AtLibxlHeader, AtLibxlHead, AtLibxlBody, AtLibxlPadding, InImage, AtEnd, begins_with_ident, ShownFront, HasWords, StandsWhole, StandsBefore, of_form, with_shown, libxl_number, libxl_record, image_record, SeenState, is_page_data, Seen1, ◌-◌, length-take-le, length-drop, take-append-drop, ⊤, take-append-add}
use Rattle.std.specs.Option.{option_or}
use Rattle.mig_headers.specs.declared.fault.Place.TheVariants.{LibxlRecord as AtRecord}
use Rattle.mig_relay.specs.Following.{libxl_next, libxl_context, libxl_end, image_next, image_end, inner_end}
use Rattle.mig_libxl_form.specs.Among.{image_among, image_in}
use Rattle.mig_restore_form.specs.Stream.{ImageOf}
use Rattle.mig_relay.specs.Spots.{image_record as record_of_image}
use Rattle.mig_relay.proofs.Kept.{among_same}
use Rattle.mig_show.specs.Fronts.{libxl_context as context_stands, libxl_end as libxl_stands, image_end as image_stands}

-- ---- the record in hand

-- how many bytes of a header in two parts came
abbrev pub opened : Spot → ℕ
opened AtLibxlHeader = 8
opened (InImage outer AtVersion) = 8
opened _ = 0

abbrev pub is_libxl : Spot → Bool
is_libxl (AtLibxlHead records) = true
is_libxl (AtLibxlBody records head) = true
is_libxl (AtLibxlPadding records head content) = true
is_libxl _ = false

-- what came behind its head, and what is known of its words
abbrev pub HasSome : Due → List ℕ → RecordHead → Seen1 → Type 0
HasSome NothingDue inner head shown = (is_page_data shown ≡ true → HasWords inner shown.words shown.pages × (8 + 8 * shown.words + 4096 * shown.pages ≡ head.len)) × (is_page_data shown ≡ false → (shown.words ≡ 0) × (shown.pages ≡ 0))
HasSome CountDue inner head shown = (inner ≡ []) × (is_page_data shown ≡ true)
HasSome (WordsDue n) inner head shown = (length inner ≡ 8) × (le32 inner 0 ≡ n) × (is_page_data shown ≡ true) × (8 + 8 * n ≤ head.len)

-- its bytes that came, its head first
pub record InHand (head : RecordHead) (due : Due) (left : ℕ) (wrapped : Bool) (begun part : List ℕ) (shown : Seen1) : Type 0 where
  pub first : List ℕ
  pub inner : List ℕ
  pub whole : part ≡ first ++ inner
  pub first_len : length first ≡ 8
  pub headed : head_in first ≡ head
  pub kind : shown.kind ≡ head.kind
  pub len : shown.len ≡ head.len
  pub layer : shown.wrapped ≡ wrapped
  pub size : length inner + left ≡ bytes_behind_head head + length begun
  pub words : HasSome due inner head shown

abbrev pub HandOf : Option RecordHead → Due → ℕ → Bool → ℕ → List ℕ → List ℕ → Option Seen1 → Type 0
HandOf None due left wrapped opened begun part hand = (hand ≡ None) × (length part ≡ opened)
HandOf (Some head) due left wrapped opened begun part hand = (shown : Seen1) × (hand ≡ Some shown) × InHand head due left wrapped begun part shown

-- ---- the libxl stream around it

abbrev pub IsAroundImage : Outer → ShownFront → Type 0
IsAroundImage Alone front = (front.wrapper ≡ false) × (libxl_number front ≡ 0)
IsAroundImage (Behind records) front = (front.wrapper ≡ true) × (libxl_number front ≡ length records + 1)

abbrev pub IsAroundLibxl : List LibxlRecord → ShownFront → Type 0
IsAroundLibxl records front = (front.wrapper ≡ true) × (libxl_number front ≡ length records) × (image_among records ≡ None → front.version ≡ None)

abbrev pub IsAround : Spot → ShownFront → Type 0
IsAround AtStart front = front ≡ of_form false
IsAround AtLibxlHeader front = IsAroundLibxl [] front
IsAround (AtLibxlHead records) front = IsAroundLibxl records front
IsAround (AtLibxlBody records head) front = IsAroundLibxl records front
IsAround (AtLibxlPadding records head content) front = IsAroundLibxl records front
IsAround (InImage outer next) front = IsAroundImage outer front
IsAround (AtEnd s) front = ⊤

abbrev pub is_start : Spot → Bool
is_start AtStart = true
is_start _ = false

-- ---- all that was seen

-- of these bytes, of which the last were begun of what comes next
pub record Has (here : Spot) (begun bytes : List ℕ) (seen : SeenState) : Type 0 where
  pub front : List ℕ
  pub part : List ℕ
  pub split : bytes ≡ front ++ part
  pub stands : StandsBefore front seen.front (place_of_spot here)
  pub hand : HandOf (in_hand here) (due here) (to_come here) (is_libxl here) (opened here) begun part seen.hand
  pub around : IsAround here seen.front
  pub form : seen.front.wrapper ≡ begins_with_ident bytes
  pub long : is_start here ≡ false → 8 ≤ length bytes
  pub none : is_start here ≡ true → bytes ≡ []

-- ---- where the head of the record in hand stood

next_place : (outer : Outer) (next : Next) → place_of_spot (head_spot (InImage outer next)) ≡ place_of_spot (InImage outer next)
next_place outer AtMarker = refl
next_place outer AtVersion = refl
next_place outer (AtKind version) = refl
next_place outer (AtHead o records) = refl
next_place outer (AtBody o records head) = refl
next_place outer (AtFront o records head) = refl
next_place outer (AtWords o records head n) = refl
next_place outer (AtPages o records head coming stood) = refl
next_place outer (AtPadding o records head content) = refl

-- what is so there is so where the head stood
pub record IsSameAtHead (here : Spot) : Type 1 where
  pub place : place_of_spot (head_spot here) ≡ place_of_spot here
  pub layer : is_libxl (head_spot here) ≡ is_libxl here
  pub around : (front : ShownFront) → IsAround (head_spot here) front ≡ IsAround here front

pub same_at_head : (here : Spot) → IsSameAtHead here
same_at_head AtStart = record { place = refl; layer = refl; around = λ _. refl }
same_at_head AtLibxlHeader = record { place = refl; layer = refl; around = λ _. refl }
same_at_head (AtLibxlHead records) = record { place = refl; layer = refl; around = λ _. refl }
same_at_head (AtLibxlBody records head) = record { place = refl; layer = refl; around = λ _. refl }
same_at_head (AtLibxlPadding records head content) = record { place = refl; layer = refl; around = λ _. refl }
same_at_head (InImage outer next) = record { place = next_place outer next; layer = refl; around = λ _. refl }
same_at_head (AtEnd s) = record { place = refl; layer = refl; around = λ _. refl }

-- ---- a whole record

-- one more of the libxl stream, or of an image
number_more : (front : ShownFront) (shown : Seen1) (wrapped : Bool) → shown.wrapped ≡ wrapped → libxl_number (with_shown front shown) ≡ libxl_number front + cond wrapped 1 0
number_more front shown wrapped is = sum_by_push (λ (s : Seen1). cond s.wrapped 1 0) front.records shown ∙ ap (λ b. libxl_number front + cond b 1 0) is

image_around : (outer : Outer) (front : ShownFront) (shown : Seen1) → shown.wrapped ≡ false → IsAroundImage outer front → IsAroundImage outer (with_shown front shown)
image_around Alone front shown plain (form, number) = (form, omega (arith, number_more front shown false plain, number))
image_around (Behind records) front shown plain (form, number) = (form, omega (arith, number_more front shown false plain, number))

-- an image stands among these
has_image : (records : List LibxlRecord) (image : ImageOf) → image_among (records ++ record_of_image image ∷ []) ≡ None → ⊥
has_image [] image e = cc
has_image (r ∷ records) image e = by (image_in r.content) (has_image records image) e
  where
    rest : Option ImageOf
    rest = image_among (records ++ record_of_image image ∷ [])

    by : (first : Option ImageOf) → (rest ≡ None → ⊥) → option_or first rest ≡ None → ⊥
    by (Some i) others e = cc
    by None others e = others e

-- what comes next behind a whole record, which stands behind what stood before
pub record Stood (front text : List ℕ) (seen : ShownFront) (shown : Seen1) (next : Spot) : Type 0 where
  pub stands : StandsBefore (front ++ text) (with_shown seen shown) (place_of_spot next)
  pub around : IsAround next (with_shown seen shown)
  pub none : in_hand next ≡ None
  pub nothing_opened : opened next ≡ 0
  pub goes_on : is_start next ≡ false

pub stood : {at next : Spot} {type : ℕ} → ComesBehind at type next → (front text : List ℕ) (seen : ShownFront) (shown : Seen1) → StandsBefore front seen (place_of_spot at) → StandsWhole (is_libxl at) text shown → shown.kind ≡ type → IsAround at seen → Stood front text seen shown next
stood (libxl_next records r type other inner plain) front text seen shown before whole kind (form, number, unopened) = record {
  stands =
      subst (λ n. StandsBefore (front ++ text) (with_shown seen shown) (Some (AtRecord n))) (sym (length-append records (r ∷ [])))
      (libxl_record front text seen shown (length records) before whole (λ zero. other (sym kind ∙ zero)) (λ one. inner (sym kind ∙ one)));
  around = (form, omega (arith, number_more seen shown true whole.layer, number, length-append records (r ∷ [])), λ none. unopened (sym (among_same records r plain) ∙ none));
  none = refl;
  nothing_opened = refl;
  goes_on = refl;
}
stood (libxl_context records type one none) front text seen shown before whole kind (form, number, unopened) = record {
  stands = context_stands front text seen shown (length records) before whole (kind ∙ one) (unopened none);
  around = (form, omega (arith, number_more seen shown true whole.layer, number));
  none = refl;
  nothing_opened = refl;
  goes_on = refl;
}
stood (libxl_end records type s zero) front text seen shown before whole kind (form, number, unopened) = record {
  stands = libxl_stands front text seen shown (length records) before whole (kind ∙ zero);
  around = tt;
  none = refl;
  nothing_opened = refl;
  goes_on = refl;
}
stood (image_next outer o records r type other) front text seen shown before whole kind around = record {
  stands =
      subst (λ n. StandsBefore (front ++ text) (with_shown seen shown) (Some (Record n))) (sym (length-append records (r ∷ [])))
      (image_record front text seen shown (length records) before whole (λ zero. other (sym kind ∙ zero)));
  around = image_around outer seen shown whole.layer around;
  none = refl;
  nothing_opened = refl;
  goes_on = refl;
}
stood (image_end o records type s zero) front text seen shown before whole kind (form, number) = record {
  stands =
      subst (StandsBefore (front ++ text) (with_shown seen shown)) (ap (λ b. cond b (Some (AtRecord (libxl_number seen))) None) form)
      (image_stands front text seen shown (length records) before whole (kind ∙ zero));
  around = tt;
  none = refl;
  nothing_opened = refl;
  goes_on = refl;
}
stood (inner_end records o inside type image zero) front text seen shown before whole kind (form, number) =
    let long : length (records ++ record_of_image image ∷ []) ≡ length records + 1 = length-append records (record_of_image image ∷ []) in
    record {
      stands =
          subst (StandsBefore (front ++ text) (with_shown seen shown)) (ap (λ b. cond b (Some (AtRecord (libxl_number seen))) None) form ∙ ap (λ n. Some (AtRecord n)) (number ∙ sym long))
          (image_stands front text seen shown (length inside) before whole (kind ∙ zero));
      around = (form, omega (arith, number_more seen shown false whole.layer, number, long), λ none. absurd (has_image records image none));
      none = refl;
      nothing_opened = refl;
      goes_on = refl;
    }

-- ---- the bytes of a record

-- more bytes behind the words of a PAGE_DATA
more_words : (body piece : List ℕ) (number pages : ℕ) → HasWords body number pages → HasWords (body ++ piece) number pages
more_words body piece number pages w = record {
  front = w.front;
  spelled = w.spelled;
  rest = w.rest ++ piece;
  whole = ap (λ l. l ++ piece) w.whole ∙ append_assoc w.front (w.spelled ++ w.rest) piece ∙ ap (λ l. w.front ++ l) (append_assoc w.spelled w.rest piece);
  front_len = w.front_len;
  number_is = w.number_is;
  spelled_len = w.spelled_len;
  pages_is = w.pages_is;
}

-- of a body that has all words
cut_words : (bytes : List ℕ) (number pages len : ℕ) → HasWords bytes number pages → 8 + 8 * number ≤ len → HasWords (take len bytes) number pages
cut_words bytes number pages len w fit =
    let k = len - (8 + 8 * number) in
    record {
      front = w.front;
      spelled = w.spelled;
      rest = take k w.rest;
      whole =
          ap (take len) w.whole
          ∙ ap (λ m. take m (w.front ++ (w.spelled ++ w.rest))) (omega (arith, w.front_len, w.spelled_len, fit))
          ∙ take-append-add w.front (w.spelled ++ w.rest) (length w.spelled + k)
          ∙ ap (λ l. w.front ++ l) (take-append-add w.spelled w.rest k);
      front_len = w.front_len;
      number_is = w.number_is;
      spelled_len = w.spelled_len;
      pages_is = w.pages_is;
    }

pub more_some : (inner piece : List ℕ) (head : RecordHead) (shown : Seen1) → HasSome NothingDue inner head shown → HasSome NothingDue (inner ++ piece) head shown
more_some inner piece head shown (counted, plain) = (λ paged. (more_words inner piece shown.words shown.pages (counted paged).0, (counted paged).1), plain)

-- all bytes of a record came
pub finished : (head : RecordHead) (wrapped : Bool) (first inner text : List ℕ) (shown : Seen1) → text ≡ first ++ inner → length first ≡ 8 → head_in first ≡ head → shown.kind ≡ head.kind → shown.len ≡ head.len → shown.wrapped ≡ wrapped → length inner ≡ bytes_behind_head head → HasSome NothingDue inner head shown → StandsWhole wrapped text shown
finished head wrapped first inner text shown whole first_len headed kind len layer size (counted, plain) =
    let body = take head.len inner in
    let body_len : length body ≡ head.len = length-take-le head.len inner (omega (arith, size)) in
    record {
      layer = layer;
      body = body;
      is = record {
        head = first;
        padding = drop head.len inner;
        whole = whole ∙ ap (λ l. first ++ l) (sym (take-append-drop head.len inner));
        head_len = first_len;
        type_is = ap (λ (h : RecordHead). h.kind) headed ∙ sym kind;
        len_is = ap (λ (h : RecordHead). h.len) headed ∙ sym body_len;
        padded = omega (arith, length-drop head.len inner, size) ∙ ap padding_len (sym body_len);
      };
      len = len ∙ sym body_len;
      counted = λ paged. cut_words inner shown.words shown.pages head.len (counted paged).0 (omega (arith, (counted paged).1));
      filled = λ paged. len ∙ sym (counted paged).1;
      plain = plain;
    }
