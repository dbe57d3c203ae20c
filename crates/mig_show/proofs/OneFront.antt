-- Of one input only one front stands in front of a place: its bytes are read step by step, each step is fixed by what was read and
-- by the bytes that follow, and no step leads back to a place.
use Rattle.mig_show.proofs.Common.{count_by, ◌≡◌, ◌≢◌, ◌⊎◌, inl, inr, ℕ, ◌+◌, ◌*◌, ◌≤◌, Bool, true, false, cond, List, [], ◌++◌, length, take, drop, Option, Some, None, refl, sym, ap, ◌∙◌, arith, append_assoc, sum_by_push, padding_len, le32, kind_of_number, Place, ImageHeader, DomainHeader, LibxlHeader, Record, ShownFront, HasWords, StandsWhole, StandsBefore, of_form, with_shown, libxl_number, image_first, header_first, libxl_header, libxl_record, libxl_context, libxl_end, image_header, domain_header, image_record, image_end, is_page_data, Seen1, if◌then◌else◌, ◌==◌, not, take-append_seam, drop-append_seam, append_cancel_right, behind_image}
use Rattle.mig_bytes.specs.Fields.{be32}
use Rattle.mig_headers.specs.declared.fault.Place.TheVariants.{LibxlRecord}
use Rattle.mig_records.specs.Records.{IsRecord}

-- ---- a record

-- two lists that begin alike, cut at the same place
same_cut : (text that rest more : List ℕ) → text ++ rest ≡ that ++ more → length text ≡ length that → (text ≡ that) × (rest ≡ more)
same_cut text that rest more is same = (
  sym (take-append_seam text rest) ∙ ap (take (length text)) is ∙ ap (λ n. take n (that ++ more)) same ∙ take-append_seam that more,
  sym (drop-append_seam text rest) ∙ ap (drop (length text)) is ∙ ap (λ n. drop n (that ++ more)) same ∙ drop-append_seam that more,
)

-- a body tells how many words and pages it has
same_words : (body : List ℕ) (number also pages more : ℕ) → HasWords body number pages → HasWords body also more → (number ≡ also) × (pages ≡ more)
same_words body number also pages more a b =
    let fronts = same_cut a.front b.front (a.spelled ++ a.rest) (b.spelled ++ b.rest) (sym a.whole ∙ b.whole) (a.front_len ∙ sym b.front_len) in
    let same : number ≡ also = a.number_is ∙ ap (λ l. le32 l 0) fronts.0 ∙ sym b.number_is in
    let words = same_cut a.spelled b.spelled a.rest b.rest fronts.1 (a.spelled_len ∙ ap (λ n. 8 * n) same ∙ sym b.spelled_len) in
    (same, cc words.0)

-- its five fields are all that is shown of a record
same_shown : (shown also : Seen1) → shown.wrapped ≡ also.wrapped → shown.kind ≡ also.kind → shown.len ≡ also.len → (shown.words ≡ also.words) × (shown.pages ≡ also.pages) → shown ≡ also
same_shown shown also layer kind len counts = grind arith

-- of two records of one layer that the same bytes begin with the same is shown, and the same bytes follow
same_record : (wrapped : Bool) (text that rest more : List ℕ) (shown also : Seen1) → text ++ rest ≡ that ++ more → StandsWhole wrapped text shown → StandsWhole wrapped that also → (rest ≡ more) × (shown ≡ also)
same_record wrapped text that rest more shown also bytes first second =
    (paddings.1, same_shown shown also (first.layer ∙ sym second.layer) kind (first.len ∙ len ∙ sym second.len) (by (is_page_data shown) refl (cc kind)))
  where
    spread : (whole left : List ℕ) (type : ℕ) (body : List ℕ) → (is : IsRecord type body whole) → whole ++ left ≡ is.head ++ (body ++ (is.padding ++ left))
    spread whole left type body is = rw is.whole (simp append_assoc)

    heads : (first.is.head ≡ second.is.head) × (first.body ++ (first.is.padding ++ rest) ≡ second.body ++ (second.is.padding ++ more))
    heads = same_cut _ _ _ _ (sym (spread text rest shown.kind first.body first.is) ∙ bytes ∙ spread that more also.kind second.body second.is) (first.is.head_len ∙ sym second.is.head_len)

    kind : shown.kind ≡ also.kind
    kind = sym first.is.type_is ∙ ap (λ l. le32 l 0) heads.0 ∙ second.is.type_is

    len : length first.body ≡ length second.body
    len = sym first.is.len_is ∙ ap (λ l. le32 l 4) heads.0 ∙ second.is.len_is

    bodies : (first.body ≡ second.body) × (first.is.padding ++ rest ≡ second.is.padding ++ more)
    bodies = same_cut _ _ _ _ heads.1 len

    paddings : (first.is.padding ≡ second.is.padding) × (rest ≡ more)
    paddings = same_cut _ _ _ _ bodies.1 (first.is.padded ∙ ap padding_len len ∙ sym second.is.padded)

    by : (b : Bool) → is_page_data shown ≡ b → is_page_data also ≡ b → (shown.words ≡ also.words) × (shown.pages ≡ also.pages)
    by true is it = same_words second.body shown.words also.words shown.pages also.pages (rw bodies.0 at (first.counted is)) (second.counted it)
    by false is it = let a = first.plain is in let b = second.plain it in (a.0 ∙ sym b.0, a.1 ∙ sym b.1)

-- ---- a step

-- what is shown, and the place that follows
abbrev Stand : Type 0
Stand = ShownFront × Option Place

-- the place behind a record of the libxl stream, and of the image
abbrev behind_libxl : ℕ → ℕ → Option Place
behind_libxl n kind = if kind == 0 then None else (if kind == 1 then Some ImageHeader else Some (LibxlRecord (n + 1)))

abbrev behind_record : ShownFront → ℕ → ℕ → Option Place
behind_record front n kind = if kind == 0 then behind_image front else Some (Record (n + 1))

-- what this text adds where these stand
abbrev Adds : Stand → List ℕ → Stand → Type 0
Adds (front, None) text next = ⊥
Adds (front, Some LibxlHeader) text next = (length text ≡ 16) × (next ≡ (front, Some (LibxlRecord 0)))
Adds (front, Some (LibxlRecord n)) text next = (shown : Seen1) × StandsWhole true text shown × (next ≡ (with_shown front shown, behind_libxl n shown.kind))
Adds (front, Some ImageHeader) text next = (length text ≡ 24) × (next ≡ (record front { version = Some (be32 text 12) }, Some DomainHeader))
Adds (front, Some DomainHeader) text next = (length text ≡ 16) × (next ≡ (record front { kind = Some (kind_of_number (le32 text 0)) }, Some (Record 0)))
Adds (front, Some (Record n)) text next = (shown : Seen1) × StandsWhole false text shown × (next ≡ (with_shown front shown, behind_record front n shown.kind))

-- the same bytes add the same, and the same bytes follow
same_step : (here : Stand) (text that rest more : List ℕ) (next also : Stand) → text ++ rest ≡ that ++ more → Adds here text next → Adds here that also → (rest ≡ more) × (next ≡ also)
same_step (front, None) text that rest more next also bytes one two = absurd one
same_step (front, Some LibxlHeader) text that rest more next also bytes (size, is) (len, it) = let cut = same_cut text that rest more bytes (size ∙ sym len) in (cut.1, is ∙ sym it)
same_step (front, Some (LibxlRecord n)) text that rest more next also bytes (shown, whole, is) (twin, stands, it) =
    let same = same_record true text that rest more shown twin bytes whole stands in (same.0, cc same.1)
same_step (front, Some ImageHeader) text that rest more next also bytes (size, is) (len, it) = let cut = same_cut text that rest more bytes (size ∙ sym len) in (cut.1, cc cut.0)
same_step (front, Some DomainHeader) text that rest more next also bytes (size, is) (len, it) = let cut = same_cut text that rest more bytes (size ∙ sym len) in (cut.1, cc cut.0)
same_step (front, Some (Record n)) text that rest more next also bytes (shown, whole, is) (twin, stands, it) =
    let same = same_record false text that rest more shown twin bytes whole stands in (same.0, cc same.1)

-- ---- steps

-- steps over these bytes lead from here to there, where the last bytes are left
data Leads : Stand → List ℕ → Stand → List ℕ → Type 0 where
  nowhere : (here : Stand) (bytes : List ℕ) → Leads here bytes here bytes
  onward : (here next there : Stand) (bytes text rest left : List ℕ) → bytes ≡ text ++ rest → Adds here text next → Leads next rest there left → Leads here bytes there left

-- of two ways over the same bytes one goes through the end of the other
one_way : (here there yonder : Stand) (bytes rest more : List ℕ) → Leads here bytes there rest → Leads here bytes yonder more → Leads there rest yonder more ⊎ Leads yonder more there rest
one_way here _ yonder bytes _ more (nowhere _ _) second = inl second
one_way here there _ bytes rest _ first (nowhere _ _) = inr first
one_way here there yonder bytes rest more (onward _ next _ _ text behind _ whole adds leads) (onward _ also _ _ that back _ is gives goes) =
    let (left, same) = same_step here text that behind back next also (sym whole ∙ is) adds gives in
    one_way next there yonder behind rest more leads (rw (left, same) goes)

-- steps over these bytes lead there, wherever others lead from there
abbrev Reaches : Stand → List ℕ → Stand → Type 0
Reaches here bytes there = (input rest left : List ℕ) (end : Stand) → input ≡ bytes ++ rest → Leads there rest end left → Leads here input end left

-- one step more
one_more : (here next there : Stand) (bytes text : List ℕ) → Reaches here bytes next → Adds next text there → Reaches here (bytes ++ text) there
one_more here next there bytes text reaches adds input rest left end is leads =
    reaches input (text ++ rest) left end (is ∙ append_assoc bytes text rest) (onward next there end (text ++ rest) text rest left refl adds leads)

-- where each front begins
abbrev start : Bool → Stand
start wrapper = (of_form wrapper, Some (if wrapper then LibxlHeader else ImageHeader))

-- the place behind a record of the libxl stream that isn't its END, nor its LIBXC_CONTEXT
next_libxl : (more : ShownFront) (n kind : ℕ) → kind ≢ 0 → kind ≢ 1 → ◌≡◌ {A = Stand} (more, Some (LibxlRecord (n + 1))) (more, behind_libxl n kind)
next_libxl more n kind other inner = grind arith

-- the place behind a record of the image that isn't its END
next_record : (front more : ShownFront) (n kind : ℕ) → kind ≢ 0 → ◌≡◌ {A = Stand} (more, Some (Record (n + 1))) (more, behind_record front n kind)
next_record front more n kind other = grind arith

-- the bytes in front of a place lead there
led : (bytes : List ℕ) (front : ShownFront) (place : Option Place) → StandsBefore bytes front place → Reaches (start front.wrapper) bytes (front, place)
led _ _ _ image_first = λ input rest left end is leads. rw is leads
led _ _ _ header_first = λ input rest left end is leads. rw is leads
led _ _ _ (libxl_header bytes text front before size) = one_more _ _ _ bytes text (led bytes front _ before) (size, refl)
led _ _ _ (libxl_record bytes text front shown n before whole other inner) = one_more _ _ _ bytes text (led bytes front _ before) (shown, whole, next_libxl _ n shown.kind other inner)
led _ _ _ (libxl_context bytes text front shown n before whole one none) = one_more _ _ _ bytes text (led bytes front _ before) (shown, whole, cc)
led _ _ _ (libxl_end bytes text front shown n before whole zero) = one_more _ _ _ bytes text (led bytes front _ before) (shown, whole, cc)
led _ _ _ (image_header bytes text front before size) = one_more _ _ _ bytes text (led bytes front _ before) (size, refl)
led _ _ _ (domain_header bytes text front before size) = one_more _ _ _ bytes text (led bytes front _ before) (size, refl)
led _ _ _ (image_record bytes text front shown n before whole other) = one_more _ _ _ bytes text (led bytes front _ before) (shown, whole, next_record front _ n shown.kind other)
led _ _ _ (image_end bytes text front shown n before whole zero) = one_more _ _ _ bytes text (led bytes front _ before) (shown, whole, cc)

-- ---- how far a front is

-- how many values there are, none or one
abbrev told : {A : Type 0} → Option A → ℕ
told None = 0
told (Some x) = 1

-- not more than one
told_once : {A : Type 0} (o : Option A) → told o ≤ 1
told_once None = omega arith
told_once (Some x) = omega arith

-- how many parts of the image are shown: its headers and its records
abbrev image_parts : ShownFront → ℕ
image_parts front = told front.version + told front.kind + count_by (λ shown. not shown.wrapped) front.records

-- one more record of the libxl stream, or of the image
number_more : (front : ShownFront) (shown : Seen1) (wrapped : Bool) → shown.wrapped ≡ wrapped
    → (libxl_number (with_shown front shown) ≡ libxl_number front + cond wrapped 1 0) × (image_parts (with_shown front shown) ≡ image_parts front + cond (not wrapped) 1 0)
number_more front shown wrapped is = rw (← is) (
  sum_by_push (λ (s : Seen1). cond s.wrapped 1 0) front.records shown,
  omega (arith, sum_by_push (λ (s : Seen1). cond (not s.wrapped) 1 0) front.records shown),
)

-- how far a front is that stands in front of a place
abbrev IsAt : List ℕ → ShownFront → Option Place → Type 0
IsAt bytes front None = Unit {0}
IsAt bytes front (Some LibxlHeader) = (bytes ≡ []) × (front ≡ of_form true)
IsAt bytes front (Some (LibxlRecord n)) = (libxl_number front ≡ n) × (told front.version ≡ 0 → image_parts front ≡ 0)
IsAt bytes front (Some ImageHeader) = image_parts front ≡ 0
IsAt bytes front (Some DomainHeader) = (told front.version ≡ 1) × (image_parts front ≡ 1)
IsAt bytes front (Some (Record n)) = (told front.version ≡ 1) × (image_parts front ≡ n + 2)

-- behind an image that stands whole
at_behind : (bytes : List ℕ) (front : ShownFront) (n : ℕ) (wrapper : Bool) → libxl_number front ≡ n → told front.version ≡ 1 → IsAt bytes front (if wrapper then Some (LibxlRecord n) else None)
at_behind bytes front n true number version = (number, λ none. absurd (omega arith))
at_behind bytes front n false number version = tt

-- a front is as far as the place tells that it stands in front of
is_at : (bytes : List ℕ) (front : ShownFront) (place : Option Place) → StandsBefore bytes front place → IsAt bytes front place
is_at _ _ _ image_first = refl
is_at _ _ _ header_first = (refl, refl)
is_at _ _ _ (libxl_header bytes text front before size) = rw (is_at bytes front _ before).1 (refl, λ _. refl)
is_at _ _ _ (libxl_record bytes text front shown n before whole other inner) =
    let known = is_at bytes front _ before in
    let more = number_more front shown true whole.layer in
    (omega arith, λ none. omega (arith, known.1 none))
is_at _ _ _ (libxl_context bytes text front shown n before whole one none) = omega (arith, number_more front shown true whole.layer, (is_at bytes front _ before).1 (ap told none))
is_at _ _ _ (libxl_end bytes text front shown n before whole zero) = tt
is_at _ _ _ (image_header bytes text front before size) = let known = is_at bytes front _ before in (refl, omega arith)
is_at _ _ _ (domain_header bytes text front before size) = let known = is_at bytes front _ before in (known.0, omega arith)
is_at _ _ _ (image_record bytes text front shown n before whole other) = let known = is_at bytes front _ before in (known.0, omega (arith, number_more front shown false whole.layer))
is_at _ _ _ (image_end bytes text front shown n before whole zero) =
    at_behind (bytes ++ text) (with_shown front shown) (libxl_number front) front.wrapper (omega (arith, number_more front shown false whole.layer)) (is_at bytes front _ before).0

-- no less is shown of the libxl stream, nor of the image
abbrev ShowsNoLess : ShownFront → ShownFront → Type 0
ShowsNoLess front more = (libxl_number front ≤ libxl_number more) × (image_parts front ≤ image_parts more)

-- by a step
step_grows : (here next : Stand) (text : List ℕ) → Adds here text next → ShowsNoLess here.0 next.0
step_grows (front, None) next text adds = absurd adds
step_grows (front, Some LibxlHeader) next text (size, is) = rw is (omega arith, omega arith)
step_grows (front, Some (LibxlRecord n)) next text (shown, whole, is) = let more = number_more front shown true whole.layer in rw is (omega arith, omega arith)
step_grows (front, Some ImageHeader) next text (size, is) = rw is (omega arith, omega (arith, told_once front.version))
step_grows (front, Some DomainHeader) next text (size, is) = rw is (omega arith, omega (arith, told_once front.kind))
step_grows (front, Some (Record n)) next text (shown, whole, is) = let more = number_more front shown false whole.layer in rw is (omega arith, omega arith)

-- by all the steps from one place to another
grows : (here there : Stand) (bytes left : List ℕ) → Leads here bytes there left → ShowsNoLess here.0 there.0
grows here _ bytes _ (nowhere _ _) = (omega arith, omega arith)
grows here there bytes left (onward _ next _ _ text rest _ whole adds leads) =
    let first = step_grows here next text adds in
    let more = grows next there rest left leads in
    (omega arith, omega arith)

-- behind a step from a place no front stands in front of that place again
passed : (place : Option Place) (front also : ShownFront) (bytes other text : List ℕ) (next : Stand) → place ≢ Some LibxlHeader → Adds (front, place) text next → ShowsNoLess next.0 also → IsAt bytes front place → IsAt other also place → ⊥
passed None front also bytes other text next begun adds grown known again = adds
passed (Some LibxlHeader) front also bytes other text next begun adds grown known again = begun refl
passed (Some (LibxlRecord n)) front also bytes other text next begun (shown, whole, is) grown known again =
    let step = number_more front shown true whole.layer in
    let more = rw is at grown in
    omega arith
passed (Some ImageHeader) front also bytes other text next begun (size, is) grown known again = let more = rw is at grown in omega arith
passed (Some DomainHeader) front also bytes other text next begun (size, is) grown known again = let more = rw is at grown in omega arith
passed (Some (Record n)) front also bytes other text next begun (shown, whole, is) grown known again =
    let step = number_more front shown false whole.layer in
    let more = rw is at grown in
    omega arith

-- so steps from a place to the same place are none
no_steps : (here there : Stand) (bytes other rest left : List ℕ) → here.1 ≢ Some LibxlHeader → IsAt bytes here.0 here.1 → IsAt other there.0 there.1 → here.1 ≡ there.1 → Leads here rest there left → (rest ≡ left) × (here ≡ there)
no_steps here _ bytes other rest _ begun known again same (nowhere _ _) = (refl, refl)
no_steps here there bytes other rest left begun known again same (onward _ next _ _ text behind _ whole adds leads) =
    absurd (passed here.1 here.0 there.0 bytes other text next begun adds (grows next there behind left leads) known (rw (← same) at again))

-- two fronts of one input that stand in front of the same place, both of a libxl stream or neither, are the same, and the
-- same is shown of them
pub only_one_front : (input bytes rest other more : List ℕ) (seen also : ShownFront) (place : Option Place) → input ≡ bytes ++ rest → input ≡ other ++ more → seen.wrapper ≡ also.wrapper → StandsBefore bytes seen place → StandsBefore other also place → (bytes ≡ other) × (seen ≡ also)
only_one_front input bytes rest other more seen also (Some LibxlHeader) one two same first second =
    let known = is_at bytes seen (Some LibxlHeader) first in
    let again = is_at other also (Some LibxlHeader) second in
    (known.0 ∙ sym again.0, known.1 ∙ sym again.1)
only_one_front input bytes rest other more seen also place one two same first second =
    by (one_way (start seen.wrapper) (seen, place) (also, place) input rest more (led bytes seen place first input rest rest _ one (nowhere _ _)) (rw same (led other also place second input more more _ two (nowhere _ _))))
  where
    ends : (rest ≡ more) × (◌≡◌ {A = Stand} (seen, place) (also, place)) → (bytes ≡ other) × (seen ≡ also)
    ends (left, here) = (append_cancel_right bytes other more (ap (λ l. bytes ++ l) (sym left) ∙ sym one ∙ two), ap (λ (s : Stand). s.0) here)

    by : Leads (seen, place) rest (also, place) more ⊎ Leads (also, place) more (seen, place) rest → (bytes ≡ other) × (seen ≡ also)
    by (inl leads) = ends (no_steps _ _ bytes other _ _ (λ header. cc) (is_at bytes seen place first) (is_at other also place second) refl leads)
    by (inr leads) = let none = no_steps _ _ other bytes _ _ (λ header. cc) (is_at other also place second) (is_at bytes seen place first) refl leads in ends (sym none.0, sym none.1)
