-- A record of a libxl stream is refused where its form is, or where the image behind its head is.
use Rattle.mig_refusals.proofs.Common.{pairs_in, then_faulty, bind_cases, passes_not, only_first, placed_faulty, ◌≡◌, ◌⊎◌, inl, inr, ℕ, List, [], ◌++◌, Bool, true, false, cond, nat_eq, length, refl, sym, ap, subst, ◌∙◌, eqb-true, eq-eqb, false≢true, le32, drop, part, placed, tried, Judged, ◌>>=◌, Passes, Faulty, then_passes, placed_passes, Cause, padding_len, Place, image_at, LibxlRecord, LibxlContent, libxl_record_at, libxl_head_at, libxl_content_at, inner_at, body_of_type, emulators_of, libxl_behind_head, behind_content, allows_length, AtRecord, Image, LibxlNothing, Truncated, skipped_at, cases_Bool, Gives, bytes_spelled, first_refused, gives_begins, refused_then, then_is, then_refused, NoneHolds, no_bytes, Pairs, Context, emulator_key, pairs_at, context_at, head_causes, record_head_form, record_body_form, behind_record_head, record_form}
use Rattle.mig_bytes_form.specs.Form.{FormOf, ◌>>>◌, bytes_form, judged_as, BeginsAs, SpelledAs, RefusedAs}
use Rattle.mig_bytes_form.proofs.Verdicts.{begins_passes, is_refused, never_both, passes_is_spelled, refused_is, spelled_passes}
use Rattle.mig_refusals.proofs.StreamCauses.{context_named, head_named, pairs_named}

module _ (records : List LibxlRecord) where
  abbrev place : Place
  place = AtRecord (length records)

  head_judged : (i : List ℕ) → judged_as (record_head_form records) i ≡ libxl_head_at records i
  unfolding judged_as
  head_judged i = λ at. part Truncated 8 i >>= λ b. tried (head_named records (le32 b.0 0) (le32 b.0 4) at) b.1 >>= λ _. Passes b.0 b.1

  body_judged : (type len : ℕ) (i : List ℕ) → judged_as (record_body_form records type len) i ≡ body_of_type (emulators_of records) type len i
  unfolding judged_as
  body_judged type len i = by (nat_eq type 2) (nat_eq type 3)
    where
      by : (two three : Bool) → judged_as (cond two (record_body_form records 2 len) (cond three (record_body_form records 3 len) (record_body_form records 0 len))) i ≡ cond two (pairs_at (emulators_of records) len i) (cond three (context_at len i) (skipped_at len i))
      by true three = λ at. part Truncated len i >>= λ b. tried (pairs_named records b.0 at) b.1 >>= λ _. Passes (Pairs (emulator_key 258 b.0) (pairs_in (drop 8 b.0))) b.1
      by false true = λ at. part Truncated len i >>= λ b. tried (context_named b.0 at) b.1 >>= λ _. Passes (Context (emulator_key 259 b.0) (drop 8 b.0)) b.1
      by false false = refl

  -- with a place each, or as one
  placed_then : {X Y : Type 0} (j : Judged Cause X) (k : X × List ℕ → Judged Cause Y) → placed place (j >>= k) ≡ (placed place j >>= λ a. placed place (k a))
  placed_then (Passes x rest) k = refl
  placed_then (Faulty c rest) k = refl

  module _ (head : List ℕ) where
    abbrev type : ℕ
    type = le32 head 0

    abbrev len : ℕ
    len = le32 head 4

    abbrev said : LibxlContent → LibxlRecord
    said content = record { type = type; content = content }

    abbrev padded : LibxlContent → FormOf Cause LibxlRecord
    padded content = bytes_form Truncated (padding_len len) (λ _. []) >>> λ _. Gives (said content)

    abbrev body_and_padding : FormOf Cause LibxlRecord
    body_and_padding = record_body_form records type len >>> padded

    -- behind a head that isn't that of LIBXC_CONTEXT
    behind_judged : (mid : List ℕ) → nat_eq type 1 ≡ false → placed place (judged_as (behind_record_head records head) mid) ≡ libxl_behind_head records (head, mid)
    unfolding judged_as ◌>>>◌
    behind_judged mid one =
        ap (λ b. placed place (judged_as (cond b (Gives (said LibxlNothing)) body_and_padding) mid)) one
        ∙ ap (placed place) (then_is (record_body_form records type len) padded mid (body_of_type (emulators_of records) type len mid) padding (body_judged type len mid) (λ content left. padding_judged content left))
        ∙ placed_then (body_of_type (emulators_of records) type len mid) padding
        ∙ (λ at. placed place (body_of_type (emulators_of records) type len mid) >>= λ a. padding_placed a.0 a.1 at)
        ∙ ap (λ b. cond b (inner_at mid) (placed place (body_of_type (emulators_of records) type len mid)) >>= behind_content records head) (sym one)
      where
        padding : LibxlContent × List ℕ → Judged Cause LibxlRecord
        padding content = part Truncated (padding_len len) content.1 >>= λ padding. Passes (said content.0) padding.1

        padding_judged : (content : LibxlContent) (left : List ℕ) → judged_as (padded content) left ≡ padding (content, left)
        padding_judged content left = refl

        padding_placed : (content : LibxlContent) (left : List ℕ) → placed place (padding (content, left)) ≡ behind_content records head (content, left)
        padding_placed content left = placed_then (part Truncated (padding_len len) left) (λ p. Passes (said content) p.1)

    -- LIBXC_CONTEXT has no body
    no_body : NoneHolds (head_causes records type len) → type ≡ 1 → len ≡ 0
    no_body none one = eqb-true len 0 (subst (λ t. allows_length t len ≡ true) one (elim (cases_Bool (allows_length type len)) [ inl h ↦ h | inr fails ↦ absurd (none.1.1.1.0 (λ t. false≢true (sym fails ∙ t))) ]))

  -- ---- a record that is refused

  pub down : (i : List ℕ) (c : Cause) (rest : List ℕ) → RefusedAs (record_form records) i c rest → libxl_record_at records i ≡ Faulty (place, c) rest
  unfolding libxl_record_at
  down i c rest refused = elim (refused_then (record_head_form records) (behind_record_head records) i c rest refused) [
    | inl e ↦ then_faulty (placed place (libxl_head_at records i)) (libxl_behind_head records) (place, c) rest (ap (placed place) (sym (head_judged i) ∙ refused_is (record_head_form records) i c rest e))
    | inr a ↦
        then_passes (placed place (libxl_head_at records i)) (libxl_behind_head records) a.0 a.1 _ (ap (placed place) (sym (head_judged i) ∙ begins_passes (record_head_form records) i a.0 a.1 a.2))
        (by a.0 a.1 (nat_eq (le32 a.0 0) 1) refl a.3)
  ]
    where
      by : (head mid : List ℕ) (b : Bool) → nat_eq (le32 head 0) 1 ≡ b → RefusedAs (behind_record_head records head) mid c rest → libxl_behind_head records (head, mid) ≡ Faulty (place, c) rest
      by head mid false one fails = sym (behind_judged head mid one) ∙ ap (placed place) (refused_is (behind_record_head records head) mid c rest fails)
      by head mid true one fails =
          let none : RefusedAs (Gives (said head LibxlNothing)) mid c rest = subst (λ b. RefusedAs (cond b (Gives (said head LibxlNothing)) (body_and_padding head)) mid c rest) one fails in
          absurd (never_both (Gives (said head LibxlNothing)) mid (said head LibxlNothing) mid c rest (gives_begins (said head LibxlNothing) mid) none)

  -- the image behind LIBXC_CONTEXT is refused: so is the record
  pub image_down : (head left : List ℕ) (at : Place × Cause) (rest : List ℕ) → SpelledAs (record_head_form records) head head → le32 head 0 ≡ 1 → image_at left ≡ Faulty at rest → libxl_record_at records (head ++ left) ≡ Faulty at rest
  unfolding libxl_record_at
  image_down head left at rest spelled one h =
      then_passes (placed place (libxl_head_at records (head ++ left))) (libxl_behind_head records) head left _ (ap (placed place) (sym (head_judged (head ++ left)) ∙ spelled_passes (record_head_form records) head head left spelled))
      (then_faulty (libxl_content_at records (le32 head 0) (le32 head 4) left) (behind_content records head) at rest
      (ap (λ t. cond t (inner_at left) (placed place (body_of_type (emulators_of records) (le32 head 0) (le32 head 4) left))) (eq-eqb (le32 head 0) 1 one) ∙ then_faulty (image_at left) (λ image. Passes (Image image.0) image.1) at rest h))

  -- the image behind its head is refused
  pub record ImageStops (i : List ℕ) (at : Place) (c : Cause) (rest : List ℕ) : Type 0 where
    pub head : List ℕ
    pub left : List ℕ
    pub whole : i ≡ head ++ left
    pub spelled : SpelledAs (record_head_form records) head head
    pub is_context : le32 head 0 ≡ 1
    pub refused : image_at left ≡ Faulty (at, c) rest

  module _ (i : List ℕ) (at : Place) (c : Cause) (rest : List ℕ) where
    -- its form is refused, or that image
    abbrev Stops : Type 0
    Stops = (RefusedAs (record_form records) i c rest × (place ≡ at)) ⊎ ImageStops i at c rest

    image_stops : (head mid : List ℕ) → BeginsAs (record_head_form records) i head mid → nat_eq (le32 head 0) 1 ≡ true → libxl_behind_head records (head, mid) ≡ Faulty (at, c) rest → Stops
    image_stops head mid (start, whole, spelled) one h =
        let (is, faultless, size, none) = bytes_spelled Truncated 8 (λ b. head_causes records (le32 b 0) (le32 b 4)) start head spelled in
        let type_is = eqb-true (le32 head 0) 1 one in
        elim (bind_cases (libxl_content_at records (le32 head 0) (le32 head 4) mid) (behind_content records head) (at, c) rest h) [
          | inl e ↦
              let inner = ap (λ b. cond b (inner_at mid) (placed place (body_of_type (emulators_of records) (le32 head 0) (le32 head 4) mid))) (sym one) ∙ e in
              inr (record { head = head; left = mid; whole = whole ∙ ap (λ l. l ++ mid) is; spelled = faultless; is_context = type_is; refused = only_first Image (image_at mid) (at, c) rest inner })
          | inr a ↦
              let p = placed_faulty place at (part Truncated (padding_len (le32 head 4)) a.1) c rest (only_first (λ _. said head a.0) (placed place (part Truncated (padding_len (le32 head 4)) a.1)) (at, c) rest a.3) in
              passes_not [] a.1 c rest (sym (no_bytes Truncated a.1) ∙ ap (λ n. part Truncated n a.1) (sym (ap padding_len (no_body head none type_is))) ∙ p.0)
        ]

    behind_up : (head mid : List ℕ) → BeginsAs (record_head_form records) i head mid → (b : Bool) → nat_eq (le32 head 0) 1 ≡ b → libxl_behind_head records (head, mid) ≡ Faulty (at, c) rest → Stops
    behind_up head mid begins true one h = image_stops head mid begins one h
    behind_up head mid begins false one h =
        let p = placed_faulty place at (judged_as (behind_record_head records head) mid) c rest (behind_judged head mid one ∙ h) in
        inl (then_refused (record_head_form records) (behind_record_head records) i mid head c rest begins (is_refused (behind_record_head records head) mid c rest p.0), p.1)

    pub up : libxl_record_at records i ≡ Faulty (at, c) rest → Stops
    unfolding libxl_record_at
    up h = elim (bind_cases (placed place (libxl_head_at records i)) (libxl_behind_head records) (at, c) rest h) [
      | inl e ↦ let p = placed_faulty place at (libxl_head_at records i) c rest e in inl (first_refused (record_head_form records) (behind_record_head records) i c rest (is_refused (record_head_form records) i c rest (head_judged i ∙ p.0)), p.1)
      | inr a ↦ behind_up a.0 a.1 (passes_is_spelled (record_head_form records) i a.0 a.1 (head_judged i ∙ placed_passes place (libxl_head_at records i) a.0 a.1 a.2)) (nat_eq (le32 a.0 0) 1) refl a.3
    ]
