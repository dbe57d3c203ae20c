-- The form of each piece of an image is judged as this piece is.
use Rattle.mig_refusals.proofs.Common.{as_content, behind_list, entries_in_place, front_list, good_list, list_stage, option_or, lists_of, parts_of_body, ◌≡◌, ℕ, ◌*◌, List, [], ◌∷◌, ◌++◌, Bool, true, false, cond, Option, Some, None, refl, sym, ap, ◌∙◌, le32, be32, Judged, ◌>>=◌, part, plain_at, said_at, tried, Passes, Faulty, Cause, Truncated, Kind, Opening, Before, before, StreamRecord, RecordType, PartCode, words, fault_of_marker, fault_of_image, fault_of_domain, fault_of_head, fault_of_count, fault_of_words, fault_of_data, fault_of_page, fault_of_pv_info, fault_of_p2m, fault_of_body, kind_of_number, padding_len, sent, FrameEntry, word_pfn, type_in_word, Gives, computed, asked_is, each_is, then_is, computed_is, is_optional, type_of_number, PageData, X86PvInfo, X86PvP2mFrames, word_has_data, Content, is_verified, placed_content, kind_at, marker_at, version_at, marker_form, version_form, kind_form, image_page_form, image_entry_form, pages_form, coded_form, typed_form, image_body_form, image_record_form, next_form}
use Rattle.mig_bytes_form.specs.Form.{FormOf, ◌>>>◌, asked_form, bytes_form, each_form, said_form, judged_as}
use Rattle.mig_restore_form.specs.Judging.{fault_at_end, record_at, next_at, body_at, code_of_type, coded_at, entry_at, head_at, page_at, pages_at, typed_at, with_places, words_at}
use Rattle.mig_restore_form.specs.Record.Content.{Nothing, Frames, Sets}

-- a part with a computed cause
said_is : {X : Type 0} (fault : List ℕ → Option Cause) (says : List ℕ → X) (n : ℕ) (i : List ℕ) → judged_as (said_form Truncated n (λ bytes. computed (fault bytes)) says) i ≡ said_at Truncated fault says n i
unfolding judged_as
said_is fault says n i = λ at. part Truncated n i >>= λ b. tried (computed_is (fault b.0) at) b.1 >>= λ _. Passes (says b.0) b.1

-- and one without
plain_is : {X : Type 0} (says : List ℕ → X) (n : ℕ) (i : List ℕ) → judged_as (said_form {C = Cause} Truncated n (λ _. []) says) i ≡ plain_at Truncated says n i
unfolding judged_as
plain_is says n i = refl

-- ---- headers

pub marker_judged : (i : List ℕ) → judged_as marker_form i ≡ marker_at i
marker_judged i = said_is fault_of_marker (λ l. l) 8 i

pub version_judged : (i : List ℕ) → judged_as version_form i ≡ version_at i
version_judged i = said_is fault_of_image (λ l. be32 l 4) 16 i

pub kind_judged : (i : List ℕ) → judged_as kind_form i ≡ kind_at i
kind_judged i = said_is fault_of_domain (λ l. kind_of_number (le32 l 0)) 16 i

-- ---- a PAGE_DATA body

module _ (kind : Kind) (top : ℕ) where
  page_judged : (at : ℕ × ℕ) (i : List ℕ) → judged_as (image_page_form kind top at) i ≡ page_at kind top at i
  unfolding judged_as
  page_judged at i = by (word_has_data at.1)
    where
      by : (sent : Bool) → judged_as (cond sent (said_form Truncated 4096 (λ page. computed (fault_of_page kind top at page)) Some) (Gives None)) i ≡ cond sent (said_at Truncated (fault_of_page kind top at) Some 4096 i) (Passes None i)
      by true = said_is (fault_of_page kind top at) Some 4096 i
      by false = refl

  entry_judged : (at : ℕ × ℕ) (i : List ℕ) → judged_as (image_entry_form kind top at) i ≡ entry_at kind top at i
  unfolding judged_as
  entry_judged at i = then_is (image_page_form kind top at) (λ page. Gives (entry page)) i (page_at kind top at i) (λ page. Passes (entry page.0) page.1) (page_judged at i) (λ page mid. refl)
    where
      entry : Option (List ℕ) → FrameEntry
      entry page = record { pfn = word_pfn at.1; type = type_in_word at.1; page = page }

  -- ---- the body behind its count, and behind its words

  abbrev behind_the_words : ℕ → List ℕ → FormOf Cause Content
  behind_the_words len ws = asked_form Truncated (computed (fault_of_data len ws)) ws >>> λ ws. each_form (image_entry_form kind top) (with_places 0 ws) >>> λ entries. Gives (Frames entries)

  abbrev behind_the_count : ℕ → ℕ → FormOf Cause Content
  behind_the_count len n = said_form Truncated (8 * n) (λ bytes. computed (fault_of_words kind top (words n bytes))) (words n) >>> λ ws. behind_the_words len ws

  entries_judged : (ws mid : List ℕ) → judged_as (each_form (image_entry_form kind top) (with_places 0 ws) >>> λ entries. Gives (Frames entries)) mid ≡ behind_list kind top (ws, mid)
  unfolding judged_as
  entries_judged ws mid = then_is (each_form (image_entry_form kind top) (with_places 0 ws)) (λ entries. Gives (Frames entries)) mid (entries_in_place kind top 0 ws mid) as_content (each_is (image_entry_form kind top) (entry_at kind top) entry_judged (with_places 0 ws) mid) (λ entries rest. refl)

  data_judged : (len : ℕ) (ws mid : List ℕ) → judged_as (behind_the_words len ws) mid ≡ ((tried (fault_of_data len ws) mid >>= λ _. Passes ws mid) >>= behind_list kind top)
  data_judged len ws mid =
      then_is (asked_form Truncated (computed (fault_of_data len ws)) ws) (λ ws. each_form (image_entry_form kind top) (with_places 0 ws) >>> λ entries. Gives (Frames entries)) mid (tried (fault_of_data len ws) mid >>= λ _. Passes ws mid) (behind_list kind top)
      (asked_is Truncated (computed (fault_of_data len ws)) ws mid ∙ ap (λ o. tried o mid >>= λ _. Passes ws mid) (computed_is (fault_of_data len ws)))
      (λ ws rest. entries_judged ws rest)

  words_judged : (len n : ℕ) (mid : List ℕ) → judged_as (behind_the_count len n) mid ≡ ((words_at n mid >>= good_list kind top len) >>= behind_list kind top)
  words_judged len n mid =
      then_is (said_form Truncated (8 * n) (λ bytes. computed (fault_of_words kind top (words n bytes))) (words n)) (behind_the_words len) mid (said_at Truncated (λ b. fault_of_words kind top (words n b)) (words n) (8 * n) mid) (λ a. (tried (fault_of_data len a.0) a.1 >>= λ _. Passes a.0 a.1) >>= behind_list kind top)
      (said_is (λ b. fault_of_words kind top (words n b)) (words n) (8 * n) mid) (λ ws rest. data_judged len ws rest)
      ∙ by (part Truncated (8 * n) mid)
    where
      tries : (o : Option Cause) (ws rest : List ℕ) → ((tried o rest >>= λ _. Passes ws rest) >>= λ a. (tried (fault_of_data len a.0) a.1 >>= λ _. Passes a.0 a.1) >>= behind_list kind top) ≡ ((tried (option_or o (fault_of_data len ws)) rest >>= λ _. Passes ws rest) >>= behind_list kind top)
      tries None ws rest = refl
      tries (Some c) ws rest = refl

      by : (j : Judged Cause (List ℕ)) → ((j >>= λ b. tried (fault_of_words kind top (words n b.0)) b.1 >>= λ _. Passes (words n b.0) b.1) >>= λ a. (tried (fault_of_data len a.0) a.1 >>= λ _. Passes a.0 a.1) >>= behind_list kind top) ≡ (((j >>= λ b. Passes (words n b.0) b.1) >>= good_list kind top len) >>= behind_list kind top)
      by (Passes x rest) = tries (fault_of_words kind top (words n x)) (words n x) rest
      by (Faulty c rest) = refl

  pages_judged : (len : ℕ) (i : List ℕ) → judged_as (pages_form kind top len) i ≡ pages_at kind top len i
  pages_judged len i =
      then_is (bytes_form Truncated 8 (λ front. computed (fault_of_count len (le32 front 0)))) (λ front. behind_the_count len (le32 front 0)) i (said_at Truncated (λ front. fault_of_count len (le32 front 0)) (λ l. l) 8 i) (λ front. (words_at (le32 front.0 0) front.1 >>= good_list kind top len) >>= behind_list kind top)
      (said_is (λ front. fault_of_count len (le32 front 0)) (λ l. l) 8 i) (λ front mid. words_judged len (le32 front 0) mid)
      ∙ by (part Truncated 8 i) ∙ sym (list_stage kind top len i)
    where
      tries : (o : Option Cause) (front mid : List ℕ) → ((tried o mid >>= λ _. Passes front mid) >>= λ a. (words_at (le32 a.0 0) a.1 >>= good_list kind top len) >>= behind_list kind top) ≡ ((tried o mid >>= λ _. words_at (le32 front 0) mid >>= good_list kind top len) >>= behind_list kind top)
      tries None front mid = refl
      tries (Some c) front mid = refl

      by : (j : Judged Cause (List ℕ)) → ((j >>= λ b. tried (fault_of_count len (le32 b.0 0)) b.1 >>= λ _. Passes b.0 b.1) >>= λ a. (words_at (le32 a.0 0) a.1 >>= good_list kind top len) >>= behind_list kind top) ≡ ((j >>= front_list kind top len) >>= behind_list kind top)
      by (Passes x mid) = tries (fault_of_count len (le32 x 0)) x mid
      by (Faulty c mid) = refl

  -- ---- a body

  coded_judged : (o : Option PartCode) (len : ℕ) (i : List ℕ) → judged_as (coded_form o len) i ≡ coded_at o len i
  unfolding judged_as
  coded_judged None len i = refl
  coded_judged (Some code) len i = said_is (fault_of_body code) (λ body. Sets code (parts_of_body code body)) len i

  typed_judged : (o : Option RecordType) (len : ℕ) (i : List ℕ) → judged_as (typed_form kind top o len) i ≡ typed_at kind top o len i
  unfolding judged_as
  typed_judged None len i = refl
  typed_judged (Some PageData) len i = pages_judged len i
  typed_judged (Some X86PvInfo) len i = said_is fault_of_pv_info (λ _. Nothing) len i
  typed_judged (Some X86PvP2mFrames) len i = said_is fault_of_p2m lists_of len i
  typed_judged (Some this) len i = coded_judged (code_of_type this) len i

  body_judged : (type len : ℕ) (i : List ℕ) → judged_as (image_body_form kind top type len) i ≡ body_at kind top type len i
  body_judged type len i = by (is_optional type)
    where
      by : (optional : Bool) → judged_as (cond optional (said_form Truncated len (λ _. []) (λ _. Nothing)) (typed_form kind top (type_of_number type) len)) i ≡ cond optional (plain_at Truncated (λ _. Nothing) len i) (typed_at kind top (type_of_number type) len i)
      by true = plain_is (λ _. Nothing) len i
      by false = typed_judged (type_of_number type) len i

-- ---- a record

record_judged : (b : Before) (i : List ℕ) → judged_as (image_record_form b) i ≡ record_at b i
unfolding judged_as ◌>>>◌ record_at
record_judged b i =
    then_is (bytes_form Truncated 8 (λ head. computed (fault_of_head b head))) behind_head i (head_at b i) (λ head. behind head.0 head.1) (said_is (fault_of_head b) (λ l. l) 8 i)
    (λ head mid. then_is (image_body_form b.opening.kind b.top (le32 head 0) (le32 head 4)) (padded head) mid (body_at b.opening.kind b.top (le32 head 0) (le32 head 4) mid) (λ body. padding head body.0 body.1) (body_judged b.opening.kind b.top (le32 head 0) (le32 head 4) mid) (λ body left. refl))
  where
    said : List ℕ → Content → StreamRecord
    said head content = record { type = le32 head 0; content = placed_content (is_verified b.types) content }

    padded : List ℕ → Content → FormOf Cause StreamRecord
    padded head content = bytes_form Truncated (padding_len (le32 head 4)) (λ _. []) >>> λ _. Gives (said head content)

    behind_head : List ℕ → FormOf Cause StreamRecord
    behind_head head = image_body_form b.opening.kind b.top (le32 head 0) (le32 head 4) >>> padded head

    padding : List ℕ → Content → List ℕ → Judged Cause StreamRecord
    padding head content left = part Truncated (padding_len (le32 head 4)) left >>= λ padding. Passes (said head content) padding.1

    behind : List ℕ → List ℕ → Judged Cause StreamRecord
    behind head mid = body_at b.opening.kind b.top (le32 head 0) (le32 head 4) mid >>= λ body. padding head body.0 body.1

pub next_judged : (o : Opening) (records : List StreamRecord) (i : List ℕ) → judged_as (next_form o records) i ≡ next_at o records i
unfolding next_at
next_judged o records i =
    then_is (image_record_form (before o records)) (λ r. asked_form Truncated (computed (fault r)) r) i (record_at (before o records) i) (λ r. tried (fault r.0) r.1 >>= λ _. Passes r.0 r.1) (record_judged (before o records) i)
    (λ r mid. asked_is Truncated (computed (fault r)) r mid ∙ ap (λ o. tried o mid >>= λ _. Passes r mid) (computed_is (fault r)))
  where
    fault : StreamRecord → Option Cause
    fault r = fault_at_end r.type (sent o.kind (records ++ r ∷ []))
