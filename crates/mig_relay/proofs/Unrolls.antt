-- What comes next in an image is a part of so many bytes, and what is judged behind it.
use Rattle.mig_relay.proofs.Common.{◌≡◌, ℕ, ◌<◌, List, [], ◌∷◌, ◌++◌, length, true, false, Option, None, refl, ap, ◌∙◌, arith, padding_len, le32, be32, Judged, ◌>>=◌, part, tried, placed, said_at, Passes, Faulty, onward, said_part, no_bytes, over, goes_on, fault_of_marker, fault_of_image, fault_of_domain, kind_of_number, Cause, Truncated, Place, ImageHeader, DomainHeader, Record, open_next, head_in, RecordHead, Opening, opening_of, before, fault_of_head, head_at, record_at, body_at, StreamRecord, Content, is_ended, image_of, opening_behind, marker_at, version_at, kind_at, begins, AtMarker, AtVersion, AtKind, AtHead, AtBody, AtPadding, judged_next, record_with, with_body, BeginsWithPart, plain_part, with_record, padded}
use Rattle.mig_relay.specs.Images.{open_records, open_image_at}
use Rattle.mig_relay.proofs.Images.{open_shrinks}
use Rattle.mig_restore_form.specs.Stream.{opening_at}
use Rattle.mig_restore_form.proofs.Parts.{behind_head, behind_body}

-- ---- judgements one after another, regrouped

pub bind_assoc : {C X Y Z : Type 0} (j : Judged C X) (f : X × List ℕ → Judged C Y) (k : Y × List ℕ → Judged C Z) → ((j >>= f) >>= k) ≡ (j >>= λ a. f a >>= k)
bind_assoc (Passes x rest) f k = refl
bind_assoc (Faulty c rest) f k = refl

placed_bind : {P C X Y Z : Type 0} (place : P) (j : Judged C X) (f : X × List ℕ → Judged C Y) (k : Y × List ℕ → Judged (P × C) Z) → (placed place (j >>= f) >>= k) ≡ (placed place j >>= λ a. placed place (f a) >>= k)
placed_bind place (Passes x rest) f k = refl
placed_bind place (Faulty c rest) f k = refl

-- ---- headers

pub marker_is : BeginsWithPart (judged_next AtMarker) ImageHeader 8 fault_of_marker (λ _ i. judged_next AtVersion i)
unfolding open_image_at opening_at
marker_is = record {
  judged = λ i. bind_assoc (placed ImageHeader (marker_at i)) (λ m. opening_behind m.1) (λ opening. open_records opening.0 [] opening.1);
  some = omega arith;
}

pub version_is : BeginsWithPart (judged_next AtVersion) ImageHeader 16 fault_of_image (λ b i. judged_next (AtKind (be32 b 4)) i)
version_is = record {
  judged = λ i.
      bind_assoc (placed ImageHeader (version_at i)) (λ v. placed DomainHeader (kind_at v.1) >>= λ k. Passes (opening_of v.0 k.0) k.1) (λ opening. open_records opening.0 [] opening.1)
      ∙ said_part ImageHeader Truncated (λ b. be32 b 4) (λ v. (placed DomainHeader (kind_at v.1) >>= λ k. Passes (opening_of v.0 k.0) k.1) >>= λ opening. open_records opening.0 [] opening.1) fault_of_image 16 i
      ∙ same (placed ImageHeader (said_at Truncated fault_of_image (λ b. b) 16 i));
  some = omega arith;
}
  where
    same : (j : Judged (Place × Cause) (List ℕ))
        → (j >>= λ b. (placed DomainHeader (kind_at b.1) >>= λ k. Passes (opening_of (be32 b.0 4) k.0) k.1) >>= λ opening. open_records opening.0 [] opening.1) ≡ (j >>= λ b. judged_next (AtKind (be32 b.0 4)) b.1)
    same (Faulty c rest) = refl
    same (Passes b rest) = bind_assoc (placed DomainHeader (kind_at rest)) (λ k. Passes (opening_of (be32 b 4) k.0) k.1) (λ opening. open_records opening.0 [] opening.1)

pub kind_is : (version : ℕ) → BeginsWithPart (judged_next (AtKind version)) DomainHeader 16 fault_of_domain (λ b i. judged_next (AtHead (opening_of version (kind_of_number (le32 b 0))) []) i)
kind_is version = record {
  judged = λ i. said_part DomainHeader Truncated (λ b. kind_of_number (le32 b 0)) (λ k. open_records (opening_of version k.0) [] k.1) fault_of_domain 16 i;
  some = omega arith;
}

-- ---- records

module _ (o : Opening) (records : List StreamRecord) where
  abbrev here : Place
  here = Record (length records)

  -- behind records of which none ends them
  opened : (i : List ℕ) → is_ended records ≡ false → open_records o records i ≡ with_record o records (record_at (before o records) i)
  unfolding open_records
  opened i going =
      ap (λ (j : Judged (Place × Cause) (List StreamRecord)). j >>= λ all. Passes (image_of o all.0) all.1) (goes_on is_ended (open_next o) (open_shrinks o) records i going)
      ∙ bind_assoc (open_next o records i) (λ r. onward is_ended (open_next o) (records ++ r.0 ∷ []) r.1) (λ all. Passes (image_of o all.0) all.1)

  pub ended : (i : List ℕ) → is_ended records ≡ true → open_records o records i ≡ Passes (image_of o records) i
  unfolding open_records
  ended i over_now = ap (λ (j : Judged (Place × Cause) (List StreamRecord)). j >>= λ all. Passes (image_of o all.0) all.1) (over is_ended (open_next o) records i over_now)

  pub head_is : is_ended records ≡ false → BeginsWithPart (judged_next (AtHead o records)) here 8 (fault_of_head (before o records)) (λ b i. judged_next (AtBody o records (head_in b)) i)
  unfolding behind_head behind_body
  head_is going = record {
    judged = λ i.
        opened i going
        ∙ ap (with_record o records) (begins (before o records) i)
        ∙ placed_bind here (head_at (before o records) i) (behind_head (before o records)) (λ r. open_records o (records ++ r.0 ∷ []) r.1);
    some = omega arith;
  }

  module _ (head : RecordHead) where
    -- a body that is judged as a whole
    pub body_is : (fault : List ℕ → Option Cause) (says : List ℕ → Content) → ((i : List ℕ) → body_at o.kind (before o records).top head.kind head.len i ≡ said_at Truncated fault says head.len i) → 0 < head.len
        → BeginsWithPart (judged_next (AtBody o records head)) here head.len fault (λ b i. judged_next (AtPadding o records head (says b)) i)
    body_is fault says is some = record {
      judged = λ i.
          ap (with_body o records head) (is i)
          ∙ placed_bind here (said_at Truncated fault says head.len i) (λ body. padded records head body.0 body.1) (λ r. open_records o (records ++ r.0 ∷ []) r.1)
          ∙ said_part here Truncated says (λ body. judged_next (AtPadding o records head body.0) body.1) fault head.len i;
      some = some;
    }

    -- an empty body
    pub empty_is : (fault : List ℕ → Option Cause) (says : List ℕ → Content) → ((i : List ℕ) → body_at o.kind (before o records).top head.kind head.len i ≡ said_at Truncated fault says head.len i) → head.len ≡ 0 → (i : List ℕ)
        → judged_next (AtBody o records head) i ≡ with_body o records head (tried (fault []) i >>= λ _. Passes (says []) i)
    empty_is fault says is none i =
        ap (with_body o records head) (is i ∙ ap (λ n. said_at Truncated fault says n i) none ∙ ap (λ (j : Judged Cause (List ℕ)). j >>= λ b. tried (fault b.0) b.1 >>= λ _. Passes (says b.0) b.1) (no_bytes Truncated i))

    abbrev pub with : Content → List StreamRecord
    with content = records ++ record_with records head content ∷ []

    pub padding_is : (content : Content) → 0 < padding_len head.len → BeginsWithPart (judged_next (AtPadding o records head content)) here (padding_len head.len) (λ _. None) (λ _ i. judged_next (AtHead o (with content)) i)
    padding_is content some = record {
      judged = λ i. plain_part here Truncated (λ _. record_with records head content) (λ r. open_records o (records ++ r.0 ∷ []) r.1) (padding_len head.len) i;
      some = some;
    }

    pub no_padding : (content : Content) (i : List ℕ) → padding_len head.len ≡ 0 → judged_next (AtPadding o records head content) i ≡ judged_next (AtHead o (with content)) i
    no_padding content i none =
        ap (λ n. with_record o records (part Truncated n i >>= λ padding. Passes (record_with records head content) padding.1)) none
        ∙ ap (λ (j : Judged Cause (List ℕ)). with_record o records (j >>= λ padding. Passes (record_with records head content) padding.1)) (no_bytes Truncated i)
