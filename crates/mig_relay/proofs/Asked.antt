-- An image is judged as one of which the whole guest isn't asked, and then the guest is asked, at its last record: for causes
-- that are left out.
use Rattle.mig_relay.proofs.Common.{◌≡◌, ℕ, zero, suc, ◌-◌, ◌≤◌, Bool, true, false, nat_eq, nat_lt, List, [], ◌∷◌, ◌++◌, length, Option, Some, None, refl, sym, ap, ◌∙◌, arith, le_refl, length-append, AllByRecursion, Judged, ◌>>=◌, tried, placed, Passes, Faulty, onward, starts, over, goes_on, Cause, Place, Record, Kind, GuestOf, StreamRecord, is_ended, Opening, before, record_at, sent, ImageOf, image_of, placed_next, ended_more, asks, is_unasked, open_next, is_none, Missing, P2mFrame, TargetAbsent, VcpuFrame, TooManyFrames}
use Rattle.mig_headers.specs.declared.kind.Kind.TheVariants.{Pv, Hvm}
use Rattle.mig_pagetypes.specs.Limits.{most_frames}
use Rattle.mig_guest.specs.Frames.{FrameMap}
use Rattle.mig_guest.specs.Parts.{PartMap}
use Rattle.mig_guest.specs.PartKeys.{p2m_key, vcpu_key, shared_key, context_key}
use Rattle.mig_guest.specs.declared.part_key.PartKey.{PartKey}
use Rattle.mig_pvtables.specs.Faults.{first_cause, missing, too_many, find_p2m, find_entry, find_field, is_absent, faults_for, fault_of_guest}
use Rattle.mig_restore_form.specs.Stream.{image_at, records_at, opening_at}
use Rattle.mig_restore_form.proofs.Parts.{behind_record}
use Rattle.mig_relay.specs.Images.{open_records, open_image_at, guest_asked}
use Rattle.mig_relay.proofs.Images.{open_shrinks, next_shrinks}
use Rattle.mig_relay.proofs.Tells.{Names, names_map, names_one, names_or}
use Rattle.mig_relay.proofs.Opens.{Opens, opens_as, same, leaves}
use Rattle.std.specs.FinMap as maps

module _ (o : Opening) where
  abbrev closed : List StreamRecord → List ℕ → Judged (Place × Cause) (List StreamRecord)
  closed = onward is_ended (placed_next o)

  abbrev opened : List StreamRecord → List ℕ → Judged (Place × Cause) (List StreamRecord)
  opened = onward is_ended (open_next o)

  -- what END asks
  abbrev ask : List StreamRecord × List ℕ → Judged (Place × Cause) (List StreamRecord)
  ask all = placed (Record (length all.0 - 1)) (tried (fault_of_guest (sent o.kind all.0)) all.1) >>= λ _. Passes all.0 all.1

  abbrev next_closed : List StreamRecord → StreamRecord × List ℕ → Judged (Place × Cause) (List StreamRecord)
  next_closed records r = closed (records ++ r.0 ∷ []) r.1

  abbrev next_opened : List StreamRecord → StreamRecord × List ℕ → Judged (Place × Cause) (List StreamRecord)
  next_opened records r = opened (records ++ r.0 ∷ []) r.1

  abbrev Agree : List StreamRecord → List ℕ → Type 0
  Agree records i = closed records i ≡ (opened records i >>= ask)

  -- behind a record that stands whole
  last : (records : List StreamRecord) (r : StreamRecord) (rest : List ℕ) → is_ended (records ++ r ∷ []) ≡ true → (g : Option Cause) → fault_of_guest (sent o.kind (records ++ r ∷ [])) ≡ g
      → (placed (Record (length records)) (tried g rest >>= λ _. Passes r rest) >>= next_closed records) ≡ (next_opened records (r, rest) >>= ask)
  last records r rest ended None is =
      over is_ended (placed_next o) (records ++ r ∷ []) rest ended
      ∙ sym (ap (λ (j : Judged (Place × Cause) (List StreamRecord)). j >>= ask) (over is_ended (open_next o) (records ++ r ∷ []) rest ended)
      ∙ ap (λ (g : Option Cause). placed (Record (length (records ++ r ∷ []) - 1)) (tried g rest) >>= λ _. Passes (records ++ r ∷ []) rest) is)
  last records r rest ended (Some c) is =
      ap (λ n. Faulty (Record n, c) rest) (let e : length records ≡ length (records ++ r ∷ []) - 1 = omega (arith, length-append records (r ∷ [])) in e)
      ∙ sym (ap (λ (j : Judged (Place × Cause) (List StreamRecord)). j >>= ask) (over is_ended (open_next o) (records ++ r ∷ []) rest ended)
      ∙ ap (λ (g : Option Cause). placed (Record (length (records ++ r ∷ []) - 1)) (tried g rest) >>= λ _. Passes (records ++ r ∷ []) rest) is)

  by_last : (records : List StreamRecord) (r : StreamRecord) (rest : List ℕ) → is_ended records ≡ false → (is_ended (records ++ r ∷ []) ≡ false → Agree (records ++ r ∷ []) rest) → (b : Bool) → nat_eq r.type 0 ≡ b
      → (placed (Record (length records)) (behind_record o records (r, rest)) >>= next_closed records) ≡ (next_opened records (r, rest) >>= ask)
  unfolding behind_record
  by_last records r rest going again true ends = rw ends (last records r rest (ended_more records r going ∙ ends) (fault_of_guest (sent o.kind (records ++ r ∷ []))) refl)
  by_last records r rest going again false other = rw other (again (ended_more records r going ∙ other))

  by_record : (records : List StreamRecord) (i : List ℕ) (j : Judged Cause StreamRecord) → is_ended records ≡ false → ((r : StreamRecord) (rest : List ℕ) → j ≡ Passes r rest → is_ended (records ++ r ∷ []) ≡ false → Agree (records ++ r ∷ []) rest)
      → (placed (Record (length records)) (j >>= behind_record o records) >>= next_closed records) ≡ ((placed (Record (length records)) j >>= next_opened records) >>= ask)
  by_record records i (Faulty c rest) going again = refl
  by_record records i (Passes r rest) going again = by_last records r rest going (again r rest refl) (nat_eq r.type 0) refl

  step : (records : List StreamRecord) (i : List ℕ) → is_ended records ≡ false → ((r : StreamRecord) (rest : List ℕ) → record_at (before o records) i ≡ Passes r rest → is_ended (records ++ r ∷ []) ≡ false → Agree (records ++ r ∷ []) rest) → Agree records i
  step records i going again =
      goes_on is_ended (placed_next o) (next_shrinks o) records i going
      ∙ ap (λ (j : Judged Cause StreamRecord). placed (Record (length records)) j >>= next_closed records) (asks o records i)
      ∙ by_record records i (record_at (before o records) i) going again
      ∙ sym (ap (λ (j : Judged (Place × Cause) (List StreamRecord)). j >>= ask) (goes_on is_ended (open_next o) (open_shrinks o) records i going))

  agree : (n : ℕ) (records : List StreamRecord) (i : List ℕ) → is_ended records ≡ false → length i ≤ n → Agree records i
  agree zero records i going le = step records i going (λ r rest is _. absurd (omega (arith, le, open_shrinks o records i r rest going (ap (placed (Record (length records))) is))))
  agree (suc n) records i going le = step records i going (λ r rest is still. agree n (records ++ r ∷ []) rest still (omega (arith, le, open_shrinks o records i r rest going (ap (placed (Record (length records))) is))))

  turned : (j : Judged (Place × Cause) (List StreamRecord)) → ((j >>= ask) >>= λ rs. Passes (image_of o rs.0) rs.1) ≡ ((j >>= λ rs. Passes (image_of o rs.0) rs.1) >>= guest_asked)
  turned (Faulty c rest) = refl
  turned (Passes all rest) = elim (fault_of_guest (sent o.kind all)) as (λ g. ((placed (Record (length all - 1)) (tried g rest) >>= λ _. Passes all rest) >>= λ rs. Passes (image_of o rs.0) rs.1) ≡ (placed (Record (length all - 1)) (tried g rest) >>= λ _. Passes (image_of o all) rest)) [ None ↦ refl | Some c ↦ refl ]

  records_asked : (i : List ℕ) → records_at o i ≡ (open_records o [] i >>= guest_asked)
  unfolding open_records
  records_asked i =
      ap (λ (j : Judged (Place × Cause) (List StreamRecord)). j >>= λ rs. Passes (image_of o rs.0) rs.1) (starts is_ended (placed_next o) i ∙ agree (length i) [] i refl (le_refl _))
      ∙ turned (opened [] i)

pub image_asked : (i : List ℕ) → image_at i ≡ (open_image_at i >>= guest_asked)
unfolding image_at open_image_at
image_asked i = by (opening_at i)
  where
    by : (j : Judged (Place × Cause) Opening) → (j >>= λ opening. records_at opening.0 opening.1) ≡ ((j >>= λ opening. open_records opening.0 [] opening.1) >>= guest_asked)
    by (Faulty c rest) = refl
    by (Passes o rest) = records_asked o rest

-- ---- the guest is asked for causes that are left out

abbrev pub IsLeftCause : Cause → Type 0
IsLeftCause c = is_unasked c ≡ true

-- no cause stands, or one that is left out
abbrev pub OnlyLeft : Option Cause → Type 0
OnlyLeft cause = Names IsLeftCause cause

first_only : (causes : List (Option Cause)) → AllByRecursion OnlyLeft causes → OnlyLeft (first_cause causes)
first_only [] h = tt
first_only (cause ∷ causes) h = names_or IsLeftCause cause (first_cause causes) h.0 (first_only causes h.1)

missing_only : (parts : PartMap) (key : PartKey) → OnlyLeft (missing parts key)
missing_only parts key = names_one IsLeftCause (is_none (maps.get parts key)) (Missing key.code) refl

many_only : (frames : FrameMap) → OnlyLeft (too_many frames)
many_only frames = names_one IsLeftCause (nat_lt most_frames (length (maps.entries frames))) TooManyFrames refl

pub guest_only : (g : GuestOf) → OnlyLeft (fault_of_guest g)
guest_only g = by g.kind
  where
    by : (kind : Kind) → OnlyLeft (first_cause (faults_for kind g))
    by Hvm = first_only (faults_for Hvm g) (missing_only g.parts context_key, (many_only g.frames, tt))
    by Pv =
        first_only (faults_for Pv g) (
          missing_only g.parts p2m_key,
          (
            missing_only g.parts shared_key,
            (
              missing_only g.parts (vcpu_key 0),
              (
                names_map IsLeftCause (λ k. P2mFrame k) (find_p2m g.frames g.parts) (λ k. refl),
                (
                  names_map IsLeftCause (λ (at : ℕ × ℕ). TargetAbsent at.0 at.1) (find_entry (is_absent g.frames) g.frames) (λ at. refl),
                  (names_map IsLeftCause (λ (at : ℕ × ℕ). VcpuFrame at.0 at.1) (find_field g.frames g.parts) (λ at. refl), (many_only g.frames, tt)),
                ),
              ),
            ),
          ),
        )

-- a cause that is left out, at any place
abbrev pub IsLeft : Place × Cause → Type 0
IsLeft at = is_unasked at.1 ≡ true

asked_opens : (j : Judged (Place × Cause) ImageOf) → Opens IsLeft (j >>= guest_asked) j
asked_opens (Faulty c rest) = same (Faulty c rest)
asked_opens (Passes image rest) = by (fault_of_guest (sent image.opening.kind image.records)) (guest_only (sent image.opening.kind image.records))
  where
    by : (g : Option Cause) → OnlyLeft g → Opens IsLeft (placed (Record (length image.records - 1)) (tried g rest) >>= λ _. Passes image rest) (Passes image rest)
    by None left = same (Passes image rest)
    by (Some c) left = leaves (Record (length image.records - 1), c) rest (Passes image rest) left

-- an image is judged so where its guest isn't asked; or it is refused for a cause that is left out
pub image_opens : (i : List ℕ) → Opens IsLeft (image_at i) (open_image_at i)
image_opens i = opens_as IsLeft _ _ _ _ (image_asked i) refl (asked_opens (open_image_at i))
