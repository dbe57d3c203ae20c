-- The front of a stream that the reader has behind it.
use Rattle.mig_restore.proofs.Common.{◌≡◌, ℕ, List, [], ◌∷◌, ◌++◌, length, Bool, true, false, nat_eq, Option, None, is_some, Result, Ok, Err, refl, sym, ap, ◌∙◌, length-map, Stop, stop_at, AgreesWithJudging, Passes, Cause, Record, GuestOf, RecordsSeen, empty_guest, StreamRecord, types_of, is_ended, is_verified, Opening, differs_behind, ◌||◌, IsCompared, IsImageCompared, verified_more, IsSeen, image_of, records_at, IsTaken, Follows, any_stop, mapped, stop, placed_fine, placed_stops, TakenImage, FrameMap, kept_guest, NotesImage, NotesOn, put_frames, subst, next_at, placed_next, IsUnchecked, next_placed, unchecked_more, finds, ended_more}
use Rattle.mig_bytes.proofs.Arrivals as fronts
use Rattle.mig_bytes.specs.Sequences.{sequence_at}
use Rattle.mig_restore_form.specs.Mean.{differs_of, sent}
use Rattle.mig_restore.proofs.Compared.{judged_too, differs_more}
use Rattle.mig_restore.proofs.Noted.{both_told, frames_sent}

abbrev is_last : StreamRecord → Bool
is_last r = nat_eq r.type 0

-- ---- what the reader knows between two records

-- what it keeps: of the types, of the guest, and how many entries differ; what notes frames, and what is left in the source
pub record State (K : Type 0) : Type 0 where
  pub seen : RecordsSeen
  pub guest : GuestOf
  pub differs : Option ℕ
  pub keeper : K
  pub left : Option (List ℕ)

abbrev pub state : {K : Type 0} → RecordsSeen → GuestOf → Option ℕ → K → Option (List ℕ) → State K
state seen guest differs keeper left = record { seen = seen; guest = guest; differs = differs; keeper = keeper; left = left }

pub record Keeps {K : Type 0} (compares : Bool) (kept : FrameMap → FrameMap) (notes : K → List ℕ → Option (List ℕ) → FrameMap → Type 0) (before : K) (first : Option (List ℕ)) (o : Opening) (s : State K) (records : List StreamRecord) : Type 0 where
  pub seen : IsSeen s.seen o (types_of records)
  pub guest : s.guest ≡ kept_guest kept (sent o.kind records)
  pub verified : is_some s.differs ≡ is_verified (types_of records)
  pub unchecked : IsUnchecked records
  pub noted : NotesImage notes before s.keeper first s.left (image_of o records)
  pub compared : IsImageCompared compares notes before first s.differs (image_of o records)

module _ {K : Type 0} (compares : Bool) (kept : FrameMap → FrameMap) (notes : K → List ℕ → Option (List ℕ) → FrameMap → Type 0) (before : K) (first : Option (List ℕ)) (o : Opening) where
  abbrev KeepsNow : State K → List StreamRecord → Type 0
  KeepsNow s records = Keeps compares kept notes before first o s records

  abbrev pub Arrived : Option (List ℕ) → RecordsSeen → GuestOf → Option ℕ → K → Type 0
  Arrived now seen guest differs keeper = fronts.Arrived is_ended (placed_next o) KeepsNow first now (state seen guest differs keeper now)

  -- what a record that was read says of the guest, whether it ends the image, and whether entries are counted behind it
  abbrev pub Told : State K → State K → List StreamRecord → Bool → StreamRecord → Type 0
  Told old new records over r = (new.guest ≡ kept_guest kept (sent o.kind (records ++ r ∷ []))) × IsSeen new.seen o (types_of (records ++ r ∷ [])) × (over ≡ nat_eq r.type 0) × (is_some new.differs ≡ (is_some old.differs || nat_eq r.type 0xD))

  -- and of what is noted
  abbrev pub Notes : State K → State K → StreamRecord → Type 0
  Notes old new r = NotesOn notes old.keeper new.keeper old.left new.left (put_frames o.kind r.content)

  -- and how many entries differ with it, where they are compared
  abbrev pub Counts : State K → State K → StreamRecord → Type 0
  Counts old new r = IsCompared compares notes kept old.keeper old.left old.guest.frames (λ frames. new.differs ≡ differs_behind o.kind frames old.differs r)

  -- the clauses of the reader of a record
  abbrev pub Tells : State K → State K → Option (List ℕ) → Option (List ℕ) → Result Bool (Stop Cause) → Type 0
  Tells old new b c r = (records : List StreamRecord) → IsSeen old.seen o (types_of records) → old.guest ≡ kept_guest kept (sent o.kind records) → is_some old.differs ≡ is_verified (types_of records) → AgreesWithJudging (Told old new records) b c (next_at o records) r

  abbrev pub TellsNotes : State K → State K → Option (List ℕ) → Option (List ℕ) → Result Bool (Stop Cause) → Type 0
  TellsNotes old new b c r = (records : List StreamRecord) → IsSeen old.seen o (types_of records) → old.guest ≡ kept_guest kept (sent o.kind records) → is_some old.differs ≡ is_verified (types_of records) → AgreesWithJudging {X = Bool} (λ _ r. Notes old new r) b c (next_at o records) r

  abbrev pub TellsCounts : State K → State K → Option (List ℕ) → Option (List ℕ) → Result Bool (Stop Cause) → Type 0
  TellsCounts old new b c r = (records : List StreamRecord) → IsSeen old.seen o (types_of records) → old.guest ≡ kept_guest kept (sent o.kind records) → is_some old.differs ≡ is_verified (types_of records) → AgreesWithJudging {X = Bool} (λ _ r. Counts old new r) b c (next_at o records) r

  -- what is kept behind one more record
  goes_on : (old new : State K) (records : List StreamRecord) (over : Bool) (r : StreamRecord) (i rest : List ℕ) → KeepsNow old records → next_at o records i ≡ Passes r rest → Told old new records over r → Notes old new r → Counts old new r → KeepsNow new (records ++ r ∷ [])
  goes_on old new records over r i rest keeps judged t n c =
      let placed = next_placed o records i r rest judged in
      record {
        seen = t.1;
        guest = t.0;
        verified = t.3 ∙ ap (λ b. b || nat_eq r.type 0xD) keeps.verified ∙ sym (verified_more records r);
        unchecked = unchecked_more records r keeps.unchecked placed;
        noted = λ all none. subst (λ m. notes new.keeper all new.left m) (sym (frames_sent o.kind records r)) (n all (sent o.kind records).frames (keeps.noted all none));
        compared = λ is all none.
            c is all (sent o.kind records).frames (keeps.noted all none) (ap (λ (g : GuestOf). g.frames) keeps.guest)
            ∙ ap (λ d. differs_behind o.kind (sent o.kind records).frames d r) (keeps.compared is all none) ∙ sym (differs_more o.kind records r keeps.unchecked placed);
      }

  tells_on : (b c : Option (List ℕ)) (old new : State K) (over : Bool) → Tells old new b c (Ok over) → TellsNotes old new b c (Ok over) → TellsCounts old new b c (Ok over) → fronts.Tells is_ended (placed_next o) KeepsNow is_last old new b c (Ok over)
  tells_on b c old new over told noted counted records keeps =
      placed_fine _ (Record (length records)) b c (next_at o records) over
      (judged_too (λ over r. (Told old new records over r × Notes old new r) × Counts old new r) (λ over r. KeepsNow new (records ++ r ∷ []) × (over ≡ is_last r)) b c (next_at o records) over over
      (λ i rest r judged t. (goes_on old new records over r i rest keeps judged t.0.0 t.0.1 t.1, t.0.0.2))
      (both_told (λ over r. Told old new records over r × Notes old new r) (λ (_ : Bool) r. Counts old new r) b c (next_at o records) over over
      (both_told (Told old new records) (λ (_ : Bool) r. Notes old new r) b c (next_at o records) over over (told records keeps.seen keeps.guest keeps.verified) (noted records keeps.seen keeps.guest keeps.verified))
      (counted records keeps.seen keeps.guest keeps.verified)))

  pub arrived_first : (seen : RecordsSeen) (guest : GuestOf) (differs : Option ℕ) → IsSeen seen o [] → guest ≡ kept_guest kept (empty_guest o.kind) → differs ≡ None → Arrived first seen guest differs before
  unfolding sent differs_of
  arrived_first seen guest differs s g d = fronts.arrived_first is_ended (placed_next o) KeepsNow first (state seen guest differs before first) (record { seen = s; guest = g; verified = ap is_some d; unchecked = λ _. refl; noted = λ all none. none; compared = λ is all none. d }) refl

  pub arrived_next : (b c : Option (List ℕ)) (old new : State K) (over : Bool) → over ≡ false → fronts.Arrived is_ended (placed_next o) KeepsNow first b old → Tells old new b c (Ok over) → TellsNotes old new b c (Ok over) → TellsCounts old new b c (Ok over) → fronts.Arrived is_ended (placed_next o) KeepsNow first c new
  arrived_next b c old new over still h told noted counted = fronts.arrived_next is_ended (placed_next o) KeepsNow is_last ended_more first b c old new over still h (tells_on b c old new over told noted counted)

  -- the whole front, and what is kept of it
  ended : (b c : Option (List ℕ)) (old new : State K) (over : Bool) → over ≡ true → fronts.Arrived is_ended (placed_next o) KeepsNow first b old → Tells old new b c (Ok over) → TellsNotes old new b c (Ok over) → TellsCounts old new b c (Ok over)
      → AgreesWithJudging KeepsNow first c (sequence_at is_ended (placed_next o)) (Ok new)
  ended b c old new over is_over h told noted counted = fronts.arrived_end is_ended (placed_next o) KeepsNow is_last ended_more (Follows o) (finds o) first b c old new over is_over h (tells_on b c old new over told noted counted)

  pub arrived_noted : {V : Type 0} (b c : Option (List ℕ)) (old new : State K) (taken : V) (over : Bool) → over ≡ true → fronts.Arrived is_ended (placed_next o) KeepsNow first b old → Tells old new b c (Ok over) → TellsNotes old new b c (Ok over) → TellsCounts old new b c (Ok over)
      → AgreesWithJudging {X = V} (λ _ image. NotesImage notes before new.keeper first new.left image) first c (records_at o) (Ok taken)
  arrived_noted {V = V} b c old new taken over is_over h told noted counted =
      mapped KeepsNow (λ (_ : V) image. NotesImage notes before new.keeper first new.left image) first c (sequence_at is_ended (placed_next o)) (records_at o) (image_of o) new taken (λ i. refl) (ended b c old new over is_over h told noted counted) (λ records keeps. keeps.noted)

  pub arrived_end : (b c : Option (List ℕ)) (old new : State K) (taken : TakenImage) (over : Bool) → over ≡ true → taken.guest ≡ new.guest → taken.version ≡ o.version → taken.records ≡ new.seen.records → taken.differs ≡ new.differs
      → fronts.Arrived is_ended (placed_next o) KeepsNow first b old → Tells old new b c (Ok over) → TellsNotes old new b c (Ok over) → TellsCounts old new b c (Ok over) → AgreesWithJudging (IsTaken kept) first c (records_at o) (Ok taken)
  arrived_end b c old new taken over is_over tg tv tr td h told noted counted =
      mapped KeepsNow (IsTaken kept) first c (sequence_at is_ended (placed_next o)) (records_at o) (image_of o) new taken (λ i. refl) (ended b c old new over is_over h told noted counted)
      (λ records keeps. record {
        guest = tg ∙ keeps.guest;
        version = tv;
        records = tr ∙ keeps.seen.count ∙ length-map records (λ (x : StreamRecord). x.type);
        verified = ap is_some td ∙ keeps.verified;
      })

  pub arrived_compared : (b c : Option (List ℕ)) (old new : State K) (taken : TakenImage) (over : Bool) → over ≡ true → taken.differs ≡ new.differs → fronts.Arrived is_ended (placed_next o) KeepsNow first b old → Tells old new b c (Ok over) → TellsNotes old new b c (Ok over) → TellsCounts old new b c (Ok over)
      → AgreesWithJudging {X = TakenImage} (λ taken image. IsImageCompared compares notes before first taken.differs image) first c (records_at o) (Ok taken)
  arrived_compared b c old new taken over is_over td h told noted counted =
      mapped KeepsNow (λ (t : TakenImage) image. IsImageCompared compares notes before first t.differs image) first c (sequence_at is_ended (placed_next o)) (records_at o) (image_of o) new taken (λ i. refl) (ended b c old new over is_over h told noted counted)
      (λ records keeps is all none. td ∙ keeps.compared is all none)

  pub arrived_stopped : (b c : Option (List ℕ)) (old new : State K) (e : Stop Cause) (n : ℕ) → n ≡ old.seen.records → fronts.Arrived is_ended (placed_next o) KeepsNow first b old → Tells old new b c (Err e) → AgreesWithJudging {X = TakenImage} (IsTaken kept) first c (records_at o) (Err (stop_at (Record n) e))
  arrived_stopped b c old new e n count h told =
      stop KeepsNow (IsTaken kept) first c (sequence_at is_ended (placed_next o)) (λ rs. Passes (image_of o rs.0) rs.1) (stop_at (Record n) e)
      (fronts.arrived_stopped is_ended (placed_next o) KeepsNow is_last ended_more (Follows o) (finds o) first b c old new (stop_at (Record n) e) h
      (λ records keeps. placed_stops _ (Record (length records)) b c (next_at o records) e (stop_at (Record n) e) (ap (λ m. stop_at (Record m) e) (count ∙ keeps.seen.count ∙ length-map records (λ (x : StreamRecord). x.type)))
      (any_stop (Told old new records) (λ over r. KeepsNow new (records ++ r ∷ []) × (over ≡ is_last r)) b c (next_at o records) e (told records keeps.seen keeps.guest keeps.verified))))
