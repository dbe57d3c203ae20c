-- What is kept of an image, as what is kept of a stream.
use Rattle.mig_libxl.proofs.Common.{◌≡◌, List, Option, Some, None, Ok, refl, sym, ap, subst, ◌∙◌, ℕ, ImageOf, Reading, LibxlRecord, EmulatorsOf, Bare, Wrapped, Holds, IsLibxlBegun, IsLibxlSeen, WrapperSeen, Pv, false, IfSome, no_emulators, image_among, emulators_of, with_emulators, none_set, mean_kind, IsStreamedBare, Result, Err, same_Some, IfOk, mean, any_stop, AgreesWithJudging, Judged, Stop, Cause, Place, image_behind, Kind, IsClosed, StreamOf, IsStreamed}
use Rattle.mig_libxl.specs.Reads.{IsStreamComparison, IsStreamReading, IsStreamTally}
use Rattle.mig_outline.specs.Judges.{IsTally}
use Rattle.mig_outline.specs.declared.judge.Tally.{Tally}
use Rattle.mig_libxl.specs.Placed.{IsPlacedStream}
use Rattle.mig_outline.specs.Outline.{outline}
use Rattle.mig_placing.specs.Compared.{IsComparison}
use Rattle.mig_placing.specs.Placed.{IsPlacedImage}
use Rattle.mig_placing.specs.declared.comparison.Comparison.{Comparison}
use Rattle.mig_placing.specs.declared.guest.PlacedGuest.{PlacedGuest}
use Rattle.mig_restore.specs.Reads.{IsReading as IsImageReading}
use Rattle.mig_restore_form.proofs.Meaning.{sent_kind}
use Rattle.mig_restore_form.specs.Mean.{sent}
use Rattle.mig_restore_form.specs.Record.{StreamRecord}

pub reading_kind : (reading : Reading) (image : ImageOf) → IsImageReading reading image → reading.guest.kind ≡ image.opening.kind
reading_kind reading image r = ap (λ g. g.kind) r.guest ∙ mean_kind image.opening.kind image.records

bare_reading : (reading : Reading) (image : ImageOf) → IsImageReading reading image → IsStreamReading reading (Bare image)
bare_reading reading image r = record { image = image; is = refl; guest = r.guest ∙ sym (none_set _); version = r.version; records = r.records; differs = r.differs }

pub bare_streamed : {E : Type 0} (r : Result Reading E) → IfOk r (λ reading. IsStreamedBare reading.guest) → IfOk r (λ reading. IsStreamed reading.guest)
bare_streamed (Ok reading) is = record { whole = is.whole; blank = is.blank; bytes = is.bytes }
bare_streamed (Err e) is = tt

bare_tally : (tally : Tally) (image : ImageOf) → IsTally tally image → IsStreamTally tally (Bare image)
bare_tally tally image t = record { image = image; is = refl; frames = t.frames; version = t.version; kind = t.kind; records = t.records; verified = t.verified }

module _ {X C : Type 0} (R Q : X → ImageOf → Type 0) (turn : (x : X) (image : ImageOf) → R x image → Q x image) where
  told_as : (a b : Option (List ℕ)) (f : List ℕ → Judged C ImageOf) (r : Result X (Stop C)) → AgreesWithJudging R a b f r → AgreesWithJudging Q a b f r
  told_as None b f (Ok x) h = tt
  told_as (Some i) b f (Ok x) (image, rest, is, left, told) = (image, rest, is, left, turn x image told)
  told_as a b f (Err e) h = any_stop R Q a b f e h

pub readings_told : (a b : Option (List ℕ)) (r : Result Reading (Stop (Place × Cause))) → AgreesWithJudging IsImageReading a b image_behind r → AgreesWithJudging (λ reading image. IsStreamReading reading (Bare image)) a b image_behind r
readings_told a b r h = told_as IsImageReading (λ reading image. IsStreamReading reading (Bare image)) bare_reading a b image_behind r h

pub tallies_told : (a b : Option (List ℕ)) (r : Result Tally (Stop (Place × Cause))) → AgreesWithJudging IsTally a b image_behind r → AgreesWithJudging (λ tally image. IsStreamTally tally (Bare image)) a b image_behind r
tallies_told a b r h = told_as IsTally (λ tally image. IsStreamTally tally (Bare image)) bare_tally a b image_behind r h

bare_comparison : (comparison : Comparison) (image : ImageOf) → IsComparison comparison image → IsStreamComparison comparison (Bare image)
unfolding bare_tally
bare_comparison comparison image c = record { tally = bare_tally comparison.tally image c.tally; differs = c.differs }

pub comparisons_told : (a b : Option (List ℕ)) (r : Result Comparison (Stop (Place × Cause))) → AgreesWithJudging IsComparison a b image_behind r → AgreesWithJudging (λ comparison image. IsStreamComparison comparison (Bare image)) a b image_behind r
comparisons_told a b r h = told_as IsComparison (λ comparison image. IsStreamComparison comparison (Bare image)) bare_comparison a b image_behind r h

-- ---- what is kept of the image, where a stream ends

module _ {I : Type 0} (is_of : I → ImageOf → Type 0) (kept : I → Type 0) (kind_of : I → Kind) (seen : WrapperSeen I) (x : I) (is : seen.image ≡ Some x) where
  pub kept_there : IsLibxlBegun kept seen → kept x
  kept_there begun = subst (λ (o : Option I). IfSome o kept) is begun.guest

  pub alone_there : IsLibxlBegun kept seen → IsClosed kind_of seen → kind_of x ≡ Pv → seen.emulators ≡ no_emulators
  alone_there begun closed pv = begun.none (subst (λ (o : Option I). IfSome o (λ y. kind_of y ≡ Pv → seen.emulated ≡ false)) is closed.alone pv)

  held : (o : Option I) (found : Option ImageOf) → o ≡ Some x → Holds is_of o found → (image : ImageOf) × (found ≡ Some image) × (is_of x image)
  held None found none h = absurd (cc)
  held (Some y) None same h = absurd h
  held (Some y) (Some image) same h = (image, refl, subst (λ z. is_of z image) (same_Some y x same) h)

  pub stream_there : {E : Type 0} (of_stream : I → StreamOf → Type 0) (r : Result I E)
      → IfOk r (λ whole. (image : ImageOf) (records : List LibxlRecord) → is_of x image → image_among records ≡ Some image → seen.emulators ≡ emulators_of records → of_stream whole (Wrapped records))
      → IfOk r (λ whole. (records : List LibxlRecord) → IsLibxlSeen is_of seen records → of_stream whole (Wrapped records))
  stream_there of_stream (Ok whole) told = λ records s. let (image, found, of) = held seen.image (image_among records) is s.image in told image records of found s.emulators
  stream_there of_stream (Err e) told = tt

pub reading_whole : (reading whole : Reading) (e : EmulatorsOf) → whole ≡ record reading { guest = with_emulators reading.guest e } → (image : ImageOf) (records : List LibxlRecord) → IsImageReading reading image → image_among records ≡ Some image → e ≡ emulators_of records → IsStreamReading whole (Wrapped records)
reading_whole reading whole e put image records is found same = rw put (record {
  image = image;
  is = found;
  guest = ap (λ g. with_emulators g e) is.guest ∙ ap (with_emulators (mean image.opening.kind image.records)) same;
  version = is.version;
  records = is.records;
  differs = is.differs;
})

pub tally_whole : (tally : Tally) (e : EmulatorsOf) (image : ImageOf) (records : List LibxlRecord) → IsTally tally image → image_among records ≡ Some image → e ≡ emulators_of records → IsStreamTally tally (Wrapped records)
tally_whole tally e image records is found same = record { image = image; is = found; frames = is.frames; version = is.version; kind = is.kind; records = is.records; verified = is.verified }

pub comparison_whole : (comparison : Comparison) (e : EmulatorsOf) (image : ImageOf) (records : List LibxlRecord) → IsComparison comparison image → image_among records ≡ Some image → e ≡ emulators_of records → IsStreamComparison comparison (Wrapped records)
unfolding tally_whole
comparison_whole comparison e image records is found same = record { tally = tally_whole comparison.tally e image records is.tally found same; differs = is.differs }

-- ---- of a guest whose pages stay in a file

outlined_kind : (kind : Kind) (records : List StreamRecord) → (outline (sent kind records)).kind ≡ kind
outlined_kind kind records = sent_kind kind records

module _ {P : Type 0} (bytes : P → Option (List ℕ)) where
  pub placed_kind : (placed : PlacedGuest P) (image : ImageOf) → IsPlacedImage bytes placed image → placed.outline.kind ≡ image.opening.kind
  placed_kind placed image is = ap (λ g. g.kind) is.guest ∙ outlined_kind image.opening.kind image.records

  bare_placed : (placed : PlacedGuest P) (image : ImageOf) → IsPlacedImage bytes placed image → IsPlacedStream bytes placed (Bare image)
  bare_placed placed image is = record { image = image; is = refl; all = is.all; told = is.told; guest = is.guest ∙ sym (none_set _); frames = is.frames }

  pub placed_told : (a b : Option (List ℕ)) (r : Result (PlacedGuest P) (Stop (Place × Cause))) → AgreesWithJudging (IsPlacedImage bytes) a b image_behind r → AgreesWithJudging (λ placed image. IsPlacedStream bytes placed (Bare image)) a b image_behind r
  placed_told a b r h = told_as (IsPlacedImage bytes) (λ placed image. IsPlacedStream bytes placed (Bare image)) bare_placed a b image_behind r h

  pub placed_whole : (placed whole : PlacedGuest P) (e : EmulatorsOf) → whole ≡ record placed { outline = with_emulators placed.outline e } → (image : ImageOf) (records : List LibxlRecord) → IsPlacedImage bytes placed image → image_among records ≡ Some image → e ≡ emulators_of records
      → IsPlacedStream bytes whole (Wrapped records)
  placed_whole placed whole e put image records is found same = rw put (record {
    image = image;
    is = found;
    all = is.all;
    told = is.told;
    guest = ap (λ g. with_emulators g e) is.guest ∙ ap (with_emulators (outline (sent image.opening.kind image.records))) same;
    frames = is.frames;
  })
