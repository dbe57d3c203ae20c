-- An accepted front of the input, and what was written or reported of its guest.
use Rattle.std.specs.Prelude.{◌≡◌, ◌↔◌, ◌≤◌, ℕ, List, ◌++◌, length, ⊤, Some, Option}
use Rattle.std.specs.FinMap as maps
use Rattle.mig_tool_guest.specs.Common.{Appends, AppendsPart, Passes, GuestOf, IsValid, host_at, IsSound, view, canon_any, AcceptedStream, ok_line, AcceptedLegacy}
use Rattle.mig_host.specs.Hosted.{hosted}
use Rattle.mig_image.specs.declared.version.GuestImageVersion.TheVariants.{Two}
use Rattle.mig_image.specs.GuestImage.{guest_image}
use Rattle.mig_libxl_form.specs.Carried.{IsCarried}
use Rattle.mig_libxl_form.specs.Stream.{StreamOf, guest_of, image_of_stream}
use Rattle.mig_restore_form.specs.Mean.{differs_of}
use Rattle.mig_restore_form.specs.Stream.{ImageOf}
use Rattle.mig_tool_report.specs.Promises.{InputEffect}
use Rattle.mig_tool_report.specs.Report.{checked_legacy_line, checked_line, uncompared}
use Rattle.mig_tool_report.specs.declared.outcome.Summary.{Summary}

-- that a front of an input is accepted with this guest, and what follows it
abbrev pub Accepting : Type 1
Accepting = List ℕ → GuestOf → List ℕ → Type 0

-- a front of the input is accepted, the rest is left, and of its guest, a whole one in its blank form, the canonical stream
-- was written: it is accepted with this guest, and no other such guest has it, whatever form it was read from
pub record Normalised (Accepts : Accepting) (input : List ℕ) (left old new : Option (List ℕ)) : Type 0 where
  pub guest : GuestOf
  pub rest : List ℕ
  pub accepted : Accepts input guest rest
  pub left_is : left ≡ Some rest
  pub wrote : Appends old new (canon_any guest)
  pub carried : IsCarried guest
  pub kept : (more : List ℕ) → AcceptedStream (canon_any guest ++ more) guest more
  pub alone : (other : GuestOf) → IsCarried other → (canon_any other ≡ canon_any guest) ↔ (other ≡ guest)

-- the image of the guest, of version 2, restored with machine frames from the base on
abbrev pub restored_text : ℕ → GuestOf → List ℕ
restored_text base guest = guest_image Two (hosted guest base)

-- a front of the input is an accepted stream, the rest is left, and the image of its guest was written: that of a valid and
-- sound host that is seen as the guest, as which it is read again where hosts of its width are
pub record Restored (base : ℕ) (input : List ℕ) (left old new : Option (List ℕ)) : Type 0 where
  pub guest : GuestOf
  pub rest : List ℕ
  pub accepted : AcceptedStream input guest rest
  pub left_is : left ≡ Some rest
  pub wrote : Appends old new (restored_text base guest)
  pub carried : IsCarried guest
  pub valid : IsValid (hosted guest base)
  pub sound : IsSound (hosted guest base)
  pub seen : view (hosted guest base) ≡ guest
  pub kept : (widest : ℕ) (more : List ℕ) → (hosted guest base).width ≤ widest → host_at widest (restored_text base guest ++ more) ≡ Passes (hosted guest base) more

-- the same, but a write failed, and of the guest's text only a part was written
pub record PartWritten (Accepts : Accepting) (text : GuestOf → List ℕ) (input : List ℕ) (left old new : Option (List ℕ)) : Type 0 where
  pub guest : GuestOf
  pub rest : List ℕ
  pub accepted : Accepts input guest rest
  pub left_is : left ≡ Some rest
  pub wrote : AppendsPart old new (text guest)

-- what is said of a stream that has this image and this guest: the version and kind of the image, the guest's number of
-- frames, the image's number of records, and how many of its entries behind a VERIFY differ from the frames before it, where
-- it has one
abbrev pub summary_in : ImageOf → GuestOf → Summary
summary_in image guest =
    record { version = image.opening.version; kind = image.opening.kind; frames = length (maps.entries guest.frames); records = length image.records; differs = differs_of image.opening.kind image.records }

abbrev pub summary_of : {input : List ℕ} {guest : GuestOf} {rest : List ℕ} → AcceptedStream input guest rest → Summary
summary_of {input} {guest} {rest} a = summary_in a.image guest

-- that is said of a stream
pub record IsSummary (summary : Summary) (s : StreamOf) : Type 0 where
  pub image : ImageOf
  pub is : image_of_stream s ≡ Some image
  pub said : summary ≡ summary_in image (guest_of image s)

-- a front of the input is an accepted stream, the rest is left, and a line of what is said of it was reported
pub record StreamReported (line_of : Summary → List ℕ) (Reported : List ℕ → Type 0) (input : List ℕ) (left : Option (List ℕ)) : Type 0 where
  pub guest : GuestOf
  pub rest : List ℕ
  pub accepted : AcceptedStream input guest rest
  pub left_is : left ≡ Some rest
  pub reported : Reported (line_of (summary_of accepted))

abbrev pub Verified : (Reported : List ℕ → Type 0) → List ℕ → (left : Option (List ℕ)) → Type 0
Verified = StreamReported ok_line

-- the same line, but that nothing was compared behind a VERIFY
abbrev pub Checked : (Reported : List ℕ → Type 0) → List ℕ → (left : Option (List ℕ)) → Type 0
Checked = StreamReported (λ s. checked_line (uncompared s))

-- a front of the input is an accepted legacy stream, the rest is left, and the number of its guest's frames was reported
pub record LegacyChecked (Reported : List ℕ → Type 0) (input : List ℕ) (left : Option (List ℕ)) : Type 0 where
  pub guest : GuestOf
  pub rest : List ℕ
  pub accepted : AcceptedLegacy input guest rest
  pub left_is : left ≡ Some rest
  pub reported : Reported (checked_legacy_line (maps.len guest.frames))

-- what a call did to an input, by its bytes and its failed reads alone
abbrev pub input_with : (told left : Option (List ℕ)) → (failed failed_now : ℕ) → InputEffect
input_with told left failed failed_now = record { told = told; left = left; failed = failed; failed_now = failed_now; Unread = ⊤ }
