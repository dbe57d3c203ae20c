-- What an address means to a vCPU: of the guest of a stream, or of the host of an image.
use Rattle.std.specs.Prelude.{◌≡◌, ℕ, List, Option, Some}
use Rattle.mig_headers.specs.declared.image_fault.ImagePlace.{ImagePlace}
use Rattle.mig_headers.specs.declared.image_fault.ImageCause.{ImageCause}
use Rattle.mig_bytes.specs.Judged.{Judged}
use Rattle.mig_tool_guest.specs.Common.{Passes, GuestOf, HostOf, most_width, IsSound, unsoundness, view, host_at, AcceptedStream, walked_line, WalkSummary, Standing, in_stream, in_host, IsWalked}
use Rattle.mig_headers.specs.declared.unsound.Unsound.{Unsound}
use Rattle.mig_pagetypes.specs.PageTypes.{number_of}
use Rattle.mig_pagetypes.specs.declared.page_type.PageType.{PageType}
use Rattle.mig_tool_report.specs.declared.outcome.WalkEnd.{WalkEnd}
use Rattle.mig_tool_report.specs.declared.outcome.WalkEnd.TheVariants as ends
use Rattle.mig_walk.specs.declared.walk.Walked.TheVariants as walks

-- the address means this frame, of a type with this number
pub record MeansFrame (s : Standing) (id at : ℕ) (summary : WalkSummary) : Type 0 where
  pub kind : PageType
  pub walked : IsWalked s id at (walks.Frame summary.frame kind)
  pub kind_is : summary.kind ≡ number_of kind

-- it means none, and so its way ends
abbrev pub MeansNone : Standing → ℕ → ℕ → WalkEnd → Type 0
MeansNone s id at (ends.NoVcpu n) = IsWalked s id at walks.NoVcpu × (n ≡ id)
MeansNone s id at ends.NotCanonical = IsWalked s id at walks.NotCanonical
MeansNone s id at (ends.Absent level) = IsWalked s id at (walks.Absent level)
MeansNone s id at (ends.NotTable level) = IsWalked s id at (walks.NotTable level)

-- ---- in a stream

-- a front of the input is an accepted stream, and the address means a frame of its guest
pub record StreamHasFrame (id at : ℕ) (input : List ℕ) (guest : GuestOf) (rest : List ℕ) : Type 0 where
  pub accepted : AcceptedStream input guest rest
  pub summary : WalkSummary
  pub means : MeansFrame (in_stream guest) id at summary

-- or it means none
pub record StreamHasNone (id at : ℕ) (input rest : List ℕ) (end : WalkEnd) : Type 0 where
  pub guest : GuestOf
  pub accepted : AcceptedStream input guest rest
  pub means : MeansNone (in_stream guest) id at end

-- an accepted stream was taken, and the address means this frame of its guest
pub record FrameInStream (id at : ℕ) (input : List ℕ) (left : Option (List ℕ)) (summary : WalkSummary) : Type 0 where
  pub guest : GuestOf
  pub rest : List ℕ
  pub accepted : AcceptedStream input guest rest
  pub left_is : left ≡ Some rest
  pub means : MeansFrame (in_stream guest) id at summary

-- ---- in an image

-- the host whose image the input begins with, however wide it is
abbrev pub any_host_at : List ℕ → Judged (ImagePlace × ImageCause) HostOf
any_host_at input = host_at most_width input

-- the input begins with the image of a host that can be seen as a guest, and rest follows it
pub record HasSoundHost (input : List ℕ) (host : HostOf) (rest : List ℕ) : Type 0 where
  pub image : any_host_at input ≡ Passes host rest
  pub sound : IsSound host

-- or of one that can't be, and this is the first thing in the way
pub record HasUnsoundHost (input rest : List ℕ) (unsound : Unsound) : Type 0 where
  pub host : HostOf
  pub image : any_host_at input ≡ Passes host rest
  pub first : unsoundness host ≡ Some unsound

-- the address means a machine frame of a sound host, which is seen as this guest
pub record HostHasFrame (id at : ℕ) (input : List ℕ) (guest : GuestOf) (rest : List ℕ) : Type 0 where
  pub host : HostOf
  pub is : HasSoundHost input host rest
  pub seen : view host ≡ guest
  pub summary : WalkSummary
  pub means : MeansFrame (in_host host) id at summary

-- or it means none
pub record HostHasNone (id at : ℕ) (input rest : List ℕ) (end : WalkEnd) : Type 0 where
  pub host : HostOf
  pub is : HasSoundHost input host rest
  pub means : MeansNone (in_host host) id at end

-- the image of a sound host was taken and no more, and the address means this machine frame there
pub record FrameInHost (id at : ℕ) (input : List ℕ) (left : Option (List ℕ)) (summary : WalkSummary) : Type 0 where
  pub host : HostOf
  pub rest : List ℕ
  pub is : HasSoundHost input host rest
  pub left_is : left ≡ Some rest
  pub means : MeansFrame (in_host host) id at summary

-- ---- on the report

-- a frame was found, and its line was reported
pub record AddressReported (Found : WalkSummary → Type 0) (Reported : List ℕ → Type 0) : Type 0 where
  pub summary : WalkSummary
  pub found : Found summary
  pub reported : Reported (walked_line summary)
