-- An address that means a frame of an input doesn't come to a refusal, and the other way round.
use Rattle.mig_tool_guest.proofs.Common.{Passes, HostOf, WalkSummary, in_stream, in_host, MeansFrame, StreamHasFrame, FrameInStream, HostHasFrame, FrameInHost, any_host_at, ◌≡◌, ℕ, List, Option, Some, None, refl, sym, ap, subst, ◌∙◌, GuestOf, Faulty, unsoundness, one_front, Standing, MeansNone, StreamHasNone, HasUnsoundHost, HostHasNone, Judged}
use Rattle.mig_headers.specs.declared.image_fault.ImageCause.{ImageCause}
use Rattle.mig_headers.specs.declared.image_fault.ImagePlace.{ImagePlace}
use Rattle.mig_headers.specs.declared.unsound.Unsound.{Unsound}
use Rattle.mig_host_view.specs.View.{view}
use Rattle.mig_host_view.proofs.SoundRows.{sound_is_faultless}
use Rattle.mig_tool_report.specs.declared.outcome.WalkEnd.{WalkEnd}
use Rattle.mig_walk.specs.Walks.{IsWalked}
use Rattle.mig_walk.specs.declared.walk.Walked.{Walked}
use Rattle.mig_walk.proofs.OneAnswer.{one_answer}
use Rattle.mig_walk.proofs.Standings.{one_number, one_machine}
use Rattle.mig_tool_report.specs.declared.outcome.WalkEnd.TheVariants as ends
use Rattle.mig_walk.specs.declared.walk.Walked.TheVariants as walks

-- an address doesn't mean a frame and none
module _ (s : Standing) (id at : ℕ) (one_name : (n m pfn : ℕ) → s.names n ≡ Some pfn → s.names m ≡ Some pfn → n ≡ m) (summary : WalkSummary) (means : MeansFrame s id at summary) where
  same : (other : Walked) → IsWalked s id at other → walks.Frame summary.frame means.kind ≡ other
  same other also = one_answer s id at one_name (walks.Frame summary.frame means.kind) other means.walked also

  frame_or_none : (end : WalkEnd) → MeansNone s id at end → ⊥
  frame_or_none (ends.NoVcpu n) none = let no = same walks.NoVcpu none.0 in cc
  frame_or_none ends.NotCanonical none = let no = same walks.NotCanonical none in cc
  frame_or_none (ends.Absent level) none = let no = same (walks.Absent level) none in cc
  frame_or_none (ends.NotTable level) none = let no = same (walks.NotTable level) none in cc

pub stream_once : (id at : ℕ) (input : List ℕ) (guest : GuestOf) (rest more : List ℕ) (end : WalkEnd) → StreamHasFrame id at input guest rest → StreamHasNone id at input more end → ⊥
stream_once id at input guest rest more end has none =
    let (same, _) = one_front input guest none.guest rest more has.accepted none.accepted in
    frame_or_none (in_stream guest) id at (one_number guest.frames) has.summary has.means end (subst (λ (g : GuestOf). MeansNone (in_stream g) id at end) (sym same) none.means)

pub stream_found : (id at : ℕ) (input : List ℕ) (left : Option (List ℕ)) (summary : WalkSummary) → (found : FrameInStream id at input left summary) → StreamHasFrame id at input found.guest found.rest
stream_found id at input left summary found = record { accepted = found.accepted; summary = summary; means = found.means }

-- ---- of an image

abbrev HostJudged : Type 0
HostJudged = Judged (ImagePlace × ImageCause) HostOf

one_host : (input : List ℕ) (g h : HostOf) (s t : List ℕ) → any_host_at input ≡ Passes g s → any_host_at input ≡ Passes h t → g ≡ h
one_host input g h s t p q = let e : ◌≡◌ {A = HostJudged} (Passes g s) (Passes h t) = sym p ∙ q in cc

pub image_once : (id at : ℕ) (input : List ℕ) (guest : GuestOf) (rest more : List ℕ) (place : ImagePlace) (cause : ImageCause) → HostHasFrame id at input guest rest → any_host_at input ≡ Faulty (place, cause) more → ⊥
image_once id at input guest rest more place cause has faulty = let e : ◌≡◌ {A = HostJudged} (Passes has.host rest) (Faulty (place, cause) more) = sym has.is.image ∙ faulty in cc

pub host_once : (id at : ℕ) (input : List ℕ) (guest : GuestOf) (rest more : List ℕ) (unsound : Unsound) → HostHasFrame id at input guest rest → HasUnsoundHost input more unsound → ⊥
host_once id at input guest rest more unsound has is =
    let same : has.host ≡ is.host = one_host input has.host is.host rest more has.is.image is.image in
    let none : unsoundness is.host ≡ None = ap unsoundness (sym same) ∙ (sound_is_faultless has.host).0 has.is.sound in
    let no : None ≡ Some unsound = sym none ∙ is.first in cc

pub address_once : (id at : ℕ) (input : List ℕ) (guest : GuestOf) (rest more : List ℕ) (end : WalkEnd) → HostHasFrame id at input guest rest → HostHasNone id at input more end → ⊥
address_once id at input guest rest more end has none =
    let same : has.host ≡ none.host = one_host input has.host none.host rest more has.is.image none.is.image in
    frame_or_none (in_host has.host) id at (one_machine has.host.frames) has.summary has.means end (subst (λ (h : HostOf). MeansNone (in_host h) id at end) (sym same) none.means)

pub host_found : (id at : ℕ) (input : List ℕ) (left : Option (List ℕ)) (summary : WalkSummary) → (found : FrameInHost id at input left summary) → HostHasFrame id at input (view found.host) found.rest
host_found id at input left summary found = record { host = found.host; is = found.is; seen = refl; summary = summary; means = found.means }
