-- An input isn't both accepted and refused, whatever is read of it.
use Rattle.mig_tool_guest.proofs.Common.{AcceptedLegacy, HostHasFrame, StreamHasFrame, ℕ, List, GuestOf, AcceptedStream, Refusal, HasLegacyRefusal, HasStreamRefusal, HasWalkImageRefusal, HasWalkRefusal, never_both}
use Rattle.mig_legacy.proofs.Laws.{never_both as never_both_legacy}
use Rattle.mig_tool_guest.proofs.Walks.{stream_once, image_once, host_once, address_once}
use Rattle.mig_tool_report.specs.declared.outcome.Refusal.TheVariants as refusals

pub accepted_once : (input : List ℕ) (guest : GuestOf) (rest more : List ℕ) (refusal : Refusal) → AcceptedStream input guest rest → HasStreamRefusal input refusal more → ⊥
accepted_once input guest rest more (refusals.Stream place cause) accepted refused = never_both input guest rest place cause more accepted refused
accepted_once input guest rest more _ accepted refused = refused

pub legacy_once : (input : List ℕ) (guest : GuestOf) (rest more : List ℕ) (refusal : Refusal) → AcceptedLegacy input guest rest → HasLegacyRefusal input refusal more → ⊥
legacy_once input guest rest more (refusals.Legacy place cause) accepted refused = never_both_legacy input guest rest place cause more accepted refused
legacy_once input guest rest more _ accepted refused = refused

pub walk_once : (id at : ℕ) (input : List ℕ) (guest : GuestOf) (rest more : List ℕ) (refusal : Refusal) → StreamHasFrame id at input guest rest → HasWalkRefusal id at input refusal more → ⊥
walk_once id at input guest rest more (refusals.Stream place cause) has refused = never_both input guest rest place cause more has.accepted refused
walk_once id at input guest rest more (refusals.Walk end) has refused = stream_once id at input guest rest more end has refused
walk_once id at input guest rest more _ has refused = refused

pub walk_image_once : (id at : ℕ) (input : List ℕ) (guest : GuestOf) (rest more : List ℕ) (refusal : Refusal) → HostHasFrame id at input guest rest → HasWalkImageRefusal id at input refusal more → ⊥
walk_image_once id at input guest rest more (refusals.Image place cause) has refused = image_once id at input guest rest more place cause has refused
walk_image_once id at input guest rest more (refusals.Host unsound) has refused = host_once id at input guest rest more unsound has refused
walk_image_once id at input guest rest more (refusals.Walk end) has refused = address_once id at input guest rest more end has refused
walk_image_once id at input guest rest more _ has refused = refused
