-- What an outcome or a status says of each command, by the parts of it that the lemmas speak of.
use Rattle.mig_tool_guest.proofs.Common.{Appends, AppendsPart, AcceptedLegacy, canon_any, AcceptedStream, Effects, OutcomeSays, StatusSays, Outcome, Status, Normalised, PartWritten, Restored, Verified, restored_text, relay_promise, HasLegacyRefusal, HasOpenRefusal, HasStreamRefusal, FrontShown, PartShown}
use Rattle.std.specs.Prelude.{ℕ, List, Some, Option}

abbrev pub NormaliseComes : (told left old new : Option (List ℕ)) → Outcome → Type 0
NormaliseComes told left old new outcome = OutcomeSays (λ input. Normalised AcceptedStream input left old new) (λ input. PartWritten AcceptedStream canon_any input left old new) HasStreamRefusal told left outcome

abbrev pub ConvertComes : (told left old new : Option (List ℕ)) → Outcome → Type 0
ConvertComes told left old new outcome = OutcomeSays (λ input. Normalised AcceptedLegacy input left old new) (λ input. PartWritten AcceptedLegacy canon_any input left old new) HasLegacyRefusal told left outcome

abbrev pub RestoreComes : ℕ → (told left old new : Option (List ℕ)) → Outcome → Type 0
RestoreComes base told left old new outcome = OutcomeSays (λ input. Restored base input left old new) (λ input. PartWritten AcceptedStream (restored_text base) input left old new) HasStreamRefusal told left outcome

abbrev pub ShowComes : (told left old new : Option (List ℕ)) → Outcome → Type 0
ShowComes told left old new outcome = OutcomeSays (λ input. FrontShown input left old new) (λ input. PartShown (Some input) left old new) HasOpenRefusal told left outcome

abbrev pub VerifySays : (told left old new : Option (List ℕ)) → Status → Type 0
VerifySays told left old new status = StatusSays (λ input. Verified (Appends old new) input left) (λ input. Verified (AppendsPart old new) input left) HasStreamRefusal told left status

-- of `relay`, for an input that tells this
abbrev pub RelaySays : Option (List ℕ) → Effects → Status → Type 0
RelaySays told e status = StatusSays (λ input. relay_promise.Done input e) (λ input. relay_promise.DonePart input e) HasOpenRefusal told e.input.left status

abbrev pub RelayComes : Option (List ℕ) → Effects → Outcome → Type 0
RelayComes told e outcome = OutcomeSays (λ input. relay_promise.Done input e) (λ input. relay_promise.DonePart input e) HasOpenRefusal told e.input.left outcome
