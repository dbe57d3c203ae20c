-- What a check answers.
use Rattle.mig_tool_guest.proofs.Common.{Appends, AppendsPart, Passes, StreamOf, Status, StatusSays, ◌≡◌, ◌∙◌, ℕ, List, length, Option, Some, None, Result, Ok, Err, refl, sym, subst, AcceptedStream, HasStreamRefusal, HasLegacyRefusal, summary_of, Puts, accepted_is_stream, stream_at, WriteFailed, mean_legacy, guest_of, differs_of, Checked, LegacyChecked, is_some}
use Rattle.mig_tool_guest.proofs.Reporting.{accepted_legacy, reported}
use Rattle.mig_legacy.specs.Stream.{JudgesLegacy}
use Rattle.mig_libxl.specs.Reads.{IsStreamTally, JudgesStream}
use Rattle.mig_outline.specs.declared.judge.Tally.{Tally}
use Rattle.mig_tool_report.specs.Report.{checked_legacy_line, checked_line, uncompared}
use Rattle.mig_tool_report.specs.declared.outcome.CheckSummary.{CheckSummary}
use Rattle.std.specs.FinMap as maps

-- the stream that has this tally
tallied : (input rest : List ℕ) (stream : StreamOf) (tally : Tally) → stream_at input ≡ Passes stream rest → (is : IsStreamTally tally stream) → AcceptedStream input (guest_of is.image stream) rest
tallied input rest stream tally accepts is = record { stream = stream; image = is.image; spelled = accepted_is_stream input stream rest accepts; image_is = is.is; means = refl }

-- the summary is that of the stream
summed : (input rest : List ℕ) (stream : StreamOf) (tally : Tally) (accepts : stream_at input ≡ Passes stream rest) (is : IsStreamTally tally stream) (s : CheckSummary)
    → s.version ≡ tally.version → s.kind ≡ tally.kind → s.frames ≡ tally.frames → s.records ≡ tally.records → s.verified ≡ tally.verified → s ≡ uncompared (summary_of (tallied input rest stream tally accepts is))
unfolding tallied
summed input rest stream tally accepts is s v k f n d =
    let v' : s.version ≡ is.image.opening.version = v ∙ is.version in
    let k' : s.kind ≡ is.image.opening.kind = k ∙ is.kind in
    let f' : s.frames ≡ length (maps.entries (guest_of is.image stream).frames) = f ∙ is.frames ∙ maps.len-entries (guest_of is.image stream).frames in
    let n' : s.records ≡ length is.image.records = n ∙ is.records in
    let d' : s.verified ≡ is_some (differs_of is.image.opening.kind is.image.records) = d ∙ is.verified in
    λ i. record { version = v' i; kind = k' i; frames = f' i; records = n' i; verified = d' i }

abbrev pub CheckSays : (told left old new : Option (List ℕ)) → Status → Type 0
CheckSays told left old new status = StatusSays (λ input. Checked (Appends old new) input left) (λ input. Checked (AppendsPart old new) input left) HasStreamRefusal told left status

pub checked : (told left old new : Option (List ℕ)) (tally : Tally) (s : CheckSummary) (r : Result (Unit {0}) WriteFailed) (status : Status) → JudgesStream told left (Ok tally)
    → s.version ≡ tally.version → s.kind ≡ tally.kind → s.frames ≡ tally.frames → s.records ≡ tally.records → s.verified ≡ tally.verified
    → Puts (checked_line s) old new r → status ≡ reported r → CheckSays told left old new status
checked None left old new tally s r status h v k f n d put is = tt
checked (Some input) left old new tally s r status (stream, rest, accepts, left_is, is_tally) v k f n d put is =
    subst (CheckSays (Some input) left old new) (sym is) (by r (subst (λ t. Puts (checked_line t) old new r) (summed input rest stream tally accepts is_tally s v k f n d) put))
  where
    by : (r : Result (Unit {0}) WriteFailed) → Puts (checked_line (uncompared (summary_of (tallied input rest stream tally accepts is_tally)))) old new r → CheckSays (Some input) left old new (reported r)
    by (Ok u) put = record { guest = guest_of is_tally.image stream; rest = rest; accepted = tallied input rest stream tally accepts is_tally; left_is = left_is; reported = put }
    by (Err e) put = record { guest = guest_of is_tally.image stream; rest = rest; accepted = tallied input rest stream tally accepts is_tally; left_is = left_is; reported = put }

-- ---- of a legacy stream

abbrev pub LegacyCheckSays : (told left old new : Option (List ℕ)) → Status → Type 0
LegacyCheckSays told left old new status = StatusSays (λ input. LegacyChecked (Appends old new) input left) (λ input. LegacyChecked (AppendsPart old new) input left) HasLegacyRefusal told left status

pub legacy_checked : (told left old new : Option (List ℕ)) (n : ℕ) (r : Result (Unit {0}) WriteFailed) (status : Status) → JudgesLegacy told left (Ok n)
    → Puts (checked_legacy_line n) old new r → status ≡ reported r → LegacyCheckSays told left old new status
legacy_checked None left old new n r status h put is = tt
legacy_checked (Some input) left old new n r status (stream, rest, accepts, left_is, counts) put is =
    subst (LegacyCheckSays (Some input) left old new) (sym is) (by r (subst (λ t. Puts (checked_legacy_line t) old new r) counts put))
  where
    by : (r : Result (Unit {0}) WriteFailed) → Puts (checked_legacy_line (maps.len (mean_legacy stream).frames)) old new r → LegacyCheckSays (Some input) left old new (reported r)
    by (Ok u) put = record { guest = mean_legacy stream; rest = rest; accepted = accepted_legacy input rest stream (mean_legacy stream) accepts refl; left_is = left_is; reported = put }
    by (Err e) put = record { guest = mean_legacy stream; rest = rest; accepted = accepted_legacy input rest stream (mean_legacy stream) accepts refl; left_is = left_is; reported = put }
