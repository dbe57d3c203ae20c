-- What is said of a stream that was read, or compared in its file.
use Rattle.mig_tool_guest.proofs.Common.{Passes, StreamOf, Status, ◌≡◌, ◌∙◌, ℕ, List, length, Option, Some, None, Result, Ok, Err, refl, sym, ap, subst, CarriedOut, GuestOf, SinkEffect, effects, AcceptedStream, Reading, mean_kind, Puts, accepted_is_stream, stream_at, IsStreamReading, ok_line, summary_of, verify_promise, IsSummary, input_with, AgreesWithJudging, WriteFailed, IsStreamComparison, guest_of, differs_of, Summary}
use Rattle.mig_tool_guest.proofs.Reporting.{reported}
use Rattle.mig_tool_guest.proofs.Says.{VerifySays}
use Rattle.mig_placing.specs.declared.comparison.Comparison.{Comparison}
use Rattle.std.specs.FinMap as maps

-- that of a reading
pub of_reading : (told left : Option (List ℕ)) (reading : Reading) (s : Summary) → s.version ≡ reading.version → s.kind ≡ reading.guest.kind → s.frames ≡ length (maps.entries reading.guest.frames) → s.records ≡ reading.records → s.differs ≡ reading.differs
    → AgreesWithJudging IsStreamReading told left stream_at (Ok reading) → AgreesWithJudging IsSummary told left stream_at (Ok s)
of_reading None left reading s v k f n d h = tt
of_reading (Some input) left reading s v k f n d (stream, rest, accepts, left_is, is) =
    let v' : s.version ≡ is.image.opening.version = v ∙ is.version in
    let k' : s.kind ≡ is.image.opening.kind = k ∙ ap (λ (x : GuestOf). x.kind) is.guest ∙ mean_kind is.image.opening.kind is.image.records in
    let f' : s.frames ≡ length (maps.entries (guest_of is.image stream).frames) = f ∙ ap (λ (x : GuestOf). length (maps.entries x.frames)) is.guest in
    let n' : s.records ≡ length is.image.records = n ∙ is.records in
    let d' : s.differs ≡ differs_of is.image.opening.kind is.image.records = d ∙ is.differs in
    (stream, rest, accepts, left_is, record { image = is.image; is = is.is; said = λ i. record { version = v' i; kind = k' i; frames = f' i; records = n' i; differs = d' i } })

-- that of a comparison
pub of_comparison : (told left : Option (List ℕ)) (comparison : Comparison) (s : Summary) → s.version ≡ comparison.tally.version → s.kind ≡ comparison.tally.kind → s.frames ≡ comparison.tally.frames → s.records ≡ comparison.tally.records → s.differs ≡ comparison.differs
    → AgreesWithJudging IsStreamComparison told left stream_at (Ok comparison) → AgreesWithJudging IsSummary told left stream_at (Ok s)
of_comparison None left comparison s v k f n d h = tt
of_comparison (Some input) left comparison s v k f n d (stream, rest, accepts, left_is, compared) =
    let is = compared.tally in
    let v' : s.version ≡ is.image.opening.version = v ∙ is.version in
    let k' : s.kind ≡ is.image.opening.kind = k ∙ is.kind in
    let f' : s.frames ≡ length (maps.entries (guest_of is.image stream).frames) = f ∙ is.frames ∙ maps.len-entries (guest_of is.image stream).frames in
    let n' : s.records ≡ length is.image.records = n ∙ is.records in
    let d' : s.differs ≡ differs_of is.image.opening.kind is.image.records = d ∙ compared.differs in
    (stream, rest, accepts, left_is, record { image = is.image; is = is.is; said = λ i. record { version = v' i; kind = k' i; frames = f' i; records = n' i; differs = d' i } })

-- ---- its line

told_as : (input rest : List ℕ) (stream : StreamOf) (s : Summary) → stream_at input ≡ Passes stream rest → (is : IsSummary s stream) → AcceptedStream input (guest_of is.image stream) rest
told_as input rest stream s accepts is = record { stream = stream; image = is.image; spelled = accepted_is_stream input stream rest accepts; image_is = is.is; means = refl }

pub verified : (told left old new : Option (List ℕ)) (s : Summary) (r : Result (Unit {0}) WriteFailed) (status : Status) → AgreesWithJudging IsSummary told left stream_at (Ok s)
    → Puts (ok_line s) old new r → status ≡ reported r → VerifySays told left old new status
unfolding told_as
verified None left old new s r status h put is = tt
verified (Some input) left old new s r status (stream, rest, accepts, left_is, is_summary) put is =
    subst (VerifySays (Some input) left old new) (sym is) (by r (subst (λ t. Puts (ok_line t) old new r) is_summary.said put))
  where
    by : (r : Result (Unit {0}) WriteFailed) → Puts (ok_line (summary_of (told_as input rest stream s accepts is_summary))) old new r → VerifySays (Some input) left old new (reported r)
    by (Ok u) put = record { guest = guest_of is_summary.image stream; rest = rest; accepted = told_as input rest stream s accepts is_summary; left_is = left_is; reported = put }
    by (Err e) put = record { guest = guest_of is_summary.image stream; rest = rest; accepted = told_as input rest stream s accepts is_summary; left_is = left_is; reported = put }

-- ---- an input of a source

-- what is promised of a line hangs on the input's bytes and its failed reads alone
pub of_source : (unread : Type 0) (told left : Option (List ℕ)) (failed failed_now : ℕ) (out report : SinkEffect) (status : Status) → CarriedOut verify_promise (effects (input_with told left failed failed_now) out report) status
    → CarriedOut verify_promise (effects (record { told = told; left = left; failed = failed; failed_now = failed_now; Unread = unread }) out report) status
of_source unread told left failed failed_now out report status c = record {
  said = c.said;
  known = c.known;
  kept = c.kept;
  read = c.read;
  write = c.write;
  line = c.line;
  own_line = c.own_line;
  out_faults = c.out_faults;
  report_faults = c.report_faults;
  besides = c.besides;
}
