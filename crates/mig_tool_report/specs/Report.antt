-- The lines that the program puts on its report.
use Rattle.std.specs.Prelude.{◌≡◌, ◌≤◌, ◌⊎◌, ℕ, List, [], ◌++◌, codes, decimal, Bool, true, false, Option, Some, None, is_some}
use Rattle.mig_tool_report.specs.Common.{Appends, AppendsPart, Rose}
use Rattle.mig_headers.specs.declared.kind.Kind.{Kind}
use Rattle.mig_headers.specs.declared.kind.Kind.TheVariants.{Pv, Hvm}
use Rattle.mig_headers_text.specs.ImageTexts.{text_of_image_place, text_of_image_cause}
use Rattle.mig_headers_text.specs.LegacyTexts.{text_of_legacy_place, text_of_legacy_cause}
use Rattle.mig_headers_text.specs.Texts.{text_of_place, text_of_cause}
use Rattle.mig_headers_text.specs.UnsoundTexts.{text_of_unsound}
use Rattle.mig_tool_report.specs.declared.outcome.CheckSummary.{CheckSummary}
use Rattle.mig_tool_report.specs.declared.outcome.ExerciseSummary.{ExerciseSummary}
use Rattle.mig_tool_report.specs.declared.outcome.Refusal.{Refusal}
use Rattle.mig_tool_report.specs.declared.outcome.Refusal.TheVariants.{Stream, Legacy, Image, BadLine, TooLong, Pause, Host, Walk}
use Rattle.mig_tool_report.specs.declared.outcome.RelaySummary.{RelaySummary}
use Rattle.mig_tool_report.specs.declared.outcome.SaveSummary.{SaveSummary}
use Rattle.mig_tool_report.specs.declared.outcome.Summary.{Summary}
use Rattle.mig_tool_report.specs.declared.outcome.WalkEnd.{WalkEnd}
use Rattle.mig_tool_report.specs.declared.outcome.WalkEnd.TheVariants.{NoVcpu, NotCanonical, Absent, NotTable}
use Rattle.mig_tool_report.specs.declared.outcome.WalkSummary.{WalkSummary}

-- why an address means no frame: `NUMBER NAME`, and the vCPU's id or the level
abbrev pub text_of_walk_end : WalkEnd → List ℕ
text_of_walk_end (NoVcpu id) = codes "1 NoVcpu " ++ decimal id
text_of_walk_end NotCanonical = codes "2 NotCanonical"
text_of_walk_end (Absent level) = codes "3 Absent " ++ decimal level
text_of_walk_end (NotTable level) = codes "4 NotTable " ++ decimal level

abbrev pub refusal_place : Refusal → List ℕ
refusal_place (Stream place cause) = text_of_place place
refusal_place (Legacy place cause) = text_of_legacy_place place
refusal_place (Image place cause) = text_of_image_place place
refusal_place (BadLine line) = codes "Script " ++ decimal line
refusal_place TooLong = codes "Script"
refusal_place (Pause unsound) = codes "Pause"
refusal_place (Host unsound) = codes "Host"
refusal_place (Walk end) = codes "Walk"

-- `NUMBER NAME`, and the cause's arguments
abbrev pub refusal_cause : Refusal → List ℕ
refusal_cause (Stream place cause) = text_of_cause cause
refusal_cause (Legacy place cause) = text_of_legacy_cause cause
refusal_cause (Image place cause) = text_of_image_cause cause
refusal_cause (BadLine line) = codes "1 BadLine"
refusal_cause TooLong = codes "2 TooLong"
refusal_cause (Pause unsound) = text_of_unsound unsound
refusal_cause (Host unsound) = text_of_unsound unsound
refusal_cause (Walk end) = text_of_walk_end end

-- `refused: PLACE: NUMBER NAME`
abbrev pub refusal_line : Refusal → List ℕ
refusal_line refusal = codes "refused: " ++ (refusal_place refusal ++ (codes ": " ++ (refusal_cause refusal ++ codes "\n")))

abbrev pub usage_line : List ℕ
usage_line = codes "usage: restore [BASE] | verify | normalise | convert | save | exercise SEED FRAMES | walk VCPU ADDRESS | walkimage VCPU ADDRESS | relay | show\n"

-- of the program that checks
abbrev pub check_usage_line : List ℕ
check_usage_line = codes "usage: mig_check [legacy]\n"

abbrev pub read_fault_line : List ℕ
read_fault_line = codes "fault: read\n"

abbrev pub write_fault_line : List ℕ
write_fault_line = codes "fault: write\n"

abbrev pub memory_line : List ℕ
memory_line = codes "fault: memory\n"

abbrev pub kind_name : Kind → List ℕ
kind_name Pv = codes "pv"
kind_name Hvm = codes "hvm"

-- ` differs D` of a stream with a VERIFY
abbrev pub differs_text : Option ℕ → List ℕ
differs_text None = []
differs_text (Some n) = codes " differs " ++ decimal n

-- `ok version V kind K frames N records R` of an accepted stream
abbrev pub stream_text : ℕ → Kind → ℕ → ℕ → List ℕ
stream_text version kind frames records =
    (codes "ok version " ++ decimal version) ++ (codes " kind " ++ (kind_name kind ++ ((codes " frames " ++ decimal frames) ++ (codes " records " ++ decimal records))))

-- that text, and ` differs D` where the stream has a VERIFY
abbrev pub ok_line : Summary → List ℕ
ok_line s = stream_text s.version s.kind s.frames s.records ++ (differs_text s.differs ++ codes "\n")

-- ` differs unknown` of a stream with a VERIFY, behind which nothing was compared
abbrev pub unknown_text : Bool → List ℕ
unknown_text true = codes " differs unknown"
unknown_text false = []

-- that text, and ` differs unknown` where the stream has a VERIFY
abbrev pub checked_line : CheckSummary → List ℕ
checked_line s = stream_text s.version s.kind s.frames s.records ++ (unknown_text s.verified ++ codes "\n")

-- what is left of a summary where nothing was compared
abbrev pub uncompared : Summary → CheckSummary
uncompared s = record { version = s.version; kind = s.kind; frames = s.frames; records = s.records; verified = is_some s.differs }

-- `ok legacy frames N`
abbrev pub checked_legacy_line : ℕ → List ℕ
checked_legacy_line frames = (codes "ok legacy frames " ++ decimal frames) ++ codes "\n"

-- `ok rounds R entries N`
abbrev pub saved_line : SaveSummary → List ℕ
saved_line s = (codes "ok rounds " ++ decimal s.rounds) ++ ((codes " entries " ++ decimal s.entries) ++ codes "\n")

-- `ok frames N rounds R entries E canon B`
abbrev pub exercised_line : ExerciseSummary → List ℕ
exercised_line s =
    (codes "ok frames " ++ decimal s.frames) ++ ((codes " rounds " ++ decimal s.rounds) ++ ((codes " entries " ++ decimal s.entries) ++ ((codes " canon " ++ decimal s.canon) ++ codes "\n")))

-- `ok frame F type T`
abbrev pub walked_line : WalkSummary → List ℕ
walked_line s = (codes "ok frame " ++ decimal s.frame) ++ ((codes " type " ++ decimal s.kind) ++ codes "\n")

-- `ok records R bytes B`
abbrev pub relayed_line : RelaySummary → List ℕ
relayed_line s = (codes "ok records " ++ decimal s.records) ++ ((codes " bytes " ++ decimal s.bytes) ++ codes "\n")

-- the report got the line, and its count stands as it was; or a write failed, and it got some first bytes, but not all
abbrev pub Reports : List ℕ → Option (List ℕ) → Option (List ℕ) → ℕ → ℕ → Type 0
Reports line old new before now = ((now ≡ before) × Appends old new line) ⊎ ((before ≤ now) × Rose before now × AppendsPart old new line)
