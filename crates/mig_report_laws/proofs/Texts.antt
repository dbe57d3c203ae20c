-- The worked texts, each computed.
use Rattle.std.proofs.Common.{refl}
use Rattle.std.specs.Fmt.{digits}
use Rattle.mig_headers_text.specs.ImageTexts.{text_of_image_cause}
use Rattle.mig_headers_text.specs.LegacyTexts.{text_of_legacy_cause}
use Rattle.mig_headers_text.specs.Texts.{text_of_cause}
use Rattle.mig_headers_text.specs.UnsoundTexts.{text_of_unsound}
use Rattle.mig_tool_report.specs.Report.{refusal_place, text_of_walk_end}
use Rattle.mig_report_laws.specs.CauseTexts.{cause_texts, image_cause_texts, legacy_cause_texts, unsound_texts, walk_end_texts}
use Rattle.mig_report_laws.specs.OtherTexts.{name_of_type, place_texts, record_names}
use Rattle.mig_report_laws.specs.Rows.{Answers}

pub causes : Answers text_of_cause cause_texts
unfolding digits
causes = refl

pub legacy_causes : Answers text_of_legacy_cause legacy_cause_texts
unfolding digits
legacy_causes = refl

pub image_causes : Answers text_of_image_cause image_cause_texts
unfolding digits
image_causes = refl

pub unsounds : Answers text_of_unsound unsound_texts
unfolding digits
unsounds = refl

pub walk_ends : Answers text_of_walk_end walk_end_texts
unfolding digits
walk_ends = refl

pub places : Answers refusal_place place_texts
unfolding digits
places = refl

pub names : Answers name_of_type record_names
names = refl
