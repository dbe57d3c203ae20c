-- Names that several definitions and contracts of this crate use.
pub use Rattle.mig_headers_text.specs.ImageTexts.{text_of_image_cause}
pub use Rattle.mig_headers_text.specs.LegacyTexts.{text_of_legacy_cause}
pub use Rattle.mig_headers_text.specs.Texts.{text_of_cause}
pub use Rattle.mig_headers_text.specs.UnsoundTexts.{text_of_unsound}
pub use Rattle.mig_show.specs.Names.{shown_name}
pub use Rattle.mig_tool_report.specs.Outcome.{exit_code}
pub use Rattle.mig_tool_report.specs.Report.{refusal_place, text_of_walk_end}
