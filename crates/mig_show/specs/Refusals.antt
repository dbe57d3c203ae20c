-- The text of a stream's refusal.
use Rattle.std.specs.Prelude.{ℕ, List, ◌++◌, codes}
use Rattle.mig_show.specs.Common.{Place, Cause, text_of_place, text_of_cause}

-- what the refusal line says behind its first word
abbrev pub refused_text : Place → Cause → List ℕ
refused_text place cause = text_of_place place ++ (codes ": " ++ text_of_cause cause)
