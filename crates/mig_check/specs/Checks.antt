-- What the program that checks promises, by its words.
use Rattle.std.specs.Prelude.{◌≡◌, ℕ, List, [], ◌∷◌, codes}
use Rattle.mig_check.specs.declared.words.Check.{Check}
use Rattle.mig_check.specs.declared.words.Check.TheVariants.{Stream, Legacy}
use Rattle.mig_tool_guest.specs.Promises.{check_legacy_promise, check_promise}
use Rattle.mig_tool_report.specs.Promises.{Promise}

-- no words name a stream, and `legacy` names a legacy stream
abbrev pub NamesCheck : List (List ℕ) → Check → Type 0
NamesCheck words Stream = words ≡ []
NamesCheck words Legacy = words ≡ codes "legacy" ∷ []

abbrev pub promise_of_check : Check → Promise
promise_of_check Stream = check_promise
promise_of_check Legacy = check_legacy_promise
