use Rattle.mig_pvtables.proofs.Renamed.{said_anew, same_kind, kept_at, frameless_stays, nameless_stays}
use Rattle.mig_pvtables.proofs.renaming_law.renamed_table_says_the_same.Goals as goal

pub returns : goal.returns
returns c = record { said = said_anew; kind = same_kind; bits = kept_at; frameless = frameless_stays; nameless = nameless_stays }
