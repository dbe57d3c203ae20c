-- What taking the page of an entry does.
use Rattle.std.specs.Prelude.{◌≡◌, ℕ, List, length, Option, None, Result, OnOk}
use Rattle.mig_restore.specs.Common.{AreBytes, RisesOnReadFault, AgreesWithJudging, said_at, Cause, Truncated, FrameEntry, PageType, fault_of_level, type_in_word, word_pfn}
use Rattle.mig_bytes.specs.declared.stop.Stop.{Stop}
use Rattle.mig_pagetypes.specs.PageTypes.{level_of}

-- a page is taken, whole and without fault, or it is told why not
pub record ReadsPage (type : PageType) (place top : ℕ) (left left' : Option (List ℕ)) (count count' : ℕ) (page : List ℕ) (result : Result (Unit {0}) (Stop Cause)) : Type 0 where
  pub read : AgreesWithJudging {X = Unit {0}} (λ _ bytes. bytes ≡ page) left left' (said_at Truncated (fault_of_level top place (level_of type)) (λ bytes. bytes) 4096) result
  pub faults : RisesOnReadFault count count' result
  pub fine : OnOk result (fault_of_level top place (level_of type) page ≡ None)
  pub whole : OnOk result (length page ≡ 4096)
  pub bytes : OnOk result (AreBytes page)

-- the entry that a word says with this page, or with none
abbrev pub entry_with : ℕ → Option (List ℕ) → FrameEntry
entry_with w page = record { pfn = word_pfn w; type = type_in_word w; page = page }
