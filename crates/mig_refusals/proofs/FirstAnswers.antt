-- What is answered of a whole guest, and of a page, is the cause that is tried first of those that stand in it.
use Rattle.mig_refusals.proofs.Common.{ℕ, List, Kind, GuestOf, fault_of_guest, fault_of_page, fault_of_page_table, AnswersFirstCause, GuestHas, PageHas, TableHas}
use Rattle.mig_refusals.proofs.Least.{answers_first}
use Rattle.mig_refusals.proofs.LibxcCauses.{guest_least, page_least}
use Rattle.mig_refusals.proofs.PvTables.{table_least}

pub guest_answers : (g : GuestOf) → AnswersFirstCause (GuestHas g) (fault_of_guest g)
guest_answers g = answers_first (GuestHas g) (fault_of_guest g) (guest_least g)

pub page_answers : (kind : Kind) (top place word : ℕ) (page : List ℕ) → AnswersFirstCause (PageHas kind top place word page) (fault_of_page kind top (place, word) page)
page_answers kind top place word page = answers_first (PageHas kind top place word page) (fault_of_page kind top (place, word) page) (page_least kind top place word page)

pub table_answers : (top place level : ℕ) (page : List ℕ) → AnswersFirstCause (TableHas top place level page) (fault_of_page_table place top level page)
table_answers top place level page = answers_first (TableHas top place level page) (fault_of_page_table place top level page) (table_least top place level page)
