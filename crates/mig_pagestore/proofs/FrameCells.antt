-- What a cell says again that was written.
use Rattle.mig_pagestore.proofs.Common.{◌≡◌, ◌≢◌, ℕ, zero, suc, ◌+◌, ◌*◌, ◌/◌, ◌%◌, ◌^◌, ◌<◌, true, refl, sym, ap, ◌∙◌, arith, PageType, number_of, type_of, type_or_none, type_has_data, is_place, IsCell}
use Rattle.mig_pagetypes.proofs.Numbers.{type_back}
use Rattle.mig_pagetypes.specs.FrameWords.{word_of}
use Rattle.mig_pagestore.specs.FrameView.{cell_type, cell_mark, cell_place}
use Rattle.mig_pagestore.proofs.Marks.{mark_some}

upper : (n p : ℕ) → p < 2 ^ 52 → (n * 2 ^ 60 + p) / 2 ^ 60 ≡ n
upper n p lt = omega arith

lower : (n p : ℕ) → p < 2 ^ 52 → (n * 2 ^ 60 + p) % 2 ^ 52 ≡ p
lower n p lt = omega arith

pub type_of_cell : (kind : PageType) (p : ℕ) → p < 2 ^ 52 → cell_type (word_of (record { pfn = p; kind = kind })) ≡ kind
unfolding cell_type
type_of_cell kind p lt = ap (λ n. type_or_none (type_of n)) (upper (number_of kind) p lt) ∙ ap type_or_none (type_back kind)

pub mark_of_cell : (kind : PageType) (p : ℕ) → p < 2 ^ 52 → cell_mark (word_of (record { pfn = p; kind = kind })) ≡ p
unfolding cell_mark
mark_of_cell kind p lt = lower (number_of kind) p lt

zero_is_none : is_place (cell_mark 0) ≢ type_has_data (cell_type 0)
unfolding cell_type cell_mark
zero_is_none e = cc

-- 0 is no cell: a page belongs to NOTAB
pub cell_some : (c : ℕ) → IsCell c → 0 < c
cell_some zero is = absurd (zero_is_none is.in_step)
cell_some (suc c) is = omega arith

pub some_place : (p : ℕ) → 0 < p → is_place p ≡ true
some_place zero some = absurd (omega (arith, some))
some_place (suc p) some = refl

-- a cell that leads to another place is one as well
pub cell_moved : (c d : ℕ) → IsCell c → 0 < cell_mark c → cell_type d ≡ cell_type c → 0 < cell_place d → IsCell d
cell_moved c d is some same at = record {
  there = λ e. is.there (sym same ∙ e);
  in_step = some_place (cell_mark d) (mark_some (cell_mark d) at) ∙ sym (some_place (cell_mark c) some) ∙ is.in_step ∙ ap type_has_data (sym same);
}
