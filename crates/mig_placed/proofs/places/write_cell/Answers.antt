use Rattle.mig_placed.proofs.Common.{sym, ap, subst, ◌∙◌, IsCell, word_of, cell_some}
use Rattle.mig_placed.proofs.Cells.{cell_is}
use Rattle.mig_placed.proofs.places.write_cell.Goals as goal

pub returns-clause-is : goal.returns-clause-is
returns-clause-is c = c.encode_word.ensures ∙ ap (λ p. word_of (record { pfn = p; kind = c.args.kind })) c.place_for-pfn.ensures.is

pub returns-clause-cell : goal.returns-clause-cell
returns-clause-cell c = subst IsCell (sym (c.encode_word.ensures ∙ ap (λ p. word_of (record { pfn = p; kind = c.args.kind })) c.place_for-pfn.ensures.is)) (cell_is c.args.kind c.args.at c.requires.there c.requires.small)

pub returns-clause-some : goal.returns-clause-some
returns-clause-some c = cell_some c.encode_word.result (subst IsCell (sym (c.encode_word.ensures ∙ ap (λ p. word_of (record { pfn = p; kind = c.args.kind })) c.place_for-pfn.ensures.is)) (cell_is c.args.kind c.args.at c.requires.there c.requires.small))
