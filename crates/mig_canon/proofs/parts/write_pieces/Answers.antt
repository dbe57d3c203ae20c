use Rattle.mig_canon.proofs.Common.{[], ◌∷◌, ◌++◌, sym, ap, subst, ◌∙◌, rules, code_number, Part, shape_of, parts_at, piece, IsShortPart, done_stop, more_done, done_on}
use Rattle.mig_canon.proofs.Wholes.{next_part, holds_next, code_next, short_parts}
use Rattle.std.specs.FinMap as maps
use Rattle.mig_canon.proofs.parts.write_pieces.Goals as goal

pub write_piece-requires-clause-short : goal.write_piece-requires-clause-short
write_piece-requires-clause-short g c =
    let es = maps.entries c.args.guest.now.parts in let code = c.args.code in let e : Part = (c.in-Some.key, c.in-Some.value.now) in
    let is = next_part c.number.result (code_number code) c.loop-key.after es e c.number.ensures c.in-Some.ensures.next in
    subst (λ s. IsShortPart s e) (sym c.shape_of.ensures) (holds_next (code_number code) c.loop-key.after es e _ is (IsShortPart (shape_of code)) (short_parts code c.args.guest.now c.requires))

pub returns-in_err-write_piece-clause-bytes : goal.returns-in_err-write_piece-clause-bytes
returns-in_err-write_piece-clause-bytes g c =
    let es = maps.entries c.args.guest.now.parts in let code = c.args.code in let e : Part = (c.in-Some.key, c.in-Some.value.now) in
    let is = next_part c.number.result (code_number code) c.loop-key.after es e c.number.ensures c.in-Some.ensures.next in
    let (done, split, before) = c.loop-key.invariant.bytes in
    done_stop (piece (shape_of code) (code_number code)) done e (parts_at code c.args.guest.now) _ _ _ _ _ c.from_residual.result (split ∙ ap (λ l. done ++ l) is) before c.from_residual.ensures.1 (rw (c.shape_of.ensures) at c.in_err-write_piece.ensures.bytes)

pub loop-key-preserved : goal.loop-key-preserved
loop-key-preserved g c =
    let es = maps.entries c.args.guest.now.parts in let code = c.args.code in let e : Part = (c.in-Some.key, c.in-Some.value.now) in
    let is = next_part c.number.result (code_number code) c.loop-key.after es e c.number.ensures c.in-Some.ensures.next in
    let (done, split, before) = c.loop-key.invariant.bytes in
    let F = piece (shape_of code) (code_number code) in
    record {
      code = code_next _ c.loop-key.after es e _ is;
      bytes = (done ++ e ∷ [], more_done F done e (parts_at code c.args.guest.now) _ (split ∙ ap (λ l. done ++ l) is), done_on F done e _ _ _ before (rw (c.shape_of.ensures) at c.in_ok-write_piece.ensures.bytes));
      quiet = search rules;
    }
