use Rattle.mig_dirtysave.proofs.Common.{◌≡◌, ℕ, sym, ap, ◌∙◌, option_map, VcpuFrame, HostOf, names_ill, row_1, row_2, row_5, row_6, Standing, standing_seen, standing_with}
use Rattle.mig_dirtysave.proofs.SeenRows.{contexts_long, same_fields, ok_then, before_fields, in_fields_alone, first_is_unsoundness}
use Rattle.mig_dirtysave.proofs.judging.judge.Goals as goal

pub returns-in-Some-clause-unsoundness : goal.returns-in-Some-clause-unsoundness
returns-in-Some-clause-unsoundness g c has is =
    let h : HostOf = (g.M.Machine.state c.args.machine.now).host in
    let s : Standing = standing_seen h c.args.types.now in
    before_fields (row_1 s) (row_2 s) c.args.tables (row_5 s) (row_6 s) c.in-Some.cause c.in-Some.ensures
    ∙ first_is_unsoundness h c.host_is_valid.ensures.host c.requires.pv c.args.types.now c.args.tables has is

pub rename_contexts-requires-clause-contexts : goal.rename_contexts-requires-clause-contexts
rename_contexts-requires-clause-contexts g c key context is code =
    contexts_long (g.M.Machine.state c.args.machine.now).host c.host_is_valid.ensures.host key context (sym (c.requires.contexts key code) ∙ is) code

pub returns-clause-first : goal.returns-clause-first
returns-clause-first g c =
    let h : HostOf = (g.M.Machine.state c.args.machine.now).host in
    let s : Standing = standing_seen h c.args.types.now in
    let fields : row_6 (standing_with h c.args.types.now c.args.guest.now.parts) ≡ row_6 s =
    ap (option_map (λ (at : ℕ × ℕ). VcpuFrame at.0 at.1)) (same_fields c.args.guest.now.parts h.parts c.requires.contexts (names_ill s)) in
    ok_then c.rename_contexts.result (λ found is. is ∙ fields ∙ in_fields_alone (row_1 s) (row_2 s) c.args.tables (row_5 s) (row_6 s) c.in_default.ensures) c.rename_contexts.ensures.found

pub returns-clause-unsoundness : goal.returns-clause-unsoundness
returns-clause-unsoundness g c =
    ok_then c.rename_contexts.result (λ found first has is. first ∙ first_is_unsoundness (g.M.Machine.state c.args.machine.now).host c.host_is_valid.ensures.host c.requires.pv c.args.types.now c.args.tables has is)
    (returns-clause-first g c)
