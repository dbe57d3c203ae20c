use Rattle.mig_dirtysave.proofs.Common.{◌≡◌, ℕ, Some, sym, ap, ◌∙◌, option_map, HostOf, find_gdt, GdtEnts}
use Rattle.mig_dirtysave.proofs.SeenRows.{behind_tables, same_gdt}
use Rattle.mig_dirtysave.proofs.judging.cause_before_fields.Goals as goal

pub returns-in_err-id : goal.returns-in_err-id
returns-in_err-id g c =
    let h : HostOf = (g.M.Machine.state c.args.machine.now).host in
    let gdt : find_gdt c.parts.result.now ≡ find_gdt h.parts = ap find_gdt c.parts.ensures ∙ same_gdt c.args.guest.now.parts h.parts c.requires.contexts in
    c.from_residual.ensures ∙ ap (option_map (λ (at : ℕ × ℕ). GdtEnts at.0 at.1)) (c.in_err-id.ensures ∙ gdt)
    ∙ behind_tables _ _ c.args.tables _ c.in_default.ensures (sym c.is_some.ensures ∙ c.if-is_some.false)

pub returns : goal.returns
returns g c =
    let h : HostOf = (g.M.Machine.state c.args.machine.now).host in
    let gdt : find_gdt c.parts.result.now ≡ find_gdt h.parts = ap find_gdt c.parts.ensures ∙ same_gdt c.args.guest.now.parts h.parts c.requires.contexts in
    (λ i. Some (GdtEnts (c.from.ensures i) c.in_ok-id.descriptors)) ∙ ap (option_map (λ (at : ℕ × ℕ). GdtEnts at.0 at.1)) (c.in_ok-id.ensures ∙ gdt)
    ∙ behind_tables _ _ c.args.tables _ c.in_default.ensures (sym c.is_some.ensures ∙ c.if-is_some.false)
