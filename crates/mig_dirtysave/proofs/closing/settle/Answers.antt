use Rattle.mig_dirtysave.proofs.Common.{◌≡◌, Option, Some, None, refl, sym, ap, subst, ◌∙◌, Unsound, IsFormed, GuestOf, standing_seen, is_setting}
use Rattle.mig_dirtysave.proofs.HeldParts.{kept_are_held}
use Rattle.mig_dirtysave.proofs.TableRows.{rounds_find_rows}
use Rattle.mig_dirtysave_parts.proofs.PvSettings.{settings_formed}
use Rattle.mig_dirtysave.proofs.PvRows.{few_descriptors, found_stands}
use Rattle.mig_dirtysave.proofs.Settled.{settings_are}
use Rattle.mig_dirtysave.proofs.closing.settle.Goals as goal

pub view_parts-requires-clause-held : goal.view_parts-requires-clause-held
view_parts-requires-clause-held g c =
    kept_are_held (g.M.Machine.state c.args.machine.now).host c.refresh.new.settings is_setting (ap (λ (k : GuestOf). k.parts) c.refresh.ensures) refl

pub returns-in-Ok-None-clause-seen : goal.returns-in-Ok-None-clause-seen
returns-in-Ok-None-clause-seen g c =
    let none : ◌≡◌ {A = Option Unsound} c.in-Ok-None.field-0 None = cc in
    settings_are (g.M.Machine.state c.args.machine.now).host c.requires.pv c.refresh.new.settings c.view_parts.new.guest c.refresh.ensures (c.in-Ok-None.ensures.seen none)

pub returns-in-Ok-None-clause-formed : goal.returns-in-Ok-None-clause-formed
returns-in-Ok-None-clause-formed g c =
    let h = (g.M.Machine.state c.args.machine.now).host in
    let none : ◌≡◌ {A = Option Unsound} c.in-Ok-None.field-0 None = cc in
    subst IsFormed (sym (settings_are h c.requires.pv c.refresh.new.settings c.view_parts.new.guest c.refresh.ensures (c.in-Ok-None.ensures.seen none)))
    (settings_formed h c.requires.valid c.requires.pv (few_descriptors c.args.tables (standing_seen h c.args.types.now) (sym c.in-Ok-None.ensures.first ∙ none)))

pub returns-in-Ok-None-clause-sound : goal.returns-in-Ok-None-clause-sound
returns-in-Ok-None-clause-sound g c =
    let none : ◌≡◌ {A = Option Unsound} c.in-Ok-None.field-0 None = cc in
    λ honest. sym (c.in-Ok-None.ensures.unsoundness (c.requires.types honest) (sym (c.requires.tables honest) ∙ rounds_find_rows (g.M.Machine.state c.args.machine.now).host)) ∙ none

pub returns-in-Ok-Some-clause-first : goal.returns-in-Ok-Some-clause-first
returns-in-Ok-Some-clause-first g c =
    let some : ◌≡◌ {A = Option Unsound} c.in-Ok-Some.field-0 (Some c.in-Ok-Some.unsound) = cc in
    λ honest. sym (c.in-Ok-Some.ensures.unsoundness (c.requires.types honest) (sym (c.requires.tables honest) ∙ rounds_find_rows (g.M.Machine.state c.args.machine.now).host)) ∙ some

pub returns-in-Ok-Some-clause-stands : goal.returns-in-Ok-Some-clause-stands
returns-in-Ok-Some-clause-stands g c =
    let h = (g.M.Machine.state c.args.machine.now).host in
    let some : ◌≡◌ {A = Option Unsound} c.in-Ok-Some.field-0 (Some c.in-Ok-Some.unsound) = cc in
    λ of. found_stands h c.requires.valid c.requires.pv c.args.types.now c.args.tables c.requires.stands c.in-Ok-Some.unsound (sym c.in-Ok-Some.ensures.first ∙ some) of
