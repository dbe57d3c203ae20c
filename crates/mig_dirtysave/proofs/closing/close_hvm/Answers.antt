use Rattle.mig_dirtysave.proofs.Common.{refl, sym, ap, subst, ◌∙◌, GuestOf, IsFormed, is_setting, emulators_kept, kept_formed, nothing_stops, no_pv, hvm_judged, hvm_closes}
use Rattle.mig_dirtysave.proofs.HvmTables.{no_table_fault}
use Rattle.std.specs.FinMap as maps
use Rattle.mig_dirtysave.proofs.closing.close_hvm.Goals as goal

pub returns-in-Err-clause-first : goal.returns-in-Err-clause-first
returns-in-Err-clause-first g c =
    let h = (g.M.Machine.state c.args.machine.now).host in
    hvm_judged h c.requires.valid c.requires.hvm c.args.tables (no_table_fault h c.requires.valid c.requires.hvm c.args.tables c.requires.stands) ∙ sym c.in-Err.ensures.first

pub returns-in-Err-clause-stops : goal.returns-in-Err-clause-stops
returns-in-Err-clause-stops g c = nothing_stops (g.K.Sink.written c.args.sink.now)

pub write_last-requires-clause-formed : goal.write_last-requires-clause-formed
write_last-requires-clause-formed g c =
    let h = (g.M.Machine.state c.args.machine.now).host in
    subst IsFormed (sym c.refresh.ensures) (kept_formed h c.requires.valid is_setting refl (no_pv h is_setting c.requires.hvm))

pub returns-clause-none : goal.returns-clause-none
returns-clause-none g c = no_table_fault (g.M.Machine.state c.args.machine.now).host c.requires.valid c.requires.hvm c.args.tables c.requires.stands

pub returns-clause-closed : goal.returns-clause-closed
returns-clause-closed g c =
    hvm_closes (g.M.Machine.state c.args.machine.now).host c.requires.valid c.requires.hvm c.in-Ok.front.now c.in-Ok.ensures.front c.refresh.new.settings _ _ c.refresh.ensures c.in_ok-write_last.ensures.closed

pub returns-clause-sound : goal.returns-clause-sound
returns-clause-sound g c =
    let h = (g.M.Machine.state c.args.machine.now).host in
    hvm_judged h c.requires.valid c.requires.hvm c.args.tables (no_table_fault h c.requires.valid c.requires.hvm c.args.tables c.requires.stands) ∙ sym c.in-Ok.ensures.first

pub returns-clause-formed : goal.returns-clause-formed
returns-clause-formed g c =
    let h = (g.M.Machine.state c.args.machine.now).host in
    subst IsFormed (sym c.refresh.ensures) (kept_formed h c.requires.valid is_setting refl (no_pv h is_setting c.requires.hvm))

pub returns-clause-emulators : goal.returns-clause-emulators
returns-clause-emulators g c =
    let h = (g.M.Machine.state c.args.machine.now).host in
    λ key code. emulators_kept h.parts key code ∙ ap (λ (k : GuestOf). maps.get k.parts key) (sym c.refresh.ensures)
