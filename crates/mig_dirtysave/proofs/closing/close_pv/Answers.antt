use Rattle.mig_dirtysave.proofs.Common.{sym, ap, ◌∙◌, GuestOf, view, emulators_kept, emulators_seen, nothing_stops, on_err, pv_closes}
use Rattle.mig_dirtysave.proofs.Looked.{min_reaches, types_below}
use Rattle.std.specs.FinMap as maps
use Rattle.mig_dirtysave.proofs.closing.close_pv.Goals as goal

pub settle-requires-clause-types : goal.settle-requires-clause-types
settle-requires-clause-types g c =
    let h = (g.M.Machine.state c.args.machine.now).host in
    λ honest. types_below h c.requires.valid c.args.types.now c.min-count.result (min_reaches _ _ h.width c.min-count.result c.requires.marks c.min-count.ensures) (c.requires.types honest)

pub returns-in_err-settle-clause-stops : goal.returns-in_err-settle-clause-stops
returns-in_err-settle-clause-stops g c = on_err _ c.from_residual.result (nothing_stops (g.K.Sink.written c.args.sink.now))

pub returns-clause-closed : goal.returns-clause-closed
returns-clause-closed g c =
    pv_closes (g.M.Machine.state c.args.machine.now).host c.requires.pv c.settle.new.settings _ _ c.in_ok-settle.ensures.formed c.in_ok-settle.ensures.seen c.in_ok-write_pv_last.ensures.closed

pub returns-clause-emulators : goal.returns-clause-emulators
returns-clause-emulators g c =
    let h = (g.M.Machine.state c.args.machine.now).host in
    λ key code. sym (emulators_seen h key code) ∙ emulators_kept (view h).parts key code ∙ ap (λ (k : GuestOf). maps.get k.parts key) (sym c.in_ok-settle.ensures.seen)
