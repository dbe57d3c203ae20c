use Rattle.std.proofs.Common.{ap, cond, is_some, sym, true, ◌∙◌, ◌≡◌}
use Rattle.std.proofs.lemmas.Result.{on_ok_weaker}
use Rattle.std.specs.FinMap as maps
use Rattle.mig_guest.proofs.KeyedMaps.{is_some-mapped}
use Rattle.mig_guest.specs.Frames.{FrameOf}
use Rattle.mig_guest.specs.Guests.{GuestOf}
use Rattle.mig_localised.specs.Over.{zeroed_frame}
use Rattle.mig_pvtables.specs.Blank.{zero_page}
use Rattle.mig_localised.proofs.localising.seat.Goals as goal

pub returns-in-Some : goal.returns-in-Some
unfolding zero_page
returns-in-Some c =
    let old : GuestOf = c.args.outline.now in
    let there : is_some (maps.get old.frames c.args.pfn) ≡ true = sym (is_some-mapped (λ (f : FrameOf). f.type) (maps.get old.frames c.args.pfn)) ∙ ap is_some (sym c.frame.ensures ∙ c.in-Some.is) in
    on_ok_weaker c.set_frame.result (λ is. is ∙ sym (ap (λ b. cond b (record old { frames = maps.insert old.frames c.args.pfn zeroed_frame }) old) there)) c.set_frame.ensures.ok

pub returns-in-None : goal.returns-in-None
returns-in-None c =
    let old : GuestOf = c.args.outline.now in
    sym (ap (λ b. cond b (record old { frames = maps.insert old.frames c.args.pfn zeroed_frame }) old) (sym (is_some-mapped (λ (f : FrameOf). f.type) (maps.get old.frames c.args.pfn)) ∙ ap is_some (sym c.frame.ensures ∙ c.in-None.is)))
