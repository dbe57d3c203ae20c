use Rattle.mig_show.proofs.Common.{false, Seen1}
use Rattle.mig_show.proofs.Texts.{record_on}
use Rattle.mig_show.proofs.line.put_records.Goals as goal

pub loop-place-preserved : goal.loop-place-preserved
loop-place-preserved c =
    let d : Seen1 = record { wrapped = false; kind = 0; len = 0; words = 0; pages = 0 } in
    record_on c.args.list.now c.loop-place.place d _ _ _ c.loop-place-test.true c.loop-place.invariant (c.in_ok-put_place.ensures d)
