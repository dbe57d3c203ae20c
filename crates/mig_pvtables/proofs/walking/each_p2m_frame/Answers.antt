use Rattle.mig_pvtables.proofs.Common.{PartMap, ◌-◌, ap, ◌∙◌, arith, p2m_key, count_in, listed}
use Rattle.mig_pvtables.proofs.BlankLists.{listed_start, listed_next, listed_end}
use Rattle.std.specs.FinMap as maps
use Rattle.mig_pvtables.proofs.walking.each_p2m_frame.Goals as goal

pub loop-index-init : goal.loop-index-init
loop-index-init g c = listed_start (c.listed_count-index.ensures ∙ ap (λ (m : PartMap). count_in (maps.get m p2m_key)) c.parts.ensures)

pub write_frame-requires : goal.write_frame-requires
write_frame-requires g c = c.requires (c.loop-index.index - 1) (omega (arith, c.loop-index-test.true, c.loop-index.invariant.most))

pub loop-index-preserved-in-Some : goal.loop-index-preserved-in-Some
loop-index-preserved-in-Some g c =
    listed_next c.loop-index.invariant (c.loop-index.index - 1) (omega (arith, c.loop-index-test.true)) (c.in-Some.ensures.value ∙ ap (λ (m : PartMap). listed m (c.loop-index.index - 1)) c.parts-in-loop-index.ensures) c.write_frame.ensures

pub returns : goal.returns
returns g c = listed_end c.loop-index.invariant (omega (arith, c.loop-index-test.false))
