use Rattle.mig_image.proofs.Common.{◌≡◌, ◌+◌, ◌-◌, ◌∙◌, Some, ap, arith, drop, take}
use Rattle.mig_image.proofs.HostedFrames.{taken}
use Rattle.mig_image.proofs.hosted.page_at.Goals as goal

pub returns-clause-page : goal.returns-clause-page
returns-clause-page c = λ some.
    let pages = c.args.pages.now in let at = c.args.at in
    ap Some (taken (take (at + 4096 - at) (drop at pages)) 4096 c.unwrap.ensures c.as_array.ensures.cases ∙ ap (λ n. take n (drop at pages)) (let e : at + 4096 - at ≡ 4096 = omega arith in e))
