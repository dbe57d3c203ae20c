use Rattle.mig_records_pages.proofs.Common.{◌≡◌, [], sym, ap, ◌∙◌, length, arith, take-append-le, take_all, length-take}
use Rattle.std.specs.Option.{option_copied, unwrap_or}
use Rattle.mig_records_pages.proofs.gathered.put_page.Goals as goal

pub returns-in-Some-clause-bytes : goal.returns-in-Some-clause-bytes
returns-in-Some-clause-bytes c =
    let put = c.copy_from_slice.new.self in
    let size : length put ≡ 4096 = omega (arith, c.copy_from_slice.ensures.len, length-take 4096 c.args.buffer.now, c.requires.room) in
    take-append-le 4096 put _ (omega (arith, size)) ∙ take_all 4096 put (omega (arith, size)) ∙ c.copy_from_slice.ensures.after
    ∙ ap (λ page. unwrap_or (option_copied page) []) (sym c.in-Some.is)
