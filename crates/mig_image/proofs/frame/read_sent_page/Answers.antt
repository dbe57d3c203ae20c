use Rattle.mig_image.proofs.Common.{◌≡◌, ℕ, ◌∙◌, List, length, sym, ap, rules, Truncated, judged_as, first_named, page_causes, said_read, said_refused}
use Rattle.mig_image.proofs.frame.read_sent_page.Goals as goal

pub returns-in-Some-clause-read : goal.returns-in-Some-clause-read
unfolding judged_as
returns-in-Some-clause-read g c =
    let size : length c.take_part.new.buf ≡ 4096 = search rules in
    let page = c.take_part.new.buf in
    said_refused {X = Unit {0}} {V = Unit {0}} Truncated (λ _ part. part ≡ page) (λ _ sent. sent ≡ page) _ 4096 size (λ l. l) tt (λ l. first_named (page_causes c.args.version c.args.pfn l)) _ _ c.in-Some.cause c.in_ok-take_part.ensures.read
    (λ (bytes : List ℕ) (e : bytes ≡ page). ap (λ l. first_named (page_causes c.args.version c.args.pfn l)) e ∙ sym c.sent_fault.ensures ∙ c.in-Some.is)

pub returns-in-None-clause-read : goal.returns-in-None-clause-read
unfolding judged_as
returns-in-None-clause-read g c =
    let size : length c.take_part.new.buf ≡ 4096 = search rules in
    let page = c.take_part.new.buf in
    said_read {X = Unit {0}} {V = Unit {0}} Truncated (λ _ part. part ≡ page) (λ _ sent. sent ≡ page) _ 4096 size (λ l. l) tt (λ l. first_named (page_causes c.args.version c.args.pfn l)) _ _ tt c.in_ok-take_part.ensures.read
    (λ (bytes : List ℕ) (e : bytes ≡ page). (ap (λ l. first_named (page_causes c.args.version c.args.pfn l)) e ∙ sym c.sent_fault.ensures ∙ c.in-None.is, e))
