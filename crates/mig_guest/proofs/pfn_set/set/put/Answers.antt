use Rattle.mig_guest.proofs.Common.{◌∙◌, sym, ap, pfns_of_words, put_pfn}
use Rattle.mig_guest.proofs.Changed.{put_is_with}
use Rattle.mig_guest.proofs.pfn_set.set.put.Goals as goal

pub returns-then-inside : goal.returns-then-inside
returns-then-inside c =
    c.insert.ensures ∙ sym (put_is_with c.args.pfn (pfns_of_words c.args.words.now)) ∙ sym (ap (λ b. put_pfn c.args.pfn b (pfns_of_words c.args.words.now)) c.if-inside.true)
