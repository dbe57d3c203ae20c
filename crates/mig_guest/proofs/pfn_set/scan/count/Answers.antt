use Rattle.mig_guest.proofs.Common.{arith, ◌≡◌, ◌*◌, ◌∙◌, ap, get_or, length, ones-le, pfns_of_words, size}
use Rattle.mig_guest.proofs.Sizes.{size-le, same_width}
use Rattle.mig_guest.proofs.MemberCounts.{word_counted}
use Rattle.mig_guest.proofs.Scans.{words_below}
use Rattle.mig_guest.proofs.pfn_set.scan.count.Goals as goal

pub overflow_add-members : goal.overflow_add-members
overflow_add-members c =
    let word = get_or c.args.words.now c.loop-index.index 0 in
    let few = ones-le 64 word ((c.type_inv.words c.loop-index.index).fits) in
    omega (arith, c.loop-index.invariant, size-le (pfns_of_words c.args.words.now) (64 * c.loop-index.index), few)

pub loop-index-preserved : goal.loop-index-preserved
loop-index-preserved c = omega (arith, c.loop-index.invariant, word_counted c.args.words.now c.loop-index.index ((c.type_inv.words c.loop-index.index).fits))

pub returns : goal.returns
returns c = λ width below.
    c.loop-index.invariant ∙ ap (λ n. size (64 * n) (pfns_of_words c.args.words.now)) (let e : c.loop-index.index ≡ length c.args.words.now = omega arith in e)
    ∙ same_width (pfns_of_words c.args.words.now) (64 * length c.args.words.now) width (words_below c.args.words.now) below
