use Rattle.mig_pagestore.proofs.Common.{IsSome, is_some, sym, ap, ◌∙◌, frame_page}
use Rattle.std.specs.FinMap as map
use Rattle.mig_pagestore.specs.Pages.{Store}
use Rattle.mig_pagestore.specs.Lending.{with_stored_page}
use Rattle.mig_pagestore.proofs.Loans.{same_loan_if}
use Rattle.mig_pagestore.proofs.PagesSeen.{pages_lent, lent_seen, page_seen, some_lent}
use Rattle.mig_pagestore.proofs.page_store.PageStore.lend.Goals as goal

pub invariant_of-self-lent : goal.invariant_of-self-lent
invariant_of-self-lent c = λ r. (pages_lent _ c.self.invariant c.args.pfn, c.self.invariant)

pub returns : goal.returns
returns c =
    let pfn = c.args.pfn in (
      same_loan_if c.lend.result _ _ _ _ (λ some w.
          let there : IsSome (frame_page c.self.inside.frames.frames pfn) = ap is_some (sym c.lend.ensures.value) ∙ some_lent c.lend.result ∙ some in
          (λ i. record { pages = lent_seen _ c.self.invariant pfn w there i; spare = c.self.inside.frames.spare }) ∙ ap (λ (s : Store). with_stored_page s pfn w) c.self.view_is) c.self.view_is,
      record { writes_back = tt; value = c.lend.ensures.value ∙ sym (page_seen _ c.self.invariant pfn) ∙ ap (λ (s : Store). map.get s.pages pfn) c.self.view_is },
    )
