use Rattle.mig_guest.proofs.Common.{is_some, sym, ap, ◌∙◌, refl, option_map, PartKey, PartMap, parts_seen}
use Rattle.std.specs.BTreeMap as tree
use Rattle.std.specs.FinMap as maps
use Rattle.mig_guest.specs.Lending.{Bytes}
use Rattle.mig_guest.proofs.PartMaps.{got, is_some_lent, put_seen}
use Rattle.mig_pagestore.proofs.Loans.{same_loan_if}
use Rattle.mig_guest.proofs.parts.Parts.lend.Goals as goal

pub returns : goal.returns
returns c =
    let es = c.self.inside.parts.entries in let m = c.args.self.now in let key = c.args.key in (
      same_loan_if c.get_mut.result _ _ _ _
          (λ there w.
          put_seen es (c.get_mut.follows.lender w).entries key w w.items refl ((c.get_mut.follows.holds w).3 (ap is_some (sym c.get_mut.ensures.value) ∙ is_some_lent c.get_mut.result ∙ there)).0
          ∙ ap (λ (n : PartMap). maps.insert n key w.items) c.self.view_is)
          (ap (λ (t : tree.BTreeMap PartKey Bytes). parts_seen t.entries) c.get_mut.follows.holds-at-none ∙ c.self.view_is),
      record { writes_back = tt; value = ap (option_map (λ (v : Bytes). v.items)) c.get_mut.ensures.value ∙ sym (got es m c.self.view_is key) },
    )
