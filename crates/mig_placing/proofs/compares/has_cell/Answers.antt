use Rattle.mig_placing.proofs.Common.{Some, None, refl, Bool, true, false, ◌≡◌, cond, rules, ap, sym, ◌∙◌, page_in_file, is_same_page}
use Rattle.mig_placing.proofs.Compared.{none_sent, none_there, other_type, page_alike, turned}
use Rattle.mig_placing.proofs.compares.has_cell.Goals as goal

pub returns-then-not-is_of_type : goal.returns-then-not-is_of_type
returns-then-not-is_of_type g c =
    let other : c.is_of_type.result ≡ false = search rules in
    λ all told. other_type (Some all) c.args.cell c.args.kind c.is_of_type.result c.is_of_type.ensures _ other

pub returns-then-not-some : goal.returns-then-not-some
returns-then-not-some g c =
    let alike : c.is_of_type.result ≡ true = search rules in
    let none : c.args.some ≡ false = search rules in
    λ all told. page_alike (Some all) c.args.cell c.args.kind c.is_of_type.result c.is_of_type.ensures (cond c.args.some (Some c.args.page.now) None) _ alike
    (none_sent (Some all) c.args.cell.pfn _ refl ∙ ap (λ (b : Bool). is_same_page (page_in_file (Some all) c.args.cell.pfn) (cond b (Some c.args.page.now) None)) (sym none))

pub returns-then-cell-eq0 : goal.returns-then-cell-eq0
returns-then-cell-eq0 g c =
    let alike : c.is_of_type.result ≡ true = search rules in
    let some : c.args.some ≡ true = search rules in
    λ all told. page_alike (Some all) c.args.cell c.args.kind c.is_of_type.result c.is_of_type.ensures (cond c.args.some (Some c.args.page.now) None) false alike
    (none_there (Some all) c.args.cell.pfn c.args.page.now c.if-cell-eq0.true ∙ ap (λ (b : Bool). is_same_page (page_in_file (Some all) c.args.cell.pfn) (cond b (Some c.args.page.now) None)) (sym some))

pub returns : goal.returns
returns g c =
    let alike : c.is_of_type.result ≡ true = search rules in
    let some : c.args.some ≡ true = search rules in
    turned c.has_page.result _ _
    (λ same h all told. page_alike (Some all) c.args.cell c.args.kind c.is_of_type.result c.is_of_type.ensures (cond c.args.some (Some c.args.page.now) None) same alike
    (h all told ∙ ap (λ (b : Bool). is_same_page (page_in_file (Some all) c.args.cell.pfn) (cond b (Some c.args.page.now) None)) (sym some))) c.has_page.ensures
