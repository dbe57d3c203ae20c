use Rattle.mig_image.proofs.Common.{◌≡◌, length, ◌∙◌, ◌+◌, Some, None, sym, ap, subst, rules, takes_more, type_has_data, ℕ, List, first_stops, frame_head_form, EndsAt}
use Rattle.mig_image.proofs.Frames.{behind_frame_head}
use Rattle.mig_image.proofs.Readers.{frame_reads, page_reads, page_stops, ends_more, is_unused, is_frame, said_is, sized, unsized}
use Rattle.mig_image.proofs.frame.read_frame.Goals as goal

pub returns-in_err-head-clause-read : goal.returns-in_err-head-clause-read
returns-in_err-head-clause-read g c =
    first_stops {V = List ℕ} (λ v head. head ≡ v) _ (frame_head_form c.args.version c.args.host.now.host) (behind_frame_head c.args.version c.args.host.now.host) _ _ c.in_err-head.field-0.0 c.from_residual.result (search rules) c.in_err-head.ensures.read

pub add_frame-requires-clause-is : goal.add_frame-requires-clause-is
add_frame-requires-clause-is g c =
    is_frame c.args.version c.args.host.now.host c.in_ok-head.head c.in_ok-head.ensures.fine c.pfn_of-pfn.result c.u64_le-machine.result c.kind_of-kind.result None c.pfn_of-pfn.ensures.value c.u64_le-machine.ensures c.kind_of-kind.ensures
    (sym c.if-not-has_data.true ∙ c.has_data.ensures) unsized

pub add_frame-requires-clause-unused : goal.add_frame-requires-clause-unused
add_frame-requires-clause-unused g c = is_unused c.args.version c.args.host.now.host c.in_ok-head.head c.in_ok-head.ensures.fine c.u64_le-machine.result c.u64_le-machine.ensures

pub returns-in-Ok-clause-read : goal.returns-in-Ok-clause-read
returns-in-Ok-clause-read g c =
    frame_reads c.args.version c.args.host.now.host _ _ _ c.in_ok-head.head c.in_ok-head.ensures.read c.kind_of-kind.result c.kind_of-kind.ensures _ (sym c.has_data.ensures ∙ c.if-not-has_data.true)
    (c.in-Ok.ensures.ok ∙ said_is c.args.version c.args.host.now.host c.in_ok-head.head c.pfn_of-pfn.result c.u64_le-machine.result c.kind_of-kind.result None c.pfn_of-pfn.ensures.value c.u64_le-machine.ensures c.kind_of-kind.ensures)

pub read_page-requires-clause-some : goal.read_page-requires-clause-some
read_page-requires-clause-some g c = ap type_has_data (sym c.kind_of-kind.ensures) ∙ sym c.has_data.ensures ∙ c.if-not-has_data.false

pub returns-in_err-read_page-clause-read : goal.returns-in_err-read_page-clause-read
returns-in_err-read_page-clause-read g c =
    page_stops c.args.version c.args.host.now.host _ _ _ c.in_ok-head.head c.in_ok-head.ensures.read _ _ c.in_err-read_page.field-0.0 c.from_residual-in_err-read_page.result (search rules) c.in_err-read_page.ensures.read

pub add_frame-requires-2-clause-is : goal.add_frame-requires-2-clause-is
add_frame-requires-2-clause-is g c =
    let size : length c.read_page.new.page ≡ 4096 = search rules in
    is_frame c.args.version c.args.host.now.host c.in_ok-head.head c.in_ok-head.ensures.fine c.pfn_of-pfn.result c.u64_le-machine.result c.kind_of-kind.result (Some c.read_page.new.page) c.pfn_of-pfn.ensures.value c.u64_le-machine.ensures c.kind_of-kind.ensures
    (sym c.if-not-has_data.false ∙ c.has_data.ensures) (sized c.read_page.new.page size)

pub add_frame-requires-2-clause-unused : goal.add_frame-requires-2-clause-unused
add_frame-requires-2-clause-unused g c = is_unused c.args.version c.args.host.now.host c.in_ok-head.head c.in_ok-head.ensures.fine c.u64_le-machine.result c.u64_le-machine.ensures

pub returns-in-Ok-add_frame-clause-read : goal.returns-in-Ok-add_frame-clause-read
returns-in-Ok-add_frame-clause-read g c =
    page_reads c.args.version c.args.host.now.host _ _ _ c.in_ok-head.head c.in_ok-head.ensures.read _ c.read_page.new.page _ c.in_ok-read_page.ensures.read
    (c.in-Ok-add_frame.ensures.ok ∙ said_is c.args.version c.args.host.now.host c.in_ok-head.head c.pfn_of-pfn.result c.u64_le-machine.result c.kind_of-kind.result (Some c.read_page.new.page) c.pfn_of-pfn.ensures.value c.u64_le-machine.ensures c.kind_of-kind.ensures)

pub returns-in-Ok-add_frame-clause-taken : goal.returns-in-Ok-add_frame-clause-taken
returns-in-Ok-add_frame-clause-taken g c = takes_more _ _ _ c.in_ok-head.ensures.taken c.in_ok-read_page.ensures.taken

pub returns-in-Ok-clause-ends : goal.returns-in-Ok-clause-ends
returns-in-Ok-clause-ends g c =
    subst (λ h. EndsAt h (c.pfn_of-pfn.result + 1)) (sym c.in-Ok.ensures.ok) (ends_more c.args.version c.args.host.now.host c.in_ok-head.head c.in_ok-head.ensures.fine _ c.pfn_of-pfn.result c.pfn_of-pfn.ensures.value)

pub returns-in-Ok-add_frame-clause-ends : goal.returns-in-Ok-add_frame-clause-ends
returns-in-Ok-add_frame-clause-ends g c =
    subst (λ h. EndsAt h (c.pfn_of-pfn.result + 1)) (sym c.in-Ok-add_frame.ensures.ok) (ends_more c.args.version c.args.host.now.host c.in_ok-head.head c.in_ok-head.ensures.fine _ c.pfn_of-pfn.result c.pfn_of-pfn.ensures.value)
