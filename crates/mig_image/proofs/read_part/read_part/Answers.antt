use Rattle.mig_image.proofs.Common.{◌∙◌, ap, sym, subst, rules, takes_more, HostOf, head_key, put_part_in, Counts, ◌≡◌, ℕ, List, first_stops, part_head_form}
use Rattle.mig_image.proofs.Readers.{bytes_stop, padding_stop, part_reads}
use Rattle.mig_image.proofs.Parts.{behind_part_head, is_behind, counts_more}
use Rattle.mig_image.proofs.read_part.read_part.Goals as goal

pub returns-in_err-head-clause-read : goal.returns-in_err-head-clause-read
returns-in_err-head-clause-read g c =
    first_stops {V = List ℕ} (λ v head. head ≡ v) _ (part_head_form c.args.host.now.host) (behind_part_head c.args.host.now.host) _ _ c.in_err-head.field-0.0 c.from_residual.result (search rules) c.in_err-head.ensures.read

pub returns-in_err-bytes-clause-read : goal.returns-in_err-bytes-clause-read
returns-in_err-bytes-clause-read g c =
    bytes_stop c.args.host.now.host (λ v. v.items) _ _ _ c.in_ok-head.head c.in_ok-head.ensures.read _ _ (ap (λ k. k.code) c.key_of-key.ensures) c.u32_le-len.ensures _ c.in_err-bytes.field-0.0 c.from_residual-in_err-bytes.result (search rules) c.in_err-bytes.ensures.read

pub returns-in_err-read_padding-clause-read : goal.returns-in_err-read_padding-clause-read
returns-in_err-read_padding-clause-read g c =
    padding_stop c.args.host.now.host (λ v. v.items) _ _ _ c.in_ok-head.head c.in_ok-head.ensures.read _ _ (ap (λ k. k.code) c.key_of-key.ensures) c.u32_le-len.ensures _ _ _ c.in_ok-bytes.bytes c.in_ok-bytes.ensures.read c.in_err-read_padding.field-0.0 c.from_residual-in_err-read_padding.result (search rules) c.in_err-read_padding.ensures.read

pub returns-in-Ok-clause-read : goal.returns-in-Ok-clause-read
returns-in-Ok-clause-read g c =
    part_reads c.args.host.now.host (λ v. v.items) _ _ _ c.in_ok-head.head c.in_ok-head.ensures.read _ _ (ap (λ k. k.code) c.key_of-key.ensures) c.u32_le-len.ensures _ _ _ c.in_ok-bytes.bytes c.in_ok-bytes.ensures.read tt tt c.in_ok-read_padding.ensures.read
    (c.in-Ok.ensures.ok ∙ ap (λ k. put_part_in c.args.host.now.host k c.deref.result.now) c.key_of-key.ensures ∙ ap (put_part_in c.args.host.now.host (head_key c.in_ok-head.head)) c.deref.ensures.value)

pub returns-in-Ok-clause-counted : goal.returns-in-Ok-clause-counted
returns-in-Ok-clause-counted g c =
    subst (Counts c.count.new.self) (sym (ap (λ (h : HostOf). h.parts) c.in-Ok.ensures.ok))
    (counts_more c.args.host.now.host.parts c.key_of-key.result c.deref.result.now (is_behind c.args.host.now.host c.in_ok-head.head c.in_ok-head.ensures.fine c.key_of-key.result c.key_of-key.ensures)
    c.args.entries.now c.count.new.self c.requires c.count.ensures.leaves c.count.ensures.msrs)

pub returns-in-Ok-clause-taken : goal.returns-in-Ok-clause-taken
returns-in-Ok-clause-taken g c = takes_more _ _ _ (takes_more _ _ _ c.in_ok-head.ensures.taken c.in_ok-bytes.ensures.taken) c.in_ok-read_padding.ensures.taken
