use Rattle.mig_host.proofs.Common.{is_some-mapped, ℕ, List, refl, sym, ◌∙◌, option_copied, HostFrame, ap, nat_cmp_total, nat_cmp-IsAntisymmetric, Bor}
use Rattle.mig_host.proofs.Copies.{copy_end}
use Rattle.mig_host.proofs.SeenBytes.{frame_set_bytes}
use Rattle.mig_host.proofs.SeenGuests.{frames_start, frame_paged, frames_next, bare, other_frames}
use Rattle.mig_host.proofs.seeing.copy_frames.Goals as goal

pub loop-pfn-init : goal.loop-pfn-init
loop-pfn-init c = record { others = refl; copied = frames_start c.args.host.now.host c.args.guest.now.frames c.requires.none; bytes = c.requires.bytes }

pub set_frame-requires-clause-paged : goal.set_frame-requires-clause-paged
set_frame-requires-clause-paged c =
    let e : ℕ × HostFrame = (c.in-Some.pfn, record { type = c.in-Some.kind; machine = c.in-Some.field-0-2; page = option_copied c.in-Some.page }) in
    sym (is_some-mapped (λ (x : Bor (List ℕ)). x.now) c.in-Some.page) ∙ frame_paged c.args.host.now.host c.requires.valid c.loop-pfn.guest c.loop-pfn.from c.loop-pfn.invariant.copied e c.in-Some.ensures.next

pub loop-pfn-preserved : goal.loop-pfn-preserved
loop-pfn-preserved c =
    let e : ℕ × HostFrame = (c.in-Some.pfn, record { type = c.in-Some.kind; machine = c.in-Some.field-0-2; page = option_copied c.in-Some.page }) in record {
      others = other_frames c.args.guest.now c.loop-pfn.guest c.set_frame.new.self _ c.loop-pfn.invariant.others c.in_ok-set_frame.ensures.ok;
      copied = frames_next c.args.host.now.host c.requires.valid c.loop-pfn.guest c.loop-pfn.from c.loop-pfn.invariant.copied e c.in-Some.ensures.next c.set_frame.new.self c.in_ok-set_frame.ensures.ok;
      bytes = frame_set_bytes c.loop-pfn.guest c.set_frame.new.self c.in-Some.pfn c.in-Some.kind (option_copied c.in-Some.page) c.loop-pfn.invariant.bytes c.page_is_of_bytes.ensures c.in_ok-set_frame.ensures.ok;
    }

pub returns-clause-frames : goal.returns-clause-frames
returns-clause-frames c =
    c.loop-pfn.invariant.others ∙ ap (λ m. record c.args.guest.now { frames = m })
    (copy_end nat_cmp_total nat_cmp-IsAntisymmetric bare c.args.host.now.host.frames c.loop-pfn.guest.frames _ c.loop-pfn.invariant.copied c.in_default.ensures.next)
