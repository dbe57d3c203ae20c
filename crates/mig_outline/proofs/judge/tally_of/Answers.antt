use Rattle.mig_restore.proofs.Common.{sym, ap, ◌∙◌, GuestOf, sent_kind, some_differs}
use Rattle.mig_outline.proofs.Outline.{frames_len}
use Rattle.mig_outline.proofs.judge.tally_of.Goals as goal

pub returns : goal.returns
returns c = λ image taken. record {
  version = taken.version;
  kind = c.kind.ensures ∙ ap (λ (g : GuestOf). g.kind) taken.guest ∙ sent_kind image.opening.kind image.records;
  frames = frames_len c.args.taken.now.guest image.opening.kind image.records _ taken.guest c.frames.ensures.count;
  records = taken.records;
  verified = c.is_some.ensures ∙ taken.verified ∙ sym (some_differs image.opening.kind image.records);
}
