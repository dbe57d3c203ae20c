use Rattle.mig_image.proofs.Common.{ap, puts_same, puts_stop, puts_then, subst, sym, HaveRoom, parts_text}
use Rattle.mig_image.proofs.Parts.{parts_of_host}
use Rattle.mig_image.proofs.Writers.{image_is}
use Rattle.mig_image.proofs.write.write_host.Goals as goal

pub returns-in_err-put_all-clause-bytes : goal.returns-in_err-put_all-clause-bytes
returns-in_err-put_all-clause-bytes g c =
    let r = c.from_residual.result in
    puts_same _ _ _ _ r (image_is c.args.host.now.host _ _ _ _ c.head_bytes.ensures c.kind.ensures c.width.ensures.value c.frames.ensures)
    (puts_stop _ _ _ _ _ _ r c.from_residual.ensures.1 c.in_err-put_all.ensures.bytes)

pub returns-in_err-write_frames-clause-bytes : goal.returns-in_err-write_frames-clause-bytes
returns-in_err-write_frames-clause-bytes g c =
    let r = c.from_residual-in_err-write_frames.result in
    puts_same _ _ _ _ r (image_is c.args.host.now.host _ _ _ _ c.head_bytes.ensures c.kind.ensures c.width.ensures.value c.frames.ensures)
    (puts_then _ _ _ _ _ r c.in_ok-put_all.ensures.bytes
    (puts_stop _ _ _ _ _ _ r c.from_residual-in_err-write_frames.ensures.1 c.in_err-write_frames.ensures.bytes))

pub write_behind-requires : goal.write_behind-requires
write_behind-requires g c = subst HaveRoom (sym c.parts.ensures.value) (parts_of_host c.args.host.now.host c.parts.ensures.valid)

pub returns-clause-bytes : goal.returns-clause-bytes
returns-clause-bytes g c =
    let r = c.write_behind.result in
    puts_same _ _ _ _ r (image_is c.args.host.now.host _ _ _ _ c.head_bytes.ensures c.kind.ensures c.width.ensures.value c.frames.ensures)
    (puts_then _ _ _ _ _ r c.in_ok-put_all.ensures.bytes (puts_then _ _ _ _ _ r c.in_ok-write_frames.ensures.bytes
    (puts_same _ _ _ _ r (ap parts_text (sym c.parts.ensures.value)) c.write_behind.ensures.bytes)))
