use Rattle.mig_tool_guest.proofs.Placed.{told_bytes_of}
use Rattle.mig_tool_guest.proofs.WalkedFiles.{placed_frame}
use Rattle.mig_tool_guest.proofs.addresses.frame_in_file.Goals as goal

pub returns-in-Ok-clause-found : goal.returns-in-Ok-clause-found
returns-in-Ok-clause-found g c =
    placed_frame g.P.PageFile.bytes c.in-Ok.placed c.args.vcpu c.args.address c.frame_in_placed.result c.frame_in_placed.ensures.frame c.frame_in_placed.ensures.none _ _
    (told_bytes_of g.P.PageFile.bytes c.args.input.now c.file.result.now c.file.ensures c.has_bytes.ensures) c.in-Ok.ensures.read
