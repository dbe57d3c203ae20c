use Rattle.mig_placed.proofs.JoinedBytes.{both_bytes}
use Rattle.mig_placed.proofs.joined.JoinedFilesPageFile.has_bytes.Goals as goal

pub returns : goal.returns
returns g c = both_bytes (g.P.PageFile.bytes c.args.self.now.first.now) (g.Q.PageFile.bytes c.args.self.now.second.now) c.has_bytes.ensures c.has_bytes-2.ensures
