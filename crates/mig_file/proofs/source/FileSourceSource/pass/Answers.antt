use Rattle.mig_file.proofs.Left.{passed}
use Rattle.mig_file.proofs.source.FileSourceSource.pass.Goals as goal

pub returns-clause-bytes : goal.returns-clause-bytes
returns-clause-bytes g c = passed (g.P.PageFile.bytes c.args.self.now.file.now) c.args.self.now.at c.left_of-count.result c.args.most c.has_bytes.ensures c.left_of-count.ensures.all
