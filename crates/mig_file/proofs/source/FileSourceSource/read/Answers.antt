use Rattle.std.proofs.Common.{rules, drop}
use Rattle.mig_file.proofs.Left.{none_read, read_on}
use Rattle.mig_file.proofs.source.FileSourceSource.read.Goals as goal

pub returns-clause-bytes : goal.returns-clause-bytes
returns-clause-bytes g c = read_on (g.P.PageFile.bytes c.args.self.now.file.now) c.args.self.now.at c.left_of-count.result c.read_at.new.buf (drop c.left_of-count.result c.args.buf.now) (search rules) (search rules) (search rules)

pub returns-then-count-eq0-clause-bytes : goal.returns-then-count-eq0-clause-bytes
returns-then-count-eq0-clause-bytes g c = none_read (g.P.PageFile.bytes c.args.self.now.file.now) c.args.self.now.at c.left_of-count.result c.args.buf.now (search rules) (search rules)
