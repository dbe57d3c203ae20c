use Rattle.mig_placed.proofs.Common.{IsThere, List, ℕ, ◌≡◌, ◌-◌, length, IfSome, arith, subst, sym, length-take, joined_bytes}
use Rattle.mig_placed.proofs.JoinedBytes.{read_across, filled}
use Rattle.mig_placed.proofs.joined.JoinedFilesPageFile.read_at.Goals as goal

pub returns-in-Ok-read_at-clause-bytes : goal.returns-in-Ok-read_at-clause-bytes
returns-in-Ok-read_at-clause-bytes g c =
    let first = g.P.PageFile.bytes c.args.self.now.first.now in let second = g.Q.PageFile.bytes c.args.self.now.second.now in
    let inside = c.size-size.result - c.args.at in let a = c.read_at-2.new.buf in let b = c.read_at-3.new.buf in
    let size : length a ≡ inside = omega (arith, c.read_at-2.ensures.room, c.if-buf-inside.false, length-take inside c.args.buf.now) in
    subst (λ (l : List ℕ). IfSome (joined_bytes first second) (λ all. IsThere all c.args.at l)) (sym (filled inside a b c.args.buf.now size))
    (read_across first second c.size-size.result c.args.at c.size-size.ensures a b (omega (arith, c.if-size-at.false)) size c.in-Ok.ensures.bytes c.in-Ok-read_at.ensures.bytes)
