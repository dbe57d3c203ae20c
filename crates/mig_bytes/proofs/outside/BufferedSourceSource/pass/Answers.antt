use Rattle.std.proofs.Common.{arith, replicate, ◌<◌}
use Rattle.std.proofs.lemmas.List.{length-replicate}
use Rattle.std.proofs.lemmas.List.Elements.{All-replicate}
use Rattle.mig_bytes.proofs.outside.BufferedSourceSource.pass.Goals as goal

-- no bytes are told, so it is enough that there are so many
pub returns-in-Ok-clause-bytes : goal.returns-in-Ok-clause-bytes
returns-in-Ok-clause-bytes g c = let n = c.min-count.result in ((replicate n 0, All-replicate (λ b. b < 256) n 0 (omega arith), length-replicate n 0, tt), λ none some. tt)
