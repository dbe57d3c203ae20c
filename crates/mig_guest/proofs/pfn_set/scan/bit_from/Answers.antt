use Rattle.mig_guest.proofs.Common.{arith}
use Rattle.mig_guest.proofs.Scans.{no_bit_from, bit_set, bit_inside, bits_before}
use Rattle.mig_guest.proofs.pfn_set.scan.bit_from.Goals as goal

pub returns-then-rest-eq0-clause-none : goal.returns-then-rest-eq0-clause-none
returns-then-rest-eq0-clause-none c = no_bit_from c.args.word c.args.from c.if-rest-eq0.true

pub returns-clause-inside : goal.returns-clause-inside
returns-clause-inside c = (omega arith, bit_inside c.args.word c.args.from c.ranges.word.fits (omega arith))

pub returns-clause-found : goal.returns-clause-found
returns-clause-found c = bit_set c.args.word c.args.from c.ranges.word.fits (omega arith)

pub returns-clause-least : goal.returns-clause-least
returns-clause-least c = bits_before c.args.word c.args.from c.ranges.word.fits (omega arith)
