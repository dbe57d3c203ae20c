use Rattle.mig_records_pages.proofs.Common.{arith}
use Rattle.mig_records_pages.proofs.Written.{record_joins}
use Rattle.mig_records_pages.proofs.stream.write_plain.Goals as goal

pub returns-clause-joins : goal.returns-clause-joins
returns-clause-joins g c =
    record_joins (c.args.kind, c.args.body.now) _ _ c.write_record.result (record { short = record { type = omega (arith, c.ranges.kind.fits); len = c.requires.short }; no_end = c.requires.no_end })
    c.write_record.ensures.bytes
