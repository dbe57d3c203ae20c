use Rattle.mig_dirtysave_rounds.proofs.Common.{sym, ◌∙◌, refl, subst, found_as, frame_sent, NamesWithin}
use Rattle.mig_dirtysave_rounds.proofs.Peeks.{raw_there, shown_there, gone_there, can_be_told, no_frame_told, plain_within, type_there, many_calls, reads_peek, reads_table, if_ok_three}
use Rattle.mig_dirtysave_rounds.proofs.Shapes.{stays_on, ran_stays}
use Rattle.mig_dirtysave_rounds.proofs.Strays.{strays_none, strays_peek, strays_looks}
use Rattle.mig_dirtysave_rounds.specs.declared.found.Found.TheVariants as Found
use Rattle.mig_dirtysave_rounds.proofs.step.read_one.Goals as goal

pub read_table-requires-clause-raw : goal.read_table-requires-clause-raw
read_table-requires-clause-raw g c =
    raw_there _ _ _ _ _ _ c.peek.ensures.valid (sym c.table_level.ensures ∙ c.in-Some.is) (sym c.in-Ok-Frame.field-0-is ∙ c.in-Ok-Frame.ensures.seen) c.in-Ok-Frame.ensures.page

pub returns-in-Ok-Absent-clause-reads : goal.returns-in-Ok-Absent-clause-reads
returns-in-Ok-Absent-clause-reads g c = reads_peek _ _ _ _ c.in-Ok-Absent.ensures.ok no_frame_told (gone_there _ _ (sym c.in-Ok-Absent.field-0-is ∙ c.in-Ok-Absent.ensures.seen))

pub returns-in-None-clause-reads : goal.returns-in-None-clause-reads
returns-in-None-clause-reads g c =
    let seen = sym c.in-Ok-Frame.field-0-is ∙ c.in-Ok-Frame.ensures.seen in
    let of = type_there _ _ _ _ _ _ c.peek.ensures.valid c.in-Ok-Frame.ensures.ok.ran.shape.kind seen c.in-Ok-Frame.ensures.page in
    reads_peek _ _ _ _ c.in-Ok-Frame.ensures.ok (can_be_told _ _ _ (Found.Shows c.in-Ok-Frame.kind) c.peek.new.page c.peek.array_long of refl (plain_within _ _ _ (sym c.table_level.ensures ∙ c.in-None.is)))
    (shown_there _ _ _ _ _ c.peek.ensures.valid (sym c.table_level.ensures ∙ c.in-None.is) seen c.in-Ok-Frame.ensures.page)

pub returns-in-Some-clause-reads : goal.returns-in-Some-clause-reads
returns-in-Some-clause-reads g c =
    let seen = sym c.in-Ok-Frame.field-0-is ∙ c.in-Ok-Frame.ensures.seen in
    let of = type_there _ _ _ _ _ _ c.peek.ensures.valid c.in-Ok-Frame.ensures.ok.ran.shape.kind seen c.in-Ok-Frame.ensures.page in
    let many = many_calls _ _ _ _ _ _ c.peek.ensures.valid (sym c.table_level.ensures ∙ c.in-Some.is) seen c.in-Ok-Frame.ensures.page in
    let width = c.read_table.ensures.looks.ran.shape.width ∙ c.in-Ok-Frame.ensures.ok.ran.shape.width in
    if_ok_three c.read_table.result
    (λ found right shows within. reads_table _ _ _ _ _ c.in-Ok-Frame.ensures.ok c.read_table.ensures.looks many
    (can_be_told _ _ _ found c.read_table.new.page c.read_table.array_long of shows (subst (λ w. NamesWithin w (frame_sent (found_as found c.read_table.new.page))) width within)) right)
    c.read_table.ensures.right c.read_table.ensures.shows c.read_table.ensures.within

pub returns-in-Err-clause-asked : goal.returns-in-Err-clause-asked
returns-in-Err-clause-asked g c = strays_none _ _ _ c.in-Err.ensures.err.history

pub returns-in-Ok-Absent-clause-asked : goal.returns-in-Ok-Absent-clause-asked
returns-in-Ok-Absent-clause-asked g c = strays_peek _ _ _ c.in-Ok-Absent.ensures.ok

pub returns-in-None-clause-asked : goal.returns-in-None-clause-asked
returns-in-None-clause-asked g c = strays_peek _ _ _ c.in-Ok-Frame.ensures.ok

pub returns-in-Some-clause-asked : goal.returns-in-Some-clause-asked
returns-in-Some-clause-asked g c = strays_looks _ _ _ _ _ (strays_peek _ _ _ c.in-Ok-Frame.ensures.ok) c.read_table.ensures.looks

pub returns-in-Err-clause-kept : goal.returns-in-Err-clause-kept
returns-in-Err-clause-kept g c = ran_stays _ _ _ c.in-Err.ensures.err.ran

pub returns-in-Ok-Absent-clause-kept : goal.returns-in-Ok-Absent-clause-kept
returns-in-Ok-Absent-clause-kept g c = ran_stays _ _ _ c.in-Ok-Absent.ensures.ok.ran

pub returns-in-None-clause-kept : goal.returns-in-None-clause-kept
returns-in-None-clause-kept g c = ran_stays _ _ _ c.in-Ok-Frame.ensures.ok.ran

pub returns-in-Some-clause-kept : goal.returns-in-Some-clause-kept
returns-in-Some-clause-kept g c = stays_on _ _ _ (ran_stays _ _ _ c.in-Ok-Frame.ensures.ok.ran) (ran_stays _ _ _ c.read_table.ensures.looks.ran)
