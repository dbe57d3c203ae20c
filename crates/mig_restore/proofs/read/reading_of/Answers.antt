use Rattle.mig_restore.proofs.Common.{◌≡◌, Result, Ok, refl, sym, subst, ◌∙◌, AgreesWithJudging, IsBegun, IsReading, IsTakenAndCompared, TakenImage, meant_as_sent, weakened}
use Rattle.std.specs.Prelude.{IfOk}
use Rattle.mig_restore.specs.Kept.{IsOfFaultless}
use Rattle.mig_pvtables.specs.Whole.{IsStreamedBare}
use Rattle.mig_pvtables.proofs.BlankAgain.{blank_again}
use Rattle.mig_pvtables.proofs.BlankBytesKept.{blank_bytes}
use Rattle.mig_pvtables.proofs.BlankWhole.{whole_blank, blank_plain}
use Rattle.mig_restore.proofs.read.reading_of.Goals as goal

-- what holds of an answer that is there
there : {E : Type 0} (P : TakenImage → Type 0) (r : Result TakenImage E) (image : TakenImage) → r ≡ Ok image → IfOk r P → P image
there P r image is = subst (λ o. IfOk o P) is

pub blank-requires : goal.blank-requires
blank-requires c = record {
  formed = (there (λ image. IsBegun image.guest) _ _ c.in-Ok.is c.requires.begun).formed;
  faultless = there (λ image. IsOfFaultless (λ frames. frames) image.guest) _ _ c.in-Ok.is c.requires.faultless c.in-Ok.image.guest refl;
}

pub returns-in-Ok-clause-read : goal.returns-in-Ok-clause-read
returns-in-Ok-clause-read c = λ before after judging given.
    weakened (IsTakenAndCompared (λ frames. frames)) IsReading before after judging c.in-Ok.image _
    (λ image both. let taken = both.is in
    record {
      guest = c.blank.ensures ∙ meant_as_sent c.in-Ok.image.guest image.opening.kind image.records taken.guest;
      version = taken.version;
      records = taken.records;
      differs = both.differs;
    }) (subst (λ r. AgreesWithJudging (IsTakenAndCompared (λ frames. frames)) before after judging r) c.in-Ok.is given)

pub returns-in-Ok-clause-streamed : goal.returns-in-Ok-clause-streamed
returns-in-Ok-clause-streamed c =
    let read = c.in-Ok.image.guest in
    let begun = there (λ image. IsBegun image.guest) _ _ c.in-Ok.is c.requires.begun in
    let fine = there (λ image. IsOfFaultless (λ frames. frames) image.guest) _ _ c.in-Ok.is c.requires.faultless c.in-Ok.image.guest refl in
    subst IsStreamedBare (sym c.blank.ensures) (record {
      whole = whole_blank read (record { formed = begun.formed; faultless = fine });
      blank = blank_again read;
      bytes = blank_bytes read begun.bytes;
      plain = blank_plain read begun.plain;
    })
