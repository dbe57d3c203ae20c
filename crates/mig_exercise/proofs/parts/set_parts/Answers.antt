use Rattle.mig_exercise.proofs.Common.{◌∙◌, arith}
use Rattle.std.proofs.lemmas.Result.{on_ok_weaker}
use Rattle.mig_exercise.proofs.LongPages.{zeros}
use Rattle.mig_exercise.proofs.PartsSet.{all_parts_set, context_fits, fits_policy, no_parts_yet, one_part_more, p2m_fits, shared_fits}
use Rattle.mig_exercise.proofs.parts.set_parts.Goals as goal

pub set_part-requires : goal.set_part-requires
set_part-requires c =
    let n = c.args.frames in let h = c.args.host.now.host in
    let none = no_parts_yet n h c.requires.kind c.requires.width c.requires.none in
    record {
      is = p2m_fits n 0 h none c.deref.result.now (c.deref.ensures.value ∙ c.in_ok-list.ensures);
      leaves = fits_policy n 0 h none _ _ 17 (omega arith);
      msrs = fits_policy n 0 h none _ _ 18 (omega arith);
    }

pub set_part-requires-2 : goal.set_part-requires-2
set_part-requires-2 c =
    let n = c.args.frames in let h = c.args.host.now.host in
    let none = no_parts_yet n h c.requires.kind c.requires.width c.requires.none in
    let one = one_part_more n 0 h none _ _ c.set_part.new.self.host c.in_ok-set_part.ensures.ok in
    record {
      is = shared_fits n 1 c.set_part.new.self.host one _ (zeros 512);
      leaves = fits_policy n 1 c.set_part.new.self.host one _ _ 17 (omega arith);
      msrs = fits_policy n 1 c.set_part.new.self.host one _ _ 18 (omega arith);
    }

pub set_part-requires-3 : goal.set_part-requires-3
set_part-requires-3 c =
    let n = c.args.frames in let h = c.args.host.now.host in
    let none = no_parts_yet n h c.requires.kind c.requires.width c.requires.none in
    let one = one_part_more n 0 h none _ _ c.set_part.new.self.host c.in_ok-set_part.ensures.ok in
    let two = one_part_more n 1 c.set_part.new.self.host one _ _ c.set_part-2.new.self.host c.in_ok-set_part-2.ensures.ok in
    record {
      is = context_fits n 2 c.set_part-2.new.self.host two c.context.result c.context.ensures;
      leaves = fits_policy n 2 c.set_part-2.new.self.host two _ _ 17 (omega arith);
      msrs = fits_policy n 2 c.set_part-2.new.self.host two _ _ 18 (omega arith);
    }

pub returns : goal.returns
returns c = on_ok_weaker c.set_part-3.result (λ set.
    all_parts_set c.args.frames c.args.host.now.host c.set_part.new.self.host c.set_part-2.new.self.host c.set_part-3.new.self.host _ _ _ c.requires.none c.in_ok-set_part.ensures.ok c.in_ok-set_part-2.ensures.ok set (c.deref.ensures.value ∙ c.in_ok-list.ensures) (zeros 512) c.context.ensures) c.set_part-3.ensures.ok
