use Rattle.mig_machine_script.proofs.Common.{◌≡◌, ◌∷◌, [], ◌++◌, rules, IsScriptLine, line_said}
use Rattle.mig_machine_script.proofs.Growing.{kept}
use Rattle.mig_machine_script.proofs.script.script_in.Goals as goal

pub loop-rest-preserved : goal.loop-rest-preserved
loop-rest-preserved c =
    let pushed : c.push.new.self.items ≡ c.loop-rest.lines.items ++ c.in-Some.line ∷ [] = search rules in
    let is : IsScriptLine c.first_text.result.0.now (line_said c.in-Some.line) = search rules in
    record {
      good = kept c.args.bytes.now c.loop-rest.lines.items c.push.new.self.items c.loop-rest.rest.now c.first_text.result.0.now c.first_text.result.1.now c.in-Some.line pushed c.loop-rest.invariant.good c.first_text.ensures.begins is;
      few = search rules;
    }
