use Rattle.std.proofs.Common.{ap, is_some, ◌∙◌, ◌≡◌}
use Rattle.std.proofs.lemmas.Result.{IfOk-weaker, on_err_weaker}
use Rattle.mig_blanked.proofs.BesideFile.{behind_run, both_ok, run_pages, run_some}
use Rattle.mig_blanked.proofs.Behind.{never_none, some_page, then_rest, told_page}
use Rattle.mig_blanked.proofs.frames.PagesByNumberFrameSequence.pages_from.Goals as goal

pub returns-then-plain-gt0-clause-bytes : goal.returns-then-plain-gt0-clause-bytes
returns-then-plain-gt0-clause-bytes g c =
    let a = c.args.self.now in let file = g.P.PageFile.bytes a.file.now in let other = g.P.PageFile.bytes c.new-placed.result.file.now in
    let same : other ≡ file = ap g.P.PageFile.bytes c.new-placed.ensures.file in
    both_ok c.pages_from.result (λ r few bytes told. bytes (ap is_some same ∙ told) ∙ run_pages a.marks.now.values a.outline.now.frames file other a.places.now c.new-placed.result.places.now same c.new-placed.ensures.places c.args.place c.count_plain-plain.result c.count_plain-plain.ensures.plain r.1 few.1)
    c.pages_from.ensures.few c.pages_from.ensures.bytes

pub returns-then-plain-gt0-clause-behind : goal.returns-then-plain-gt0-clause-behind
returns-then-plain-gt0-clause-behind g c =
    let a = c.args.self.now in let file = g.P.PageFile.bytes a.file.now in let other = g.P.PageFile.bytes c.new-placed.result.file.now in
    let same : other ≡ file = ap g.P.PageFile.bytes c.new-placed.ensures.file in
    IfOk-weaker c.pages_from.result _ _ (λ r. behind_run a.marks.now.values a.outline.now.frames file other a.places.now c.new-placed.result.places.now same c.new-placed.ensures.places c.args.place r.0 r.1) c.pages_from.ensures.behind

pub returns-then-plain-gt0-clause-wanted : goal.returns-then-plain-gt0-clause-wanted
returns-then-plain-gt0-clause-wanted g c =
    let a = c.args.self.now in let file = g.P.PageFile.bytes a.file.now in let other = g.P.PageFile.bytes c.new-placed.result.file.now in
    let same : other ≡ file = ap g.P.PageFile.bytes c.new-placed.ensures.file in
    on_err_weaker c.pages_from.result (run_some a.marks.now.values a.outline.now.frames file other a.places.now c.new-placed.result.places.now same c.new-placed.ensures.places c.args.place c.count_plain-plain.result c.count_plain-plain.ensures.plain c.args.most c.count_plain-plain.ensures.most) c.pages_from.ensures.wanted

pub returns-in-Ok-clause-bytes : goal.returns-in-Ok-clause-bytes
returns-in-Ok-clause-bytes g c = λ told.
    told_page c.args.self.now.marks.now.values c.args.self.now.outline.now.frames (g.P.PageFile.bytes c.args.self.now.file.now) c.args.self.now.places.now c.args.place (c.in-Some.pfn, c.in-Some.cell)
    c.in-Some.ensures.first _ told c.in-Ok.ensures.bytes

pub returns-in-Ok-clause-behind : goal.returns-in-Ok-clause-behind
returns-in-Ok-clause-behind g c =
    then_rest c.args.self.now.marks.now.values c.args.self.now.outline.now.frames (g.P.PageFile.bytes c.args.self.now.file.now) c.args.self.now.places.now c.args.place (c.in-Some.pfn, c.in-Some.cell) c.in-Some.ensures.first

pub returns-in-Err-clause-wanted : goal.returns-in-Err-clause-wanted
returns-in-Err-clause-wanted g c =
    let file = g.P.PageFile.bytes c.args.self.now.file.now in
    some_page c.args.self.now.marks.now.values c.args.self.now.outline.now.frames file c.args.self.now.places.now c.args.place (c.in-Some.pfn, c.in-Some.cell) c.in-Some.ensures.first
    c.args.most c.requires.some (c.in-Err.ensures.wanted file)

pub returns-in_default-clause-few : goal.returns-in_default-clause-few
returns-in_default-clause-few g c =
    absurd (never_none c.args.self.now.marks.now.values c.args.self.now.outline.now.frames (g.P.PageFile.bytes c.args.self.now.file.now) c.args.self.now.places.now c.args.place c.args.most c.in_default.ensures.none c.requires.some c.requires.has)
