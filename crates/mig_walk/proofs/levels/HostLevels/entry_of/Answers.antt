use Rattle.mig_walk.proofs.Common.{◌≡◌, Option, Some, IfSome, subst, ◌∙◌, option_and_then, level_of, PageType, IfNone}
use Rattle.mig_walk.proofs.HostFrames.{bare, bare_type, bare_page, entry_said}
use Rattle.mig_walk.proofs.levels.HostLevels.entry_of.Goals as goal

pub returns-clause-table : goal.returns-clause-table
returns-clause-table c = subst (λ (o : Option PageType). IfSome c.entry_in.result (λ e. option_and_then level_of o ≡ Some c.args.level)) (c.frame.ensures ∙ bare_type c.args.self.now.host.frames c.args.pfn) c.entry_in.ensures.table

pub returns-clause-other : goal.returns-clause-other
returns-clause-other c = subst (λ (o : Option PageType). IfNone c.entry_in.result (option_and_then level_of o ≡ Some c.args.level → ⊥)) (c.frame.ensures ∙ bare_type c.args.self.now.host.frames c.args.pfn) c.entry_in.ensures.other

pub returns-clause-said : goal.returns-clause-said
returns-clause-said c =
    entry_said (bare c.args.self.now.host.frames) c.args.pfn c.args.level c.args.slot _ _ c.entry_in.result
    (c.frame.ensures ∙ bare_type c.args.self.now.host.frames c.args.pfn) (c.page.ensures ∙ bare_page c.args.self.now.host.frames c.args.pfn) c.entry_in.ensures.table c.entry_in.ensures.said
