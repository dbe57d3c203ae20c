use Rattle.mig_guest.proofs.Common.{ℕ, Global, Some, sym, ap, ◌∙◌, option_map, Vec}
use Rattle.mig_guest.proofs.PartMaps.{got}
use Rattle.mig_guest.proofs.parts.Parts.get.Goals as goal

pub returns-in-Some : goal.returns-in-Some
returns-in-Some c =
    ap Some c.as_slice.ensures.value ∙ ap (option_map (λ v. v.items)) c.in-Some.ensures.value ∙ sym (got c.self.inside.parts.entries c.args.self.now c.self.view_is c.args.key)

pub returns-in-None : goal.returns-in-None
returns-in-None c = ap (option_map (λ (v : Vec ℕ Global). v.items)) c.in-None.ensures.value ∙ sym (got c.self.inside.parts.entries c.args.self.now c.self.view_is c.args.key)
