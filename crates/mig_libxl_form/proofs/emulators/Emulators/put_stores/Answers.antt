use Rattle.mig_libxl_form.proofs.Common.{List, map, ap, ◌∙◌, put_parts, store_part}
use Rattle.mig_libxl_form.proofs.Begun.{none_set, one_more, still_leads}
use Rattle.mig_libxl_form.proofs.Stores.{Entry, stores_listed}
use Rattle.std.specs.FinMap as maps
use Rattle.mig_libxl_form.proofs.emulators.Emulators.put_stores.Goals as goal

pub loop-key-init : goal.loop-key-init
loop-key-init c =
    let listed =
    c.into_iter-key-iterator.ensures.into_iter_gives ∙ c.iter-key-items.ensures.rest ∙ stores_listed c.self.inside.stores.entries c.self.inside.contexts c.args.self.now c.self.view_is c.iter-key-items.ensures.ordered in
    record {
      leads = ap (λ (es : List Entry). record c.args.guest.now { parts = put_parts c.args.guest.now.parts (map store_part es) }) listed;
      begun = rw listed (none_set c.args.guest.now (map store_part (maps.entries c.args.self.now.stores)));
    }

pub loop-key-preserved : goal.loop-key-preserved
loop-key-preserved c =
    let first = ap (map store_part) c.in-Some.ensures.steps in
    let is = c.in_ok-set_part.ensures.ok ∙ ap (λ bytes. record c.loop-key.guest { parts = maps.insert c.loop-key.guest.parts c.in-Some.key.now bytes }) (c.deref.ensures.value ∙ c.in_ok-text.ensures) in
    record { leads = still_leads _ _ _ _ _ first is _ c.loop-key.invariant.leads; begun = one_more _ _ _ _ _ first is _ _ c.loop-key.invariant.begun }
