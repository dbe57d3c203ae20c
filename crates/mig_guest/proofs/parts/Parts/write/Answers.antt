use Rattle.mig_guest.proofs.Common.{◌≡◌, ◌+◌, ◌≤◌, length, Some, is_some, sym, ap, ◌∙◌, arith, option_map, option_copied_mut, PartMap, with_items, with_items_is}
use Rattle.std.specs.FinMap as maps
use Rattle.mig_pagestore.specs.Pages.{spliced}
use Rattle.mig_guest.proofs.KeyedMaps.{is_some-mapped}
use Rattle.mig_guest.proofs.PartMaps.{got, is_some_lent, part_at, put_seen}
use Rattle.mig_guest.proofs.parts.Parts.write.Goals as goal

pub unwrap-part-requires : goal.unwrap-part-requires
unwrap-part-requires c =
    let es = c.self.inside.parts.entries in let m = c.args.self.now in
    sym (is_some_lent c.get_mut.result) ∙ ap is_some c.get_mut.ensures.value ∙ sym (ap is_some (got es m c.self.view_is c.args.key) ∙ is_some-mapped (λ v. v.items) (part_at es c.args.key)) ∙ c.requires.there

pub write_over-requires : goal.write_over-requires
write_over-requires c =
    let m = c.args.self.now in let key = c.args.key in
    let found : maps.get m key ≡ Some c.unwrap-part.result.now.items = got c.self.inside.parts.entries m c.self.view_is key ∙ ap (option_map (λ v. v.items)) (sym c.get_mut.ensures.value ∙ ap option_copied_mut c.unwrap-part.ensures) in
    let range : c.args.at + length c.args.bytes.now ≤ length c.unwrap-part.result.now.items = rw found at c.requires.range in
    omega (arith, range, ap length c.deref_mut.ensures.value)

pub returns : goal.returns
returns c =
    let m = c.args.self.now in let key = c.args.key in
    let at_key : part_at c.self.inside.parts.entries key ≡ Some c.unwrap-part.result.now = sym c.get_mut.ensures.value ∙ ap option_copied_mut c.unwrap-part.ensures in
    let found : maps.get m key ≡ Some c.unwrap-part.result.now.items = got c.self.inside.parts.entries m c.self.view_is key ∙ ap (option_map (λ v. v.items)) at_key in
    let written = c.write_over.ensures ∙ ap (λ p. spliced p c.args.at c.args.bytes.now) c.deref_mut.ensures.value in
    let after = with_items c.unwrap-part.result.now c.write_over.new.part in
    let put = put_seen c.self.inside.parts.entries (c.get_mut.follows.lender after).entries key after _ (with_items_is c.unwrap-part.result.now c.write_over.new.part (c.write_over.auto.part ∙ c.deref_mut.ensures.len) ∙ written) ((c.get_mut.follows.holds after).3 (ap is_some at_key)).0 in
    rw found (put ∙ ap (λ (n : PartMap). maps.insert n key (spliced c.unwrap-part.result.now.items c.args.at c.args.bytes.now)) c.self.view_is)
