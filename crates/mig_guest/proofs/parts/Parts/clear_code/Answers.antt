use Rattle.mig_guest.proofs.Common.{◌≡◌, ℕ, not, refl, sym, ap, ◌∙◌, PartKey, PartMap, parts_seen, filter_from_retain_pairs}
use Rattle.std.proofs.Common.{◌==◌}
use Rattle.std.specs.FinMap as maps
use Rattle.mig_guest.proofs.PartOrder.{part_total, part_exact}
use Rattle.mig_guest.proofs.KeyedMaps.{seen_filter}
use Rattle.mig_guest.proofs.PartMaps.{items}
use Rattle.mig_guest.proofs.parts.Parts.clear_code.Goals as goal

pub returns : goal.returns
returns c =
    let code = c.args.code in
    let kept = filter_from_retain_pairs _ (λ f. f.0.now ≡ code) (λ e. not (e.0.code == code)) (λ g k v b w g' is t. (t.called.met.1.0 ∙ ap (λ (p : PartKey). not (p.code == g.0.now)) t.shows.0 ∙ ap (λ (n : ℕ). not (k.code == n)) is, sym t.leaves ∙ t.called.met.1.1 ∙ t.shows.1, ap (λ x. x.now) t.called.met.0 ∙ is)) _ _ _ refl c.retain.ensures.filtered in
    ap parts_seen kept ∙ seen_filter part_total part_exact items (λ k. not (k.code == code)) c.self.inside.parts.entries
    ∙ ap (λ (m : PartMap). maps.retain_keys m (λ k. not (k.code == code))) c.self.view_is
