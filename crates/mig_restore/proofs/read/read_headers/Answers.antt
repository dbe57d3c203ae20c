use Rattle.mig_restore.proofs.Common.{refl, ap, ◌∙◌, placed, mapped, ImageHeader, DomainHeader, opening_of, version_at, kind_at, placed_fine, placed_then, placed_ends, behind_version, behind_kind}
use Rattle.mig_restore.proofs.read.read_headers.Goals as goal

pub returns-in-Err-clause-read : goal.returns-in-Err-clause-read
returns-in-Err-clause-read g c =
    placed_ends _ _ ImageHeader version_at behind_version _ _ c.in-Err.stop c.at.result c.at.ensures c.in-Err.ensures.read

pub returns-in-Ok-read_kind-clause-read : goal.returns-in-Ok-read_kind-clause-read
returns-in-Ok-read_kind-clause-read g c =
    placed_then _ _ ImageHeader version_at behind_version _ _ _ _ _ c.in-Ok.ensures.read
    (λ version same_version. mapped _ _ _ _ (λ i. placed DomainHeader (kind_at i)) (λ i. behind_version (version, i)) (opening_of version) _ _ (λ i. refl) (placed_fine _ DomainHeader _ _ kind_at _ c.in-Ok-read_kind.ensures.read)
    (λ kind same_kind. ap (λ v. opening_of v kind) same_version ∙ ap (opening_of c.in-Ok.version) same_kind))

pub returns-in-Err-read_kind-clause-read : goal.returns-in-Err-read_kind-clause-read
returns-in-Err-read_kind-clause-read g c =
    placed_then _ _ ImageHeader version_at behind_version _ _ _ _ _ c.in-Ok.ensures.read
    (λ version _. placed_ends _ _ DomainHeader kind_at (behind_kind version) _ _ c.in-Err-read_kind.stop c.at-in-Err-read_kind.result c.at-in-Err-read_kind.ensures c.in-Err-read_kind.ensures.read)
