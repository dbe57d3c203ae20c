-- The order of part keys is total, and only equal keys tie.
use Rattle.mig_guest.proofs.Common.{ℕ, ap, nat_cmp, ordering_then, on_total, then_total, nat_cmp_total, IsTotalOrder, IsAntisymmetric, PartKey, part_cmp}
use Rattle.std.proofs.lemmas.Map.Lookups.{exact_pairs, exact_unsigned}

pub part_total : IsTotalOrder part_cmp
part_total = then_total (on_total (λ (k : PartKey). k.code) nat_cmp_total) (then_total (on_total (λ (k : PartKey). k.key1) nat_cmp_total) (on_total (λ (k : PartKey). k.key2) nat_cmp_total))

pub part_exact : IsAntisymmetric part_cmp
part_exact x y e =
    ap (λ (k : ℕ × (ℕ × ℕ)). record { code = k.0; key1 = k.1.0; key2 = k.1.1 })
    (exact_pairs nat_cmp (λ p q. ordering_then (nat_cmp p.0 q.0) (nat_cmp p.1 q.1)) exact_unsigned (exact_pairs nat_cmp nat_cmp exact_unsigned exact_unsigned) (x.code, (x.key1, x.key2)) (y.code, (y.key1, y.key2)) e)
