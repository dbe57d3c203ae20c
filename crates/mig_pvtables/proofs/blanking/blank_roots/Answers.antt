use Rattle.mig_pvtables.proofs.Common.{List, ℕ, ap, ◌∙◌, ◌*◌, ◌/◌, little_bytes, with_field, bytes_from, blanked_value}
use Rattle.mig_pvtables.proofs.BlankBytes.{context_blanked}
use Rattle.mig_pvtables.proofs.blanking.blank_roots.Goals as goal

pub returns : goal.returns
returns c =
    c.put_u64_le-2.ensures ∙ ap (λ (l : List ℕ). with_field l 4992 (little_bytes 8 c.blank_user_root-user_root.result)) c.put_u64_le.ensures
    ∙ context_blanked c.args.context.now (c.u64_le.result / 4096 * 4096) c.blank_user_root-user_root.result (bytes_from c.args.context.now c.fits-context) c.told-context
    (ap (λ n. n / 4096 * 4096) c.u64_le.ensures) (c.blank_user_root-user_root.ensures ∙ ap (blanked_value 624) c.u64_le-2.ensures)
