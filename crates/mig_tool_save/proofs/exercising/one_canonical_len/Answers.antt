use Rattle.mig_tool_save.proofs.Common.{List, ℕ, ap, arith, length, sym, ◌∙◌, GuestOf, canon_any}
use Rattle.mig_tool_save.proofs.exercising.one_canonical_len.Goals as goal

pub prove_eq-unreachable-requires-2 : goal.prove_eq-unreachable-requires-2
prove_eq-unreachable-requires-2 c =
    let seen = ap (λ (s : List ℕ). length s) c.in_ok-canonical_seen.ensures ∙ ap (λ (g : GuestOf). length (canon_any g)) (sym c.requires.seen) ∙ sym (ap (λ (s : List ℕ). length s) c.in_ok-canonical.ensures) in
    c.if-prove_eq-2.true (omega (arith, seen, c.len-2.ensures, c.len-len.ensures, c.canonical_seen.new.text.bytes.ok.0, c.canonical.new.text.bytes.ok.0))
