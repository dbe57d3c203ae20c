use Rattle.mig_host.proofs.Common.{ℕ, List, refl, PartKey, ap, ◌∙◌, part_total, part_exact, part_seen, seen_bytes}
use Rattle.mig_host.proofs.Copies.{copy_start, copy_end}
use Rattle.mig_host.proofs.SeenBytes.{part_set_bytes}
use Rattle.mig_host.proofs.SeenGuests.{context_sole, context_chain, parts_next, other_parts}
use Rattle.mig_host.proofs.seeing.copy_parts.Goals as goal

pub loop-key-init : goal.loop-key-init
loop-key-init c = record { others = refl; copied = copy_start part_total part_exact part_seen c.args.host.now.host.parts c.args.guest.now.parts c.requires.none; bytes = c.requires.bytes }

pub copy_part-requires-clause-sole : goal.copy_part-requires-clause-sole
copy_part-requires-clause-sole c =
    let e : PartKey × List ℕ = (c.in-Some.key, c.in-Some.bytes.now) in
    context_sole c.args.host.now.host c.loop-key.guest c.loop-key.after c.loop-key.invariant.copied e c.in-Some.ensures.next c.requires.valid

pub copy_part-requires-clause-chain : goal.copy_part-requires-clause-chain
copy_part-requires-clause-chain c =
    let e : PartKey × List ℕ = (c.in-Some.key, c.in-Some.bytes.now) in
    context_chain c.args.host.now.host c.loop-key.guest c.loop-key.after c.loop-key.invariant.copied e c.in-Some.ensures.next c.requires.valid c.requires.sound

pub loop-key-preserved : goal.loop-key-preserved
loop-key-preserved c =
    let e : PartKey × List ℕ = (c.in-Some.key, c.in-Some.bytes.now) in record {
      others = other_parts c.args.guest.now c.loop-key.guest c.copy_part.new.guest _ c.loop-key.invariant.others c.in_ok-copy_part.ensures;
      copied = parts_next c.args.host.now.host c.loop-key.guest c.loop-key.after c.loop-key.invariant.copied e c.in-Some.ensures.next c.copy_part.new.guest c.in_ok-copy_part.ensures;
      bytes = part_set_bytes c.loop-key.guest c.copy_part.new.guest c.in-Some.key (part_seen c.in-Some.key c.in-Some.bytes.now) c.loop-key.invariant.bytes (seen_bytes c.in-Some.key c.in-Some.bytes.now c.are_bytes.ensures) c.in_ok-copy_part.ensures;
    }

pub returns-clause-parts : goal.returns-clause-parts
returns-clause-parts c =
    c.loop-key.invariant.others ∙ ap (λ m. record c.args.guest.now { parts = m })
    (copy_end part_total part_exact part_seen c.args.host.now.host.parts c.loop-key.guest.parts _ c.loop-key.invariant.copied c.in_default.ensures.next)
