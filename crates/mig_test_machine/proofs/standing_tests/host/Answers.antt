use Rattle.std.proofs.Common.{◌≡◌, length, Some, None, sym, ap, ◌∙◌, arith}
use Rattle.std.specs.FinMap as maps
use Rattle.std.specs.FinMap.{get-empty}
use Rattle.std.specs.Ordering.{nat_cmp}
use Rattle.mig_guest.specs.Hosts.{HostOf, HostFrame}
use Rattle.mig_host.proofs.InOrder.{no_entries}
use Rattle.mig_test_machine.proofs.standing_tests.host.Goals as goal

pub add_frame-requires-clause-absent : goal.add_frame-requires-clause-absent
add_frame-requires-clause-absent c = ap (λ (h : HostOf). maps.get h.frames 65) c.new-host.ensures.host ∙ get-empty nat_cmp 65

pub add_frame-requires-clause-unused : goal.add_frame-requires-clause-unused
add_frame-requires-clause-unused c = λ other frame is same.
    let none : maps.get c.new-host.result.host.frames other ≡ None = ap (λ (h : HostOf). maps.get h.frames other) c.new-host.ensures.host ∙ get-empty nat_cmp other in
    let both : None ≡ Some frame = sym none ∙ is in
    cc

pub add_frame-requires-clause-few : goal.add_frame-requires-clause-few
add_frame-requires-clause-few c =
    let none : length (maps.entries c.new-host.result.host.frames) ≡ 0 = ap (λ (h : HostOf). length (maps.entries h.frames)) c.new-host.ensures.host ∙ ap length (no_entries nat_cmp HostFrame) in
    omega (arith, none)
