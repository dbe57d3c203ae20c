use Rattle.mig_tool_report.proofs.Common.{ℕ, ◌+◌, ◌*◌, ◌<◌, ◌≤◌, ◌^◌, length, arith}
use Rattle.std.proofs.Math.Nat.{pow-le-pow_right}
use Rattle.mig_tool_report.proofs.command.hex_number.Goals as goal

-- a number of fewer than 16 digits has room for one more
room : (number digits most : ℕ) → number < 16 ^ digits → digits < most → most ≤ 16 → 16 * number + 15 < 2 ^ 64
room number digits most small fewer few =
    let low : 0 < 16 = omega arith in
    let fewer_than : digits ≤ 15 = omega arith in
    let under : 16 ^ digits ≤ 16 ^ 15 = pow-le-pow_right {n = 16} low fewer_than in
    omega (arith, small, under)

pub overflow_mul-number : goal.overflow_mul-number
overflow_mul-number c =
    let fits = room c.loop-letter.number c.loop-letter.letter-index (length c.args.letters.now) c.loop-letter.invariant.small c.loop-letter-test.true c.requires in
    omega (arith, fits)

pub overflow_add-number : goal.overflow_add-number
overflow_add-number c =
    let fits = room c.loop-letter.number c.loop-letter.letter-index (length c.args.letters.now) c.loop-letter.invariant.small c.loop-letter-test.true c.requires in
    omega (arith, fits, c.in_ok-number.ensures.small)
