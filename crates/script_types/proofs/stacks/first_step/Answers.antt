use Rattle.std.proofs.Common.{◌+◌, ◌*◌, ◌^◌, ◌<◌, ◌≤◌, length, ap, arith}
use Rattle.std.proofs.Math.Nat.{mul-le-mul_right, pow-le-pow_right}
use Rattle.std.proofs.lemmas.Nat.{pow-add}
use Rattle.script_types.proofs.stacks.first_step.Goals as goal

pub overflow_mul-result : goal.overflow_mul-result
overflow_mul-result c =
    let n = length c.args.digits.now in
    let b = c.args.behind in
    let small : c.in-Some.number < 10 ^ n = c.in-Some.ensures.small in
    let h : c.in-Some.number ≤ 10 ^ n = omega (arith, small) in
    let part = mul-le-mul_right (10 ^ b) h in
    let whole = pow-add 10 n b in
    let few : n + b ≤ 11 = omega arith in
    let most : 10 ^ (n + b) ≤ 10 ^ 11 = pow-le-pow_right (omega arith) few in
    let power = ap (λ k. c.in-Some.number * k) c.pow-in-Some.ensures in
    omega (arith, part, whole, most, power)
