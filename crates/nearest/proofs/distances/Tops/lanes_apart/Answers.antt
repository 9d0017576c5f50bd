use native.Mathlib.Omega.{arith}
use Rattle.nearest.proofs.Lanes.{lanes-most}
use Rattle.nearest.proofs.Pairs.{bytes-lanes}
use Rattle.nearest.proofs.distances.Tops.lanes_apart.Goals as goal

pub overflow_add-result : goal.overflow_add-result
overflow_add-result c =
    let s = c.args.self.now in
    let pairs = bytes-lanes s.split c.args.block.now (λ k. (c.type_inv.block k).fits) c.min-n.result (omega (arith, c.min-n.ensures)) in
    let most = lanes-most s.all.now c.args.block.now s.lanes s.low in
    record { fits = omega (arith, s.few, c.rest_apart.ensures, c.bytes_apart.ensures, pairs, most) }

pub returns : goal.returns
returns c =
    let pairs = bytes-lanes c.args.self.now.split c.args.block.now (λ k. (c.type_inv.block k).fits) c.min-n.result (omega (arith, c.min-n.ensures)) in
    omega (arith, c.rest_apart.ensures, c.bytes_apart.ensures, pairs)
