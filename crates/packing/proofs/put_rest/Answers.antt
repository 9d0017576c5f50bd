use Prim.Native.Nat.{◌+◌, ◌*◌, ◌/◌, ◌^◌, ◌<◌}
use native.Mathlib.Omega.{arith}
use Rattle.std.proofs.Common.{rules}
use Rattle.packing.proofs.Rest.{rest-bits, rest-bytes, rest-fits, rest-written}
use Rattle.packing.proofs.put_rest.Goals as goal

pub overflow_mul-bits : goal.overflow_mul-bits
overflow_mul-bits c = record { fits = omega (arith, rest-bits _ _ c.args.block.now c.requires.codes c.requires.few) }

pub power-place-requires : goal.power-place-requires
power-place-requires c = rest-bits _ _ c.args.block.now c.requires.codes c.requires.few

pub joined-old-requires : goal.joined-old-requires
joined-old-requires c =
    (omega arith, rest-bytes c.args.bits c.args.codes.now c.args.block.now c.requires.codes c.requires.few, λ k. search rules)

pub joined-requires : goal.joined-requires
joined-requires c = (c.requires.codes.width.most, omega (arith, c.requires.few), c.requires.codes.fit)

pub overflow_add-value : goal.overflow_add-value
overflow_add-value c =
    let sum : let place = c.power-place.result in c.joined.result + place * (c.joined-old.result / place) < 2 ^ 64 = rw (c.joined.ensures, c.joined-old.ensures, c.power-place.ensures)
    (rest-fits c.args.bits c.args.codes.now c.args.block.now c.requires.codes c.requires.few (λ k. search rules)) in
    record { fits = sum }

pub put_number-requires : goal.put_number-requires
put_number-requires c = rest-bytes c.args.bits c.args.codes.now c.args.block.now c.requires.codes c.requires.few

pub returns : goal.returns
returns c =
    rest-written c.args.bits c.args.codes.now c.args.block.now c.requires.codes c.requires.few _ _
    (rw (c.joined.ensures, c.joined-old.ensures, c.power-place.ensures))
    c.put_number.ensures
