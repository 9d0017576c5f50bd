use mathlib.Core.Path.{◌≡◌}
use mathlib.Core.List.{◌++◌}
use Prim.Native.Nat.{◌^◌}
use lib.ListN.{length, drop}
use Rattle.digits.specs.Digits.{number}
use Rattle.packing.proofs.joined.Given as goal

-- `packing::joined` meets its contract: the codes after those that are left are in the sum.
abbrev pub invariant-loop-code : goal.invariant-loop-code
invariant-loop-code l =
    let rest = l.code-iterator.iter.rest.now in
    (rest ++ drop (length rest) l.codes ≡ l.codes) × (l.sum ≡ number (2 ^ l.bits) (drop (length rest) l.codes))
