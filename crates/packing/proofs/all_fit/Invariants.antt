use mathlib.Core.Path.{◌≡◌}
use Prim.Native.Nat.{◌^◌}
use lib.ListN.{take}
use Rattle.digits.specs.Digits.{digits_below}
use Rattle.packing.proofs.all_fit.Given as goal

-- `packing::all_fit` meets its contract. The invariant: `fit` is the test of the codes passed.
abbrev pub invariant-loop-code : goal.invariant-loop-code
invariant-loop-code l = l.fit ≡ digits_below (2 ^ l.bits) (take l.code-index l.codes)
