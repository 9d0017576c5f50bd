-- The spare bits lie in the last byte.
use mathlib.Core.Path.{◌≡◌}
use mathlib.Core.List.{List, [], ◌∷◌}
use Prim.Native.Nat.{ℕ, suc, ◌-◌, ◌*◌, ◌^◌, ◌<◌, ◌≤◌}
use native.Mathlib.Nat.{mod-lt, one-le-pow, div-eq_of_lt, zero-div}
use native.Mathlib.Omega.{arith}
use lib.Dec.{lit<}
use lib.Pow.{pow_mono}
use lib.ListN.{length, take, set, drop_of_length-le}
use lib.Seq.{set_split}
use Rattle.digits.specs.Digits.{number, Below}
use Rattle.digits.proofs.Places.{pow-mul}
use Rattle.digits.proofs.Number.{number_append, number-take}
use Rattle.codes.specs.Packing.{bytes_per_vector, spare}
use Rattle.codes.proofs.Packing.{codes-in-bytes}

cleared : (m : ℕ) (block : List ℕ) → length block ≡ suc m → Below 256 block → number 256 (set block m 0) < 256 ^ m
cleared m block e bytes =
    rw (set_split block m 0 (omega arith), drop_of_length-le block {i = suc m} (omega arith), number_append 256 (take m block) (0 ∷ []))
    (rw (number-take 256 m block bytes) (omega (arith, mod-lt (number 256 block) (one-le-pow m 256 (lit< tt)))))

pub spare-cleared : (w p : ℕ) (block : List ℕ) → Below 256 block → length block ≡ bytes_per_vector w p → spare w p (set block (length block - 1) 0) ≡ 0
unfolding spare
spare-cleared w p [] bytes size = zero-div (2 ^ (w * p))
spare-cleared w p (x ∷ xs) bytes size =
    let m = length xs in
    let e : suc m - 1 ≡ m = omega arith in
    let f : 256 ^ m ≤ 2 ^ (w * p) = rw (← pow-mul 2 8 m) (pow_mono {i = 8 * m} {j = w * p} (omega (arith, codes-in-bytes w p))) in
    rw e (div-eq_of_lt (omega (arith, cleared m (x ∷ xs) (omega arith) bytes)))
