-- The rotation of a vector of binary32 values. 01 (rhdh.rs): "`Rhdh::apply` pads with zeros, multiplies by the signs and runs `fwht`".
use Rattle.std.specs.Prelude.{cond, ◌&&◌, List, ℕ, leb, Float, length, get_or}
use Rattle.pattern.specs.Binary32.{◌⊗◌, +0}
use Rattle.lists.specs.Lists.{tab, zip_with, over}
use Rattle.padding.specs.Padded.{is_power_of_two}
use Rattle.signs.specs.Signs.{signs}
use Rattle.fwht.specs.Binary32.{fwht32}

-- the first n entries of v, with +0 past its end
unfoldable pub pad_to : ℕ → List Float → List Float
pad_to n v = tab (λ i. get_or v i +0) n

-- Each entry times its sign. The zeros past the end of v get theirs as well, so some of them become -0.
unfoldable pub signed : ℕ → ℕ → List Float → List Float
signed n seed v = zip_with ◌⊗◌ (pad_to n v) (signs seed n)

-- the signed entries, transformed
unfoldable pub rotated : ℕ → ℕ → List Float → List Float
rotated n seed v = fwht32 (signed n seed v)

-- What `apply` leaves in `out`: the rotated vector over the first n places. Where `out` has fewer places, v has more entries than n, or n is no power of two, `out` stays as it is.
unfoldable pub applied : ℕ → ℕ → List Float → List Float → List Float
applied n seed v out = cond (leb n (length out) && (leb (length v) n && is_power_of_two n)) (over (rotated n seed v) out) out
