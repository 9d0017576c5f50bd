-- The transform of binary32 values: each sum and each difference is rounded once (IEEE 754, 5.4.1).
use Rattle.std.specs.Prelude.{List, ℕ, Float}
use Rattle.std.specs.Float.Ieee as Ieee
use Rattle.std.specs.Float.{binary32, nan}
use Rattle.fwht.specs.Fwht.{fwht}
use Rattle.fwht.specs.InPlace.{spans, turned, Spanned}

abbrev pub fwht32 : List Float → List Float
fwht32 = fwht nan (Ieee.add binary32) (Ieee.sub binary32)

abbrev pub spans32 : ℕ → ℕ → List Float → List Float
spans32 = spans nan (Ieee.add binary32) (Ieee.sub binary32)

abbrev pub turned32 : ℕ → ℕ → ℕ → List Float → List Float
turned32 = turned nan (Ieee.add binary32) (Ieee.sub binary32)

abbrev pub Spanned32 : List Float → List Float → ℕ → Type 0
Spanned32 = Spanned nan (Ieee.add binary32) (Ieee.sub binary32)
