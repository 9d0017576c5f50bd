-- What a cascade tests before any score.
use Rattle.std.specs.Prelude.{Bool, not, ◌&&◌, [], ◌∷◌, ℕ, eqb}
use Rattle.encode.specs.Coded.{fault}
use Rattle.index.specs.declared.Index.{Index}
use Rattle.index.specs.Arrays.{Arrays}
use Rattle.index.specs.State.{header_of}
use Rattle.index.specs.Step.{Query, first_of, when}
use Rattle.asking.specs.Faults.{places_fault}

-- 01, 11: "cascade at width 5 or 6, or not enabled"
abbrev pub enabled : Index → Bool
enabled x = x.cascade && eqb x.bits 4

-- 01: "Search: 1, 2, 3", after 13, "cascade 11 before them"
unfoldable pub cascade_fault : Index → Arrays → Query → (k places : ℕ) → ℕ
cascade_fault x a q k places =
    first_of (places_fault x a k places ∷ when (not (enabled x)) 11 ∷ fault (header_of x) q.vector ∷ [])
