-- What a search tests before any score.
use Rattle.std.specs.Prelude.{[], ◌∷◌, ℕ}
use Rattle.encode.specs.Coded.{fault}
use Rattle.index.specs.declared.Index.{Index}
use Rattle.index.specs.Arrays.{Arrays}
use Rattle.index.specs.State.{header_of}
use Rattle.index.specs.Fit.{misfit}
use Rattle.index.specs.Step.{Query, first_of, when, short_result}

-- 01: 13 "comes first": of the index, then of "a result, keyed too, for min(max(k,1), live) places", the live count being the record's; else 0
unfoldable pub places_fault : Index → Arrays → (k places : ℕ) → ℕ
places_fault x a k places = first_of (when (misfit x a) 13 ∷ short_result k x.live places ∷ [])

-- 01: "Search: 1, 2, 3", after 13
unfoldable pub search_fault : Index → Arrays → Query → (k places : ℕ) → ℕ
search_fault x a q k places = first_of (places_fault x a k places ∷ fault (header_of x) q.vector ∷ [])
