-- What a call brings to encode or to score. Encoding and scoring take these and not a bare vector, so that what a later call brings besides stands here alone.
use Rattle.std.specs.Prelude.{List, Float}

-- what a call that encodes brings
pub record Item : Type 0 where
  pub vector : List Float

abbrev pub item_of : (vector : List Float) → Item
item_of v = record { vector = v }

-- what a call that scores brings
pub record Query : Type 0 where
  pub vector : List Float

abbrev pub query_of : (vector : List Float) → Query
query_of q = record { vector = q }
