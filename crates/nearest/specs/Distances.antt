-- The cascade's distances of the slots in use, by the lent arrays.
use Rattle.std.specs.Prelude.{cond, List, [], ℕ}
use Rattle.std.proofs.Math.Option.{none}
use Rattle.marks.specs.Live.{live_at}
use Rattle.unit.specs.Brought.{Query}
use Rattle.encode.specs.declared.Header.{Header}
use Rattle.index.specs.State.{stage_at}
use Rattle.index.specs.Codec.{distance}

-- 01, store.rs, cascade: "distance is the sum over lanes ..", which looks at a slot's first block only: law `distance-slot` of proofs/Distance.antt
unfoldable pub distance_at : Header → (codes : List ℕ) → Query → ℕ → ℕ
distance_at h codes q i = distance h q (record { first = stage_at h [] codes i; second = none })

-- above every distance: law `distance-below` of proofs/Distance.antt
abbrev pub past : ℕ
past = 12289

-- the distance of a live slot, and `past` for a dead one
unfoldable pub live_distance : Header → (codes alive : List ℕ) → Query → ℕ → ℕ
live_distance h codes alive q i = cond (live_at alive i) (distance_at h codes q i) past
