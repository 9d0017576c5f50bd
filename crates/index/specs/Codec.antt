-- Encoding, scoring and cascade distance as the header fixes them: the definitions of the crates below at its padded size and seed, by any table, and then by its own.
use Rattle.std.specs.Prelude.{map, ℕ, ◌+◌, ◌-◌, ◌/◌, Float}
use Rattle.lists.specs.Lists.{zip_with, total}
use Rattle.pattern.specs.Binary32.{◌⊗◌}
use Rattle.lloyd.specs.Tables.{boundaries_of, centroids_of}
use Rattle.lloyd.specs.Quantizer.{quantized}
use Rattle.codes.specs.Packing.{unpacked}
use Rattle.encode.specs.declared.Header.{Header}
use Rattle.encode.specs.Header.{padded}
use Rattle.unit.specs.Brought.{Item, Query}
use Rattle.unit.specs.Unit.{rnorm, prepared}
use Rattle.encode.specs.Coding.{Table}
use Rattle.encode.specs.Coded as Coded
use Rattle.encode.specs.Coded.{Code, Spare, rotated_of}
use Rattle.score.specs.Score.{slot_score}

-- ---- scoring

unfoldable pub score_by_table : Table → Header → Query → Code → Float
score_by_table t h q c = slot_score h.bits t.centroids (prepared (rotated_of h q.vector)) c.first c.second

-- ---- cascade

abbrev pub apart : ℕ → ℕ → ℕ
apart a b = (a - b) + (b - a)

-- 01, store.rs, cascade: "distance is the sum over lanes of the difference of the codes' top two bits, the query's code taken of entry times rnorm"
unfoldable pub distance_by_table : Table → Header → Query → Code → ℕ
distance_by_table t h q c =
    let xs = rotated_of h q.vector in
    let query_codes = map (λ x. quantized t.boundaries (x ⊗ rnorm xs)) (prepared xs) in
    total (zip_with (λ a b. apart (a / 4) (b / 4)) query_codes (unpacked 4 (padded h) c.first.block))

-- ---- by the table of the width. No other place chooses a table.

abbrev pub table_of : Header → Table
table_of h = record { boundaries = boundaries_of h.bits; centroids = centroids_of h.bits }

abbrev pub encoded : Header → Spare → Item → Code
encoded h above v = Coded.encoded_by_table (table_of h) h above v

abbrev pub score_of : Header → Query → Code → Float
score_of h q c = score_by_table (table_of h) h q c

abbrev pub distance : Header → Query → Code → ℕ
distance h q c = distance_by_table (table_of h) h q c
