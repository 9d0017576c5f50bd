-- When a key may be relabelled (01: "Relabel and removal answer yes or no"; the Rust's `relabel`).
use Rattle.std.specs.Prelude.{Bool, not, ◌&&◌, ◌||◌, ℕ, ltb, eqb}

-- t slots have the old key and u the new one: there is one to relabel, and the new key is the old one or free
unfoldable pub may_change : (t u old new : ℕ) → Bool
may_change t u old new = ltb 0 t && (eqb old new || not (ltb 0 u))
