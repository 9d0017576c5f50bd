-- What no misfit means of the value: laws of proofs/Fits.antt.
use Rattle.std.specs.Prelude.{◌≡◌, true, not, cond, ◌||◌, List, map, ℕ, ◌≤◌, length, ltb, eqb}
use Rattle.std.proofs.Math.Option.{Option, none, some}
use Rattle.lists.specs.Keep.{bit, count, Each}
use Rattle.encode.specs.declared.Header.{Header}
use Rattle.encode.specs.Header.{block_size}
use Rattle.codes.specs.Stage.{Stage}
use Rattle.encode.specs.Coded.{Code}
use Rattle.index.specs.State.{Mark, Slot, State}
use Rattle.index.specs.Fit.{between}
use Rattle.index.specs.Step.{holds, holds_at}

abbrev pub block_length : Option Stage → Option ℕ
block_length none = none
block_length (some g) = some (length g.block)

-- Blocks have the header's size, and there is a second stage where the index is residual, and only there.
pub record Shaped (h : Header) (c : Code) : Type 0 where
  pub first : length c.first.block ≡ block_size h
  pub second : block_length c.second ≡ cond h.residual (some (block_size h)) none

abbrev pub AllShaped : Header → List Slot → Type 0
AllShaped h ss = Each (λ s. Shaped h s.code) ss

abbrev pub marks : List Slot → List Mark
marks ss = map (λ s. s.mark) ss

-- 01, 13: a key's t slots hold "positions 0 to t-1 once each". Position p of a key is held once where p is below t, and else not.
abbrev pub OnceEach : List Mark → Type 0
OnceEach ms = (k p : ℕ) → count (holds_at k p) ms ≡ bit (ltb p (count (holds k) ms))

-- a header whose fields are in their ranges
pub record Ranged (h : Header) : Type 0 where
  pub dim : between 1 4096 h.dim ≡ true
  pub working_dim : between 1 h.dim h.working_dim ≡ true
  pub bits : between 4 6 h.bits ≡ true
  pub residual : (not h.residual || eqb h.bits 4) ≡ true

-- a value that arrays with room for so many slots can hold
pub record Sound (room : ℕ) (s : State) : Type 0 where
  pub header : Ranged s.header
  pub space : length s.slots ≤ room
  pub shape : AllShaped s.header s.slots
  pub positions : OnceEach (marks s.slots)
