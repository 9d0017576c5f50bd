-- The arrays that a file is read into.
use mathlib.Core.Path.{◌≡◌, sym, ◌∙◌}
use mathlib.Core.Bool.{Bool, false}
use mathlib.Core.List.{List}
use Prim.Native.Nat.{ℕ}
use lib.ListN.{length, length-replicate}
use Rattle.index.specs.Arrays.{Arrays}
use Rattle.index.specs.Read.{header_in, read_refusal}
use Rattle.index.proofs.Overlay.{SameLengths, same-rooms}
use Rattle.listed.specs.Listing.{room}

pub slots-room : length room.scales ≡ 1024
unfolding room
slots-room = length-replicate {A = ℕ} 1024 0

bytes-room : length room.codes ≡ 32768
unfolding room
bytes-room = length-replicate {A = ℕ} 32768 0

flags-room : length room.keyed ≡ 1024
unfolding room
flags-room = length-replicate {A = Bool} 1024 false

pub as-large : (a : Arrays) → length a.codes ≡ 32768 → length a.scales ≡ 1024 → length a.keys ≡ 1024 → length a.keyed ≡ 1024 → length a.held ≡ 1024
    → length a.alive ≡ 1024 → length a.codes2 ≡ 32768 → length a.scales2 ≡ 1024 → length a.years ≡ 1024 → SameLengths a room
unfolding room
as-large a codes scales keys flags held alive codes2 scales2 years =
    record {
      codes = codes ∙ sym bytes-room;
      scales = scales ∙ sym slots-room;
      keys = keys ∙ sym slots-room;
      keyed = flags ∙ sym flags-room;
      held = held ∙ sym slots-room;
      alive = alive ∙ sym slots-room;
      codes2 = codes2 ∙ sym bytes-room;
      scales2 = scales2 ∙ sym slots-room;
      years = years ∙ sym slots-room;
    }

-- only room counts
pub refusal-same : (file : List ℕ) (a : Arrays) → SameLengths a room → read_refusal file a ≡ read_refusal file room
unfolding read_refusal
refusal-same file a s = rw (same-rooms (header_in file) a room s)
