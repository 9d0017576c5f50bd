use Prim.Native.Nat.{◌+◌, ◌*◌, ◌^◌, ◌≤◌, ◌<◌}
use Rattle.sqrt.proofs.whole_root.Given as goal

-- The root of p is at least q and below q + 2 ^ digit, where `digit` digits are left.
abbrev pub invariant-loop-digit : goal.invariant-loop-digit
invariant-loop-digit l = record {
  low : l.q * l.q ≤ l.p;
  high : l.p < (l.q + 2 ^ l.digit) * (l.q + 2 ^ l.digit);
  room : l.q + 2 ^ l.digit ≤ 2 ^ 24;
}
