use native.Mathlib.Omega.{arith}
use mathlib.Core.Path.{◌∙◌}
use native.Mathlib.Nat.{le-div_iff_mul-le}
use borrow.Author.Tests.{leb-true}
use Rattle.std.proofs.Common.{rules, tests, ◌≤◌}
use Rattle.codes.proofs.Tests.{at_width_lem}
use Rattle.scan.proofs.Sizes.{levels-of}
use Rattle.scan.proofs.Stage.is_grouped.Goals as goal

pub returns : goal.returns
returns c =
    λ e.
    let s = c.args.self.now in
    let from : 4 ≤ s.bits = search (rules, tests) in
    let to : s.bits ≤ 6 = search (rules, tests) in
    record {
      from = from;
      to = to;
      table = c.if-self.false ∙ (levels-of s.bits to).is;
      groups = c.if-self-ne0.false;
      most = c.if-self-gt4096.false;
      block = c.if-self-bytes_per_vector.false ∙ c.bytes_per_vector.ensures ∙ at_width_lem _ (record { some = omega arith; most = omega arith });
      codes-there = (le-div_iff_mul-le {k = s.size} {x = s.n} (omega arith)).0 c.if-self-2.false;
      scales-there = leb-true _ _ e;
    }
