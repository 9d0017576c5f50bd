use Rattle.positions.proofs.Decides.{holds, fails}
use Rattle.fit.proofs.Marks.{clear-past, clear-from, clear-word, clear_later}
use Rattle.fit.proofs.none_from.Goals as goal

pub returns-then-alive-word : goal.returns-then-alive-word
returns-then-alive-word c = holds (clear-past _ _ c.if-alive-word.true)

pub returns-then-alive-word-eq0 : goal.returns-then-alive-word-eq0
returns-then-alive-word-eq0 c =
    let alive = c.args.alive.now in
    record {
      yes = λ e. clear-from alive c.args.n c.if-alive-word-eq0.true (c.all_zero.ensures.yes e);
      no = λ e f. c.all_zero.ensures.no e (clear_later alive c.args.n (λ i. (c.type_inv.alive i).fits) f);
    }

pub returns : goal.returns
returns c = fails (λ f. c.if-alive-word-eq0.false (clear-word c.args.alive.now c.args.n (λ i. (c.type_inv.alive i).fits) f))
