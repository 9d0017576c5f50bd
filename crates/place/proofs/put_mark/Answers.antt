use Rattle.std.specs.Prelude.{◌≡◌, Option, Some, None, ℕ, set}
use Rattle.std.specs.Option.{is_some, unwrap_or}
use mathlib.Core.Path.{refl}
use Rattle.index.specs.Arrays.{Arrays}
use Rattle.index.specs.Lent.{contents_mut}
use Rattle.place.specs.Place.{put_mark}
use Rattle.place.specs.Adding.{mark_for}
use Rattle.place.proofs.put_mark.Goals as goal

marked : (a : Arrays) (i : ℕ) (k : Option (ℕ × ℕ)) (y : ℕ) →
    record {
      codes = a.codes;
      scales = a.scales;
      keys = set a.keys i (unwrap_or k (0, 0)).0;
      keyed = set a.keyed i (is_some k);
      held = set a.held i (unwrap_or k (0, 0)).1;
      alive = set a.alive i 1;
      codes2 = a.codes2;
      scales2 = a.scales2;
      years = set a.years i y;
    }
    ≡ put_mark a i (mark_for k) y
unfolding put_mark
marked a i None y = refl
marked a i (Some k) y = refl

pub returns-clause-mark : goal.returns-clause-mark
returns-clause-mark c = rw (c.unwrap_or-key.ensures, c.is_some.ensures, c.set_live_mark.ensures) (marked (contents_mut c.args.arrays.now) _ _ _)
