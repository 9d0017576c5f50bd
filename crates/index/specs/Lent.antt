-- What the arrays hold that a struct lends.
use Rattle.std.specs.Prelude.{◌≡◌}
use Rattle.index.specs.declared.Lent.{Lent}
use Rattle.index.specs.declared.LentMut.{LentMut}
use Rattle.index.specs.Arrays.{Arrays, lent}

abbrev pub contents : Lent → Arrays
contents x = lent x.codes.now x.scales.now x.keys.now x.keyed.now x.held.now x.alive.now x.codes2.now x.scales2.now x.years.now

abbrev pub contents_mut : LentMut → Arrays
contents_mut x = lent x.codes.now x.scales.now x.keys.now x.keyed.now x.held.now x.alive.now x.codes2.now x.scales2.now x.years.now

-- Both lend the same arrays: a call may change what they hold, and puts no other array in their place.
pub record SameLent (x y : LentMut) : Type 0 where
  pub codes : y.codes.ghost_name ≡ x.codes.ghost_name
  pub scales : y.scales.ghost_name ≡ x.scales.ghost_name
  pub keys : y.keys.ghost_name ≡ x.keys.ghost_name
  pub keyed : y.keyed.ghost_name ≡ x.keyed.ghost_name
  pub held : y.held.ghost_name ≡ x.held.ghost_name
  pub alive : y.alive.ghost_name ≡ x.alive.ghost_name
  pub codes2 : y.codes2.ghost_name ≡ x.codes2.ghost_name
  pub scales2 : y.scales2.ghost_name ≡ x.scales2.ghost_name
  pub years : y.years.ghost_name ≡ x.years.ghost_name
