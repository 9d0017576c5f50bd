-- The lent arrays of keys in the program's struct.
use Rattle.positions.specs.declared.HeldKeys.{HeldKeys}
use Rattle.positions.specs.Ordered.{Keys, lent_keys}

abbrev pub keys_of : HeldKeys → Keys
keys_of s = lent_keys s.keys s.keyed s.held
