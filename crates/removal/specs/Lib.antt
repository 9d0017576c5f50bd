-- What the inner functions of the removals cite; the calls themselves cite the index's definitions.
pub mod Dead
