-- What the inner functions of relabelling cite; the call itself cites the index's definitions.
pub mod May
