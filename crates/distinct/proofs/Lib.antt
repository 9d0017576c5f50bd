-- Laws of the keyed list.
pub mod KeyedList
mod Writing
