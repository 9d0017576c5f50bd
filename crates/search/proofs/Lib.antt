-- Laws of the call `search`.
mod Slots
