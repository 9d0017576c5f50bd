-- Laws of a width call and of enabling the cascade.
mod SameSlots
mod Setting
