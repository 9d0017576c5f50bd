-- Laws of the product from halves and of the sign stream.
mod Product
pub mod Signs
