-- Laws of making.
mod Making
