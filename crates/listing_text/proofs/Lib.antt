-- Laws of putting the text.
mod Lines
mod Reading
mod Text
