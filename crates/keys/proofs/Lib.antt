-- Laws of the key questions.
mod Questions
