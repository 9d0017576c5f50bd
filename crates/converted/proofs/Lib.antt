-- Laws of converted files.
mod Written
mod Reading
