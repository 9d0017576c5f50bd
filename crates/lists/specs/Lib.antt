-- Lists that the library has no name for.
pub mod Lists
pub mod Keep
