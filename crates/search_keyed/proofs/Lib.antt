-- Laws of the call `search_keyed`.
mod Keys
