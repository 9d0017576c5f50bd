-- What the contracts of this crate cite: how an answer is printed.
pub mod Printed
pub mod Printer
