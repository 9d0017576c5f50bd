-- Laws of the scan.
mod Tables
mod Products
mod Kernels
mod Parts
mod Entries
mod Raws
mod Sizes
mod Steps
