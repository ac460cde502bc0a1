-- The definitions of the crate basis, and laws of memory.
pub mod BasisSet
pub mod BasisSetLaws
pub mod BasisMemory
