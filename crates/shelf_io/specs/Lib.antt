pub mod DirShelves
pub mod MemShelves
pub mod MemSinks
pub mod Seen
