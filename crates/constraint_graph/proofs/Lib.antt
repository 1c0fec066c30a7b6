pub mod Agreement
pub mod Atoms
pub mod Edges
pub mod More
pub mod Relations
pub mod Soundness
pub mod Total
pub mod Undecided
