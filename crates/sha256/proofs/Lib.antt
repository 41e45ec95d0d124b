-- Laws: what other crates cite. The others serve the proofs of this crate's functions.
pub mod Laws
pub mod Examples
pub mod Steps
pub mod Loops
