-- Laws: what other crates cite. The others serve the proofs of this crate's functions.
pub mod Laws
pub mod Filling
pub mod Cases
