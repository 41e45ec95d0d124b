pub mod Laws
pub mod Choose
