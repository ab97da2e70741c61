pub mod Canonical
pub mod Made
pub mod Laws
