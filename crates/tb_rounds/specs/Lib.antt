pub mod Rounds
pub mod Offers
