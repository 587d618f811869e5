pub mod Asks
pub mod Descent
pub mod Chosen
pub mod Items
