pub mod Asks
pub mod Settle
pub mod Rises
pub mod Crown
pub mod Inserted
