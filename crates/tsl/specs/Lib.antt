pub mod Transactions
pub mod Received
pub mod Table
pub mod Opening
