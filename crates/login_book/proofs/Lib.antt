pub mod Checks
pub mod Reading
pub mod Values
pub mod Rules
pub mod Promised
pub mod Demand
