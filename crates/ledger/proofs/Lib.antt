-- Laws of a ledger.
pub mod Laws
