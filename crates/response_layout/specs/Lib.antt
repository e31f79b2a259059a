pub mod WholeNumbers
