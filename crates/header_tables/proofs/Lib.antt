pub mod Table
pub mod Layouts
pub mod Widths
