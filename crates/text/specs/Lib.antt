pub mod Pieces
pub mod Cursor
pub mod Fields
pub mod Rows
pub mod Kinds
pub mod Handed
