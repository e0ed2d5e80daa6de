pub mod Seeking
pub mod Replying
