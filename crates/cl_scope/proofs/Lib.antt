pub mod Blocks
pub mod Choice
pub mod Firsts
pub mod Indexed
pub mod Mapped
