-- The definitions and laws of the crate text_writer.
pub mod Writable
pub mod WrittenLaws
pub mod RoomLaws
