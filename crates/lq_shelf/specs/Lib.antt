pub mod Faults
pub mod MemShelf
pub mod MemSink
pub mod ReaderShelf
pub mod Shelf
pub mod Sink
pub mod WriterSink
