-- Laws of the definitions: reading, writing, and what the 8-byte words behind both rest on.
pub mod Fields
pub mod Puts
pub mod Numbers
pub mod Words
pub mod Zeros
pub mod Examples
