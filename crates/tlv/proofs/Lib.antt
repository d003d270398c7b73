pub mod TlvLaws
