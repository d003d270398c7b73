pub mod Tlv
