pub mod Header
pub mod ThreeWay
pub mod Reverse
pub mod Hello
