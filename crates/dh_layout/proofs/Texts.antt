pub mod InValues
pub mod Noncharacters
pub mod Utf8
pub mod Values
