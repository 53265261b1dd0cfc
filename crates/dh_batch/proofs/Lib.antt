pub mod BatchLaws
pub mod Dealt
pub mod Gathering
pub mod Moves
pub mod Served
