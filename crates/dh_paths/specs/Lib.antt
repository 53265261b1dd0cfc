pub mod Inside
pub mod LocationLaws
