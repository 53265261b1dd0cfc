pub mod BlameLines
pub mod RootLines
pub mod ValueLines
