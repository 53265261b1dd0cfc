pub mod Contents
pub mod MemContents
pub mod OrderedLocs
