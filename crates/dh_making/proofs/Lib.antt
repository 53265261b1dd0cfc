pub mod KeyLists
pub mod Loops
pub mod SortedRows
