pub mod KeyLists
pub mod LetLists
pub mod NodeParts
pub mod SumRows
