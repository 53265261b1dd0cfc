pub mod MovedFields
pub mod MovedViews
pub mod TypedRules
pub mod TypedViews
pub mod Typings
