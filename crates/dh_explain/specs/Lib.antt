pub mod Explanations
pub mod Explained
pub mod RuleTexts
pub mod RuleWords
