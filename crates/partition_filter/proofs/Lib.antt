pub mod Loops
pub mod ListedTexts
pub mod RuleTexts
pub mod FilterTexts
pub mod Searches
pub mod Written
pub mod FaultTexts
