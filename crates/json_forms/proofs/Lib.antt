pub mod ObjectTexts
