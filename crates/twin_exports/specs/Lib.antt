-- What counting on texts gives as one number.
pub mod TextCounts
pub mod TextCountLaws
pub mod FigureTexts
pub mod FigureTextLaws
pub mod PageCodes
pub mod ListCodes
pub mod PageCodeLaws
pub mod ListCodeLaws
