pub mod CountLaws
pub mod CivilLaws
pub mod Numbers
pub mod DateTexts
pub mod TimerTexts
pub mod Worked
