pub mod public
mod ChangedLaws
mod ListedLaws
mod ShelvedLaws
mod PassingLaws
mod NumbersAmong
mod MadeLaws
