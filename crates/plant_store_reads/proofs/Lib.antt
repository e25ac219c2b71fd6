mod Selected
mod NumberLaws
mod Lasts
