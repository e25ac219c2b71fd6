mod OldMeanings
mod OldQueries
mod Upgrades
mod OldRuleLaws
mod Takings
