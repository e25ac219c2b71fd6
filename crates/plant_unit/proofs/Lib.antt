mod MatrixLaws
mod AlarmLists
mod NamedLaws
mod EventBounds
mod KeptLaws
mod ImportsJudged
mod FloodLines
mod JudgedLaws
pub mod public
mod ReadingLaws
mod ProposalLaws
mod DecisionLaws
mod VerdictLaws
