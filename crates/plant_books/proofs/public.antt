pub mod HistoryLaws
pub mod NumberRanges
pub mod ShelfLists
