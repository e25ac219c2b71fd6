mod Dates
mod Written
mod ColumnLaws
mod Examples
