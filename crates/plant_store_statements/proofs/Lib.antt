pub mod public
mod Makings
mod WritesOver
mod PutAgain
mod StoredLaws
mod PlainAnywhere
mod NotRun
