mod Joined
mod Plain
