mod Joined
mod Named
