mod Read
mod Lines
mod Plant
