mod Choices
mod Joins
mod Judged
mod Names
mod Quantifiers
mod Reached
mod Retraces
mod Telling
