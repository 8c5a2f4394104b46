mod Cutting
mod Filling
mod Kept
mod Leaving
mod Logs
mod Slotted
mod Ties
mod Undoing
