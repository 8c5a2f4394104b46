mod Ends
mod Noted
mod Transfers
