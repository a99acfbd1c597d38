mod Ends
mod Replying
mod Rows
mod Viewing
