mod Calls
mod Replies
