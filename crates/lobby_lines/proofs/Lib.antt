mod Adding
pub mod Laying
mod Numbers
mod ReplyGoing
mod RequestGoing
mod RequestRows
mod Telling
mod Values
