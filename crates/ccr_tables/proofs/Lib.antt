pub mod Firsts
pub mod Histories
mod Written
