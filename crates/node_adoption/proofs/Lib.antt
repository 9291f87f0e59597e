mod AtStart
mod Lists
mod Whole
