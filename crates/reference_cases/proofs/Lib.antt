mod Ledgers
mod Lists
