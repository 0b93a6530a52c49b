mod Hex
mod Numbers
mod Orders
