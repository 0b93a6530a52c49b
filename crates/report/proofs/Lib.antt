mod Appends
mod Digits
mod Items
mod Fits
