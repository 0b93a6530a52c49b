mod Paging
mod Ending
mod Playing
mod Verdict
