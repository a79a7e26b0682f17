mod Complete
mod Deeper
mod Marked
mod Numbers
mod Roles
mod Tables
mod There
mod Whole
