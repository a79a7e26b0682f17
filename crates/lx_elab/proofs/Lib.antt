mod Checked
mod Flat
mod Same
mod Tested
