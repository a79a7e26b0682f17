mod Assigned
mod Bodies
mod Deeper
mod Numbers
mod Sound
mod Tables
mod There
