pub mod Judged
pub mod Places
pub mod Numbers
pub mod Answer
