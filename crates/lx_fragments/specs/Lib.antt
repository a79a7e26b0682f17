pub mod Domains
pub mod Fragments
pub mod Laying
pub mod Places
pub mod States
pub mod Worked
