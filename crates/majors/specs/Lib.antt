pub mod Majors
