mod Finding
mod Procedures
mod Sections
