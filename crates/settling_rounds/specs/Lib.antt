pub mod Settlings
