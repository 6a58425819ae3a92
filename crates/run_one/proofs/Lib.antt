pub mod Within
pub mod Pages
pub mod Benches
pub mod Freeing
pub mod Reports
pub mod Serves
