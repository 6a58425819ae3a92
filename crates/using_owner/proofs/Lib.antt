mod Shelved
mod Stored
