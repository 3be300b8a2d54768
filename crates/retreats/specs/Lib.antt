pub mod Retreating
