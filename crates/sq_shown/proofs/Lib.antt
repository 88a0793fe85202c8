pub mod Ascii
mod Bools
mod FieldLemmas
mod PackageLemmas
mod WordLemmas
