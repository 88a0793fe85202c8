pub mod AnswersLemmas
pub mod GroupLemmas
pub mod ScopeLemmas
pub mod SettleLemmas
