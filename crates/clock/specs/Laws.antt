-- The laws that the proofs and theorems of `clock` rest on.
pub mod OneValue
pub mod Terms
pub mod ClockAnswers
