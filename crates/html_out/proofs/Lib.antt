pub mod EscapeLemmas
pub mod InsideLemmas
