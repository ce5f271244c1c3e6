pub mod ScriptLemmas
pub mod MembersLemmas
