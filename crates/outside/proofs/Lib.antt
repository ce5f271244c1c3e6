pub mod ByteLemmas
pub mod CountLemmas
pub mod PutLemmas
