pub mod EffectLemmas
pub mod EndLemmas
