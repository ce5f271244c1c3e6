pub mod NegatedKeys
pub mod TextKeys
