pub mod TokenKinds
