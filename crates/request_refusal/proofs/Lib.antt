-- Laws for who reads one kind of request only.
pub mod OneKind
