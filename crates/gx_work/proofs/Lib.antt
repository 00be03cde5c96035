pub mod TextLemmas
pub mod SchemaLemmas
pub mod WordLemmas
pub mod LineLemmas
pub mod PartsLemmas
pub mod RunLemmas
pub mod WorkLemmas
