pub mod Document
pub mod Fields
