-- The definitions that the laws cite.
pub mod Mirror
pub mod Reports
