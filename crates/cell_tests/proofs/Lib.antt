-- The lemmas of the tests.
mod Alone
mod Views
