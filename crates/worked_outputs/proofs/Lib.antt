-- The pair's run up to a tick before the hit.
mod Before
mod Left
