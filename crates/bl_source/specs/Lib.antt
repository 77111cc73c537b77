-- Sources is trusted: what a source of entries keeps, and why it refuses one.
pub mod Sources
