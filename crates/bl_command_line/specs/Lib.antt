-- Internal: the commands as clap has them.
pub mod Apps
