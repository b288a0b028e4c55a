pub mod Files
pub mod Named
