-- What has been judged, what is ready and what stands stays so as the store grows.
pub mod Stores
pub mod Judged
pub mod Ready
pub mod Stands
