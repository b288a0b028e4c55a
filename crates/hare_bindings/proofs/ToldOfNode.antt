-- What a judge of declarations is told of a node and its kids, and that the rows read nothing of what is known of others.
pub mod Kids
pub mod Rows
pub mod Told
