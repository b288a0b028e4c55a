-- Kids put behind others and taken out: what is left, and how high it is at the most.
pub mod LastKid
pub mod Heights
