-- Types that fit, in this store and in later ones, and lists of nodes in check order with the coercions that they carry.
pub mod NodeLists
pub mod Fits
