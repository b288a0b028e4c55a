pub mod ArgumentLemmas
pub mod DataLemmas
pub mod ItemLemmas
pub mod PutLemmas
pub mod StartLemmas
pub mod SymbolLemmas
