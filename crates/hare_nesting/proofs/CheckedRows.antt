-- A check of rows of the table, and that it holds of all rows of rules that need nothing of the trees under way.
pub mod Slots
pub mod SlotForms
pub mod SlotSorts
pub mod SlotRows
