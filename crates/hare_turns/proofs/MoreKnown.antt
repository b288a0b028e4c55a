-- What has been judged stays so once more is known of declarations, of which the rows of a declaration read nothing.
pub mod Declarations
pub mod Rows
pub mod Agreement
