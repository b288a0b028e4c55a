-- Where a run is done it has made one whole tree, or a file whose imports and declarations are told apart by their kinds.
pub mod FileParts
pub mod Made
