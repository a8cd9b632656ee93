pub mod EmptyClauseLists
