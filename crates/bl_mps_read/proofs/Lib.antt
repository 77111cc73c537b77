pub mod NameLists
