-- Forms, Grammar, Places, Texts and Laws are trusted: which line may stand where, what the text of a certificate is,
-- and where another text first fails to be one. Steps is internal.
pub mod Forms
pub mod Grammar
pub mod Laws
pub mod Places
pub mod Steps
pub mod Texts
