-- All are trusted. Books: the states of a book and the steps that lead from one to the next. Laws: what every run of
-- steps keeps, and what a finished book says.
pub mod Books
pub mod Laws
