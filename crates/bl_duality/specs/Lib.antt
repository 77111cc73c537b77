-- Laws is trusted: what closing dictionaries prove.
pub mod Laws
