-- Trusted. The steps of a book as it keeps them.
use Rattle.std.specs.Prelude.{Option, Some, None}
use Rattle.std.specs.Arc.{arc_value}
use Rattle.bl_leaf_terms.specs.Incumbents.{Incumbent}
use Rattle.bl_book_terms.specs.Books as books
use Rattle.bl_core.specs.declared.event.Event.{Event}
use Rattle.bl_core.specs.declared.event.Event.TheVariants.{Claim, Back, Split, Close, Offer}

-- the step that an event is
abbrev pub event_of : Event → books.Event
event_of (Claim worker node) = books.Claim worker node
event_of (Back worker node) = books.Back worker node
event_of (Split worker node halves why cuts) = books.Split worker node halves why cuts
event_of (Close worker node leaf) = books.Close worker node leaf
event_of (Offer worker incumbent) = books.Offer worker (arc_value incumbent)

-- the incumbent that it brings
abbrev pub brought : Event → Option Incumbent
brought (Claim worker node) = None
brought (Back worker node) = None
brought (Split worker node halves why cuts) = why.cutoff
brought (Close worker node leaf) = leaf.cutoff
brought (Offer worker incumbent) = Some (arc_value incumbent)
