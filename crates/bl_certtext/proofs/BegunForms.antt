-- A line with which a part begins has its form.
use Rattle.bl_certline.specs.declared.line.CertLine.TheVariants as lines
use Rattle.bl_certtext.specs.declared.part.Part.TheVariants as parts
use Rattle.bl_certtext.specs.Forms.{BeginsWithForm}

pub begins_with_form : BeginsWithForm
begins_with_form p parts.Version (lines.Version number) h = h
begins_with_form p parts.Sense (lines.Sense maximise) h = tt
begins_with_form p parts.Statement (lines.StatesOptimal value) h = tt
begins_with_form p parts.Statement lines.StatesInfeasible h = tt
begins_with_form p parts.Point (lines.Point values) h = h.columns
begins_with_form p parts.EntryCount (lines.Entries count) h = tt
begins_with_form p (parts.Entries left last) (lines.EntryHead link) h = h.0.count
begins_with_form p parts.Answer (lines.Best value response) h = h.count
begins_with_form p parts.Answer lines.NoAnswer h = tt
begins_with_form p (parts.FollowerTree a) (lines.Split column place) h = tt
begins_with_form p (parts.FollowerTree a) (lines.Proof den mult) h = tt
begins_with_form p parts.CutCount (lines.CutCount count) h = tt
begins_with_form p (parts.Cuts place count) lines.CutHead h = tt
begins_with_form p (parts.CutArea place) (lines.Area sides) h = h.count
begins_with_form p (parts.Tight place) (lines.TightList tight) h = tt
begins_with_form p (parts.Inverse items) (lines.Inverse den) h = tt
begins_with_form p (parts.Units left items) (lines.Unit pairs) h = tt
begins_with_form p parts.At (lines.At values) h = h.columns
begins_with_form p parts.Response (lines.Response values) h = h.count
begins_with_form p (parts.Head cuts) lines.TreeHead h = tt
begins_with_form p (parts.Tree a cuts) (lines.Split column place) h = tt
begins_with_form p (parts.Tree a cuts) (lines.Close den value_row count cited mult) h = tt
begins_with_form p (parts.Tree a cuts) lines.NoAnswer h = tt
begins_with_form p parts.End lines.End h = tt
begins_with_form p part line h = absurd h
